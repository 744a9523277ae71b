-- Elements that have nothing that a text does not spell, and their children as plain nodes.
use Rattle.std.proofs.Common.{◌≡◌, ℕ, List, [], ◌∷◌, refl, sym, ap, ◌∙◌, subst, false, eqb, length, chars}
use Rattle.std.proofs.lemmas.{Bool.{false≢true}, Str.{encodes-chars}}
use Rattle.std.specs.{Prelude.{Result, Ok, Err, OnOk, OnErr}, Str.{IsUtf8}}
use Rattle.html_dom_tree.specs.PlainTree.{Plain, words, branch, Plains, no_plains, plain}
use Rattle.html_dom_tree.specs.Tree.{TextPair, NodeView, tag_node, text_node, element_node, frame_node, NodesView, none, node, ElementView, with_last, with_node}
use Rattle.typst_html_encode.specs.Reader.{◌then◌, Open, with_text}
use lib.Utf8.{encodes}
use Rattle.typst_html_read.specs.{PlainElements.{plain_head, plain_nodes}, PlainViews.{bare_nodes, open_view, IsPlain, completed}}

-- an element without children

pub bare_plain : (v : ElementView) (name : List ℕ) (attrs : List TextPair) →
    v ≡ (plain_head name attrs, none) → IsPlain v
unfolding bare_nodes plain_nodes
bare_plain v name attrs e = subst IsPlain (sym e) refl

pub bare_open : (v : ElementView) (name : List ℕ) (attrs : List TextPair) →
    v ≡ (plain_head name attrs, none) →
    open_view v ≡ record { name = name; attrs = attrs; children = no_plains }
unfolding bare_nodes
bare_open v name attrs e = ap open_view e

-- one more child

bare-last : (ns : NodesView) (n : NodeView) →
    bare_nodes (with_last ns n) ≡ (bare_nodes ns then bare_nodes (node n none))
unfolding bare_nodes
bare-last none n = refl
bare-last (node (tag_node t) ns) n = bare-last ns n
bare-last (node (text_node s span) ns) n = ap (plain (words s)) (bare-last ns n)
bare-last (node (element_node h kids) ns) n =
    ap (plain (branch h.name h.attrs (bare_nodes kids))) (bare-last ns n)
bare-last (node (frame_node f) ns) n = bare-last ns n

-- a plain node as a node
unfoldable plain_node : Plain → NodeView
plain_node (words s) = text_node s 0
plain_node (branch name attrs kids) = element_node (plain_head name attrs) (plain_nodes kids)

plain-last : (ps : Plains) (p : Plain) →
    plain_nodes (ps then plain p no_plains) ≡ with_last (plain_nodes ps) (plain_node p)
unfolding plain_nodes plain_node
plain-last no_plains (words s) = refl
plain-last no_plains (branch name attrs kids) = refl
plain-last (plain (words t) ps) p = ap (node (text_node t 0)) (plain-last ps p)
plain-last (plain (branch name attrs kids) ps) p =
    ap (node (element_node (plain_head name attrs) (plain_nodes kids))) (plain-last ps p)

abbrev with_plain : Plain → Open → Open
with_plain p o = record o { children = o.children then plain p no_plains }

-- a plain node is one more child
module _ (e v : ElementView) (n : NodeView) (p : Plain) (h : v ≡ with_node n e)
    (bare : bare_nodes (node n none) ≡ plain p no_plains) where
  more : bare_nodes (with_last e.1 n) ≡ (bare_nodes e.1 then plain p no_plains)
  more = bare-last e.1 n ∙ ap (λ ps. bare_nodes e.1 then ps) bare

  one_open : open_view v ≡ with_plain p (open_view e)
  one_open = ap open_view h ∙ ap (λ ps. record (open_view e) { children = ps }) more

  one_plain : IsPlain e → n ≡ plain_node p → IsPlain v
  one_plain q is =
      let kids : with_last e.1 n ≡ plain_nodes (bare_nodes (with_last e.1 n)) =
      ap (λ x. with_last x.1 n) q
      ∙ (ap (with_last (plain_nodes (bare_nodes e.1))) is
      ∙ (sym (plain-last (bare_nodes e.1) p) ∙ ap plain_nodes (sym more))) in
      subst IsPlain (sym h) (λ i. ((q i).0, kids i))

module _ (e v : ElementView) (s : List ℕ) (h : v ≡ with_node (text_node s 0) e) where
  pub text_open : open_view v ≡ with_plain (words s) (open_view e)
  unfolding bare_nodes
  text_open = one_open e v (text_node s 0) (words s) h refl

  pub text_plain : IsPlain e → IsPlain v
  unfolding bare_nodes plain_node
  text_plain p = one_plain e v (text_node s 0) (words s) h refl p refl

module _ (e d v : ElementView) (h : v ≡ with_node (element_node d.0 d.1) e) where
  pub element_open : open_view v ≡ with_plain (completed (open_view d)) (open_view e)
  unfolding bare_nodes
  element_open = one_open e v (element_node d.0 d.1) (completed (open_view d)) h refl

  pub element_plain : IsPlain e → IsPlain d → IsPlain v
  unfolding bare_nodes plain_node
  element_plain p q = one_plain e v (element_node d.0 d.1) (completed (open_view d)) h refl p
      (ap (λ x. element_node x.0 x.1) q)

-- a node was added, or none
pub plain_added : {A E : Type 0} (r : Result A E) (e v : ElementView) → IsPlain e →
    OnOk r (IsPlain v) → OnErr r (v ≡ e) → IsPlain v
plain_added (Ok a) e v p h k = h
plain_added (Err x) e v p h k = subst IsPlain (sym k) p

-- a text that is not empty, by its bytes

pub some_text : (bs : List ℕ) (ps : Plains) → IsUtf8 bs → eqb (length bs) 0 ≡ false →
    with_text (chars bs) ps ≡ (ps then plain (words (chars bs)) no_plains)
some_text bs ps u h = by (chars bs) (encodes-chars bs u)
  where
    by : (cs : List ℕ) → encodes cs ≡ bs → with_text cs ps ≡ (ps then plain (words cs) no_plains)
    by [] e = absurd (false≢true (sym h ∙ ap (λ l. eqb (length l) 0) (sym e)))
    by (c ∷ cs) e = refl
