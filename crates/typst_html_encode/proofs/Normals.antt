-- What the reader gathers is the normal form.
use Rattle.std.proofs.Common.{◌≡◌, ℕ, List, [], ◌∷◌, ◌++◌, refl, ap, ◌∙◌, sym}
use Rattle.html_dom_tree.{proofs.Basics.{put_twice}, specs.PlainTree.{branch, Plains, no_plains, plain, put_words, nodes_normal}}
use Rattle.html_dom_tree.specs.Tree.{TextPair, tag_node, text_node, element_node, frame_node, NodesView, none, node}
use Rattle.typst_html_encode.proofs.Runs.{right_empty}
use Rattle.typst_html_encode.specs.{ExportFaults.{nodes_raw_faults, text_faults}, Reader.{◌then◌, with_text}, Text.{nodes_raw_text}}
use Rattle.typst_html_encode.specs.declared.escape.Escaping.{Escaping}

-- the children before, and the text since the last of them
abbrev pub joined : Plains → List ℕ → NodesView → Plains × List ℕ
joined before text none = (before, text)
joined before text (node (tag_node t) ns) = joined before text ns
joined before text (node (text_node s span) ns) = joined before (text ++ s) ns
joined before text (node (element_node h kids) ns) =
    joined (with_text text before then plain (branch h.name h.attrs
    (nodes_normal kids)) no_plains) [] ns
joined before text (node (frame_node b) ns) = joined before text ns

abbrev pub closed : Plains × List ℕ → Plains
closed x = with_text x.1 x.0

pub then_assoc : (a b c : Plains) → ((a then b) then c) ≡ (a then (b then c))
then_assoc no_plains b c = refl
then_assoc (plain p ps) b c = ap (plain p) (then_assoc ps b c)

pub then_none : (a : Plains) → (a then no_plains) ≡ a
then_none no_plains = refl
then_none (plain p ps) = ap (plain p) (then_none ps)

with_text_is : (t : List ℕ) (b : Plains) → with_text t b ≡ (b then put_words t no_plains)
with_text_is [] b = sym (then_none b)
with_text_is (c ∷ cs) b = refl

before_element : (t : List ℕ) (name : List ℕ) (attrs : List TextPair) (kids ps : Plains) →
    (put_words t no_plains then plain (branch name attrs kids) ps)
    ≡ put_words t (plain (branch name attrs kids) ps)
before_element [] name attrs kids ps = refl
before_element (c ∷ cs) name attrs kids ps = refl

pub joined_is : (ns : NodesView) (b : Plains) (t : List ℕ) →
    closed (joined b t ns) ≡ (b then put_words t (nodes_normal ns))
unfolding nodes_normal
joined_is none b t = with_text_is t b
joined_is (node (tag_node m) ns) b t = joined_is ns b t
joined_is (node (text_node s span) ns) b t = joined_is ns b (t ++ s)
    ∙ ap (λ n. b then n) (sym (put_twice t s (nodes_normal ns)))
joined_is (node (element_node h kids) ns) b t =
    let e = branch h.name h.attrs (nodes_normal kids) in
    joined_is ns (with_text t b then plain e no_plains) []
    ∙ (then_assoc (with_text t b) (plain e no_plains) (nodes_normal ns)
    ∙ (ap (λ l. l then plain e (nodes_normal ns)) (with_text_is t b)
    ∙ (then_assoc b (put_words t no_plains) (plain e (nodes_normal ns))
    ∙ ap (λ n. b then n) (before_element t h.name h.attrs (nodes_normal kids) (nodes_normal ns)))))
joined_is (node (frame_node x) ns) b t = joined_is ns b t

pub texts_alone : (e : Escaping) (ns : NodesView) → nodes_raw_faults e ns ≡ [] →
    put_words (nodes_raw_text ns) no_plains ≡ nodes_normal ns
unfolding nodes_normal
texts_alone e none h = refl
texts_alone e (node (tag_node m) ns) h = texts_alone e ns h
texts_alone e (node (text_node s span) ns) h =
    sym (put_twice s (nodes_raw_text ns) no_plains)
    ∙ ap (put_words s) (texts_alone e ns (right_empty (text_faults e span s)
    (nodes_raw_faults e ns) h))
texts_alone e (node (element_node h kids) ns) f = cc
texts_alone e (node (frame_node b) ns) f = cc

pub with_text_none : (t : List ℕ) → with_text t no_plains ≡ put_words t no_plains
with_text_none [] = refl
with_text_none (c ∷ cs) = refl
