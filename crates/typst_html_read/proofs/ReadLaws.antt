-- What is written is read, and what was read is written.
use Rattle.std.proofs.Common.{◌≡◌, arith, ℕ, Bool, true, false, ◌&&◌, List, [], ◌∷◌, Option, Some, None, bytes_eq, codes, take, drop, refl, sym, ap, ◌∙◌, subst}
use Rattle.std.{specs.List.{list_all}, specs.Prelude.{if◌then◌else◌, is_none}}
use Rattle.html_names_core.{proofs.Basics.{none_from_is_none}, proofs.Faults.{valid_attr, valid_tag}, specs.Names.{tag_fault, attr_fault}}
use Rattle.html_dom_tree.specs.FrameFree.{NodeIsFrameFree, NodesAreFrameFree, ElementIsFrameFree}
use Rattle.html_dom_tree.specs.{PlainTree.{Plain, words, branch, Plains, no_plains, plain, element_normal}, Tree.{TextPair, ElementView}}
use Rattle.typst_html_encode.{proofs.ReadingBack.{reads_back}, specs.Reader.{ReaderState, Outside, final_root, read}}
use Rattle.typst_html_encode.specs.ReadingBack.{PairsAreNamed, HeadIsNamed, NodeIsNamed, NodesAreNamed, ElementIsNamed}
use Rattle.typst_html_read.proofs.Normal.{RootIsNormal, Fits, run_fits}
use Rattle.typst_html_read.specs.PlainElements.{plain_head, plain_nodes, plain_element, is_named, are_named, accepted}
use Rattle.typst_html_read.specs.ReadLaws.{WrittenIsRead, ReadIsWritten, ReadIsNormal}

pub written_is_read : WrittenIsRead
written_is_read frames e named free clean = ap accepted ((reads_back frames).0 e named free clean)

-- the root that is read is normal

final_fits : (s : ReaderState) → Fits s → RootIsNormal (final_root s)
final_fits (Outside root) h = h
final_fits s h = tt

if_normal : (b : Bool) (r : Option Plain) → RootIsNormal r → RootIsNormal (if b then r else None)
if_normal true r h = h
if_normal false r h = tt

read_fits : (text : List ℕ) → RootIsNormal (read text)
read_fits text = if_normal (bytes_eq (take 15 text) (codes "<!DOCTYPE html>")) _
    (final_fits _ (run_fits (drop 15 text) (Outside None) tt))

-- what an element that is accepted was read as
record Accepted (r : Option Plain) (e : ElementView) : Type 0 where
  name : List ℕ
  attrs : List TextPair
  kids : Plains
  is : r ≡ Some (branch name attrs kids)
  names : (is_named name attrs && are_named kids) ≡ true
  element : plain_element name attrs kids ≡ e

some_if : {A : Type 0} (b : Bool) (x y : A) → (if b then Some x else None) ≡ Some y →
    (b ≡ true) × (x ≡ y)
some_if true x y h = (refl, cc)
some_if false x y h = cc

accepted_is : (r : Option Plain) (e : ElementView) → accepted r ≡ Some e → Accepted r e
accepted_is None e h = cc
accepted_is (Some (words t)) e h = cc
accepted_is (Some (branch n others ks)) e h =
    let both = some_if _ _ _ h in
    record { name = n; attrs = others; kids = ks; is = refl; names = both.0; element = both.1 }

pub read_is_normal : ReadIsNormal
read_is_normal text e h =
    let a = accepted_is (read text) e h in
    let n = subst RootIsNormal a.is (read_fits text) in
    a.is ∙ (ap (λ ks. Some (branch a.name a.attrs ks)) (sym n)
    ∙ ap (λ x. Some (element_normal x)) a.element)

pairs_valid : (attrs : List TextPair) →
    list_all (λ p. is_none (attr_fault p.0)) attrs ≡ true → PairsAreNamed attrs
pairs_valid [] h = tt
pairs_valid (p ∷ ps) h = (
  valid_attr p.0 (none_from_is_none (attr_fault p.0) (grind arith)),
  pairs_valid ps (grind arith),
)

head_valid : (name : List ℕ) (attrs : List TextPair) → is_named name attrs ≡ true →
    HeadIsNamed (plain_head name attrs)
head_valid name attrs h = (
  valid_tag name (none_from_is_none (tag_fault name) (grind arith)),
  pairs_valid attrs (grind arith),
)

nodes_valid : (ps : Plains) → are_named ps ≡ true → NodesAreNamed (plain_nodes ps)
unfolding plain_nodes are_named NodeIsNamed NodesAreNamed
nodes_valid no_plains h = tt
nodes_valid (plain (words t) ps) h = (tt, nodes_valid ps h)
nodes_valid (plain (branch name attrs kids) ps) h = (
  (head_valid name attrs (grind arith), nodes_valid kids (grind arith)),
  nodes_valid ps (grind arith),
)

element_valid : (name : List ℕ) (attrs : List TextPair) (kids : Plains) →
    (is_named name attrs && are_named kids) ≡ true → ElementIsNamed (plain_element name attrs kids)
unfolding NodeIsNamed
element_valid name attrs kids h =
    (head_valid name attrs (grind arith), nodes_valid kids (grind arith))

nodes_free : (ps : Plains) → NodesAreFrameFree (plain_nodes ps)
unfolding plain_nodes NodeIsFrameFree NodesAreFrameFree
nodes_free no_plains = tt
nodes_free (plain (words t) ps) = (tt, nodes_free ps)
nodes_free (plain (branch name attrs kids) ps) = (nodes_free kids, nodes_free ps)

pub read_is_written : ReadIsWritten
read_is_written frames text e h clean =
    let a = accepted_is (read text) e h in
    (reads_back frames).0 e
    (subst ElementIsNamed a.element (element_valid a.name a.attrs a.kids a.names))
    (subst ElementIsFrameFree a.element (nodes_free a.kids)) clean
    ∙ sym (read_is_normal text e h)
