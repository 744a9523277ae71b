-- The names in what a cleaner leaves are valid, as those of the nodes are.
use Rattle.std.proofs.Common.{◌≡◌, ℕ, Bool, true, false, not, ◌&&◌, List, [], ◌∷◌, codes, refl}
use Rattle.std.proofs.lemmas.Bool.{and_from, and_parts, false≢true}
use Rattle.std.specs.{List.{list_all}}
use Rattle.html_names_core.specs.{Characters.{IsOf, all, is_attr_char}, Kinds.{is_void}}
use Rattle.html_dom_tree.specs.Tree.{TextPair, Head, NodeView, tag_node, text_node, element_node, frame_node, NodesView, none, node, with_last}
use Rattle.html_page_nesting.specs.{Kept.{keeps_text}, Walks.{surroundings_in}}
use Rattle.html_page_nesting.specs.declared.surroundings.Surroundings.{Surroundings}
use Rattle.typst_html_encode.specs.ReadingBack.{HeadIsNamed, NodeIsNamed, NodesAreNamed, PairsAreNamed}
use Rattle.html_clean_values.specs.Replaced.{replaced}
use Rattle.html_clean_policy.proofs.KeptAttrs.{kept_names_are_there}
use Rattle.html_clean_policy.specs.{KeptAttrs.{attrs_kept}, Policies.{PolicyView, is_dropped}}
use Rattle.html_clean_nodes.specs.Cleaned.{end_apart, first_text, kept_head, node_cleaned, nodes_cleaned, parted, parts, stays, with_text}
use Rattle.html_clean_laws.proofs.Texts.{chosen}

named_last : (ns : NodesView) (n : NodeView) → NodesAreNamed ns → NodeIsNamed n →
    NodesAreNamed (with_last ns n)
unfolding NodesAreNamed
named_last none n named last = (last, tt)
named_last (node m ms) n named last = (named.0, named_last ms n named.1 last)

text_named : (made : NodesView) (s : List ℕ) (span : ℕ) → NodesAreNamed made →
    NodesAreNamed (with_text made s span)
unfolding NodeIsNamed
text_named made [] span named = named
text_named made (c ∷ cs) span named = named_last made (text_node (c ∷ cs) span) named tt

parted_named : (apart : Bool) (made : NodesView) → NodesAreNamed made →
    NodesAreNamed (parted apart made)
unfolding NodeIsNamed
parted_named apart made named = chosen NodesAreNamed (apart && not (end_apart made))
    (named_last made (text_node (10 ∷ []) 0) named tt) named

-- what is said of names by a test
is_name : List ℕ → Bool
is_name [] = false
is_name (c ∷ cs) = is_attr_char c && all is_attr_char cs

name_passes : (n : List ℕ) → IsOf is_attr_char n → is_name n ≡ true
unfolding is_name
name_passes [] h = absurd h
name_passes (c ∷ cs) h = and_from (is_attr_char c) (all is_attr_char cs) h.0 h.1

name_is : (n : List ℕ) → is_name n ≡ true → IsOf is_attr_char n
unfolding is_name
name_is [] h = absurd (false≢true h)
name_is (c ∷ cs) h = let both = and_parts (is_attr_char c) (all is_attr_char cs) h in (both.0, both.1)

pairs_pass : (ps : List TextPair) → PairsAreNamed ps →
    list_all (λ pair. is_name pair.0) ps ≡ true
pairs_pass [] h = refl
pairs_pass (a ∷ ps) h = and_from (is_name a.0) _ (name_passes a.0 h.0) (pairs_pass ps h.1)

pairs_named : (ps : List TextPair) → list_all (λ pair. is_name pair.0) ps ≡ true →
    PairsAreNamed ps
pairs_named [] h = tt
pairs_named (a ∷ ps) h = let both = and_parts (is_name a.0) _ h in
    (name_is a.0 both.0, pairs_named ps both.1)

rel_is_name : is_name (codes "rel") ≡ true
unfolding is_name
rel_is_name = refl

attrs_named : (p : PolicyView) (element : List ℕ) (ps : List TextPair) → PairsAreNamed ps →
    PairsAreNamed (attrs_kept p element ps)
attrs_named p element ps h = pairs_named _
    (kept_names_are_there is_name p element ps rel_is_name (pairs_pass ps h))

head_named : (p : PolicyView) (h : Head) → HeadIsNamed h → HeadIsNamed (kept_head p h)
head_named p h named = (named.0, attrs_named p h.name h.attrs named.1)

mutual
  unfolding NodeIsNamed NodesAreNamed node_cleaned nodes_cleaned

  node_named : (p : PolicyView) (around : Surroundings) (made : NodesView) (n : NodeView) →
      NodesAreNamed made → NodeIsNamed n → NodesAreNamed (node_cleaned p around made n)
  node_named p around made (tag_node t) named last = named
  node_named p around made (text_node s span) named last =
      chosen NodesAreNamed (keeps_text around (replaced s))
      (text_named made (first_text made (replaced s)) span named) named
  node_named p around made (element_node h kids) named last =
      let inside = surroundings_in (kept_head p h) around in
      chosen NodesAreNamed (is_dropped h.name) named
      (chosen NodesAreNamed (stays p around h)
      (named_last made _ named (
        head_named p h last.0,
        chosen NodesAreNamed (is_void h.name) tt (nodes_named p inside none kids tt last.1),
      ))
      (parted_named (parts h) _ (nodes_named p around _ kids
      (parted_named (parts h) made named) last.1)))
  node_named p around made (frame_node f) named last = named

  pub nodes_named : (p : PolicyView) (around : Surroundings) (made ns : NodesView) →
      NodesAreNamed made → NodesAreNamed ns → NodesAreNamed (nodes_cleaned p around made ns)
  nodes_named p around made none named others = named
  nodes_named p around made (node n ns) named others =
      nodes_named p around _ ns (node_named p around made n named others.0) others.1
