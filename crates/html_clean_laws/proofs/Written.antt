-- Clean nodes have no fault of writing, and a reader does not refuse them.
use Rattle.std.proofs.Common.{◌≡◌, ℕ, ◌≤◌, Bool, true, false, not, ◌==◌, List, [], ◌∷◌, ◌++◌, length, refl, ap, sym, subst, ◌∙◌}
use Rattle.std.proofs.lemmas.Bool.{and_parts}
use Rattle.std.specs.List.{list_all}
use Rattle.html_names_core.specs.{Characters.{all, is_text_char}, Kinds.{is_void}}
use Rattle.html_dom_tree.specs.FrameFree.{NodeIsFrameFree, NodesAreFrameFree}
use Rattle.html_dom_tree.specs.Tree.{TextPair, Head, NodeView, tag_node, text_node, element_node, frame_node, NodesView, none, node}
use Rattle.html_page_nesting.specs.declared.surroundings.Surroundings.{Surroundings}
use Rattle.typst_html_encode.specs.ExportFaults.{attrs_faults, is_reference, node_faults, nodes_faults, text_faults, void_faults}
use Rattle.typst_html_encode.specs.{FrameWriters.{Frames}, Text.{escaping_of}}
use Rattle.typst_html_nesting_laws.specs.TreesStay.{NodeIsReadable, NodesAreReadable}
use Rattle.html_clean_values.{proofs.Replacing.{replaced_is_plain}, specs.Replaced.{is_plain_char, replaced}}
use Rattle.html_clean_policy.proofs.KeptAttrs.{few_attrs_are_kept, kept_values_are_written}
use Rattle.html_clean_policy.specs.{KeptAttrs.{attrs_kept}, Policies.{IsSound, PolicyView}}
use Rattle.html_clean_laws.proofs.Names.{not_escapable, not_self_closing, not_written_raw}
use Rattle.html_clean_laws.specs.CleanNodes.{AreClean, IsClean, IsCleanHead}

-- a text without a fault, in what is not written as references alone
abbrev IsPlain : (reference : Bool) → List ℕ → Type 0
IsPlain reference s = (reference ≡ false) × (all is_plain_char s ≡ true)

text_written : (e : _) (span : ℕ) (s : List ℕ) → IsPlain (is_reference e) s →
    text_faults e span s ≡ []
text_written e span [] h = refl
text_written e span (c ∷ cs) h =
    let both = and_parts (is_plain_char c) (all is_plain_char cs) h.1 in
    let char = and_parts (is_text_char c) (not (c == 13)) both.0 in
    rw (char.0, h.0) (text_written e span cs (h.0, both.1))

pub held_faults : (span : ℕ) (s : List ℕ) → replaced s ≡ s →
    text_faults (escaping_of false) span s ≡ []
held_faults span s h = text_written (escaping_of false) span s
    (refl, subst (λ t. all is_plain_char t ≡ true) h (replaced_is_plain s))

values_written : (span : ℕ) (ps : List TextPair) →
    list_all (λ pair. all is_plain_char pair.1) ps ≡ true → attrs_faults span ps ≡ []
values_written span [] h = refl
values_written span (a ∷ ps) h =
    let both = and_parts (all is_plain_char a.1) _ h in
    let own : IsPlain false a.1 = (refl, both.0) in
    rw text_written (values_written span ps both.1)

module _ (p : PolicyView) (sound : IsSound p) (frames : Frames) (around : Surroundings) (h : Head)
    (clean : IsCleanHead p around h) where
  not_spaced : h.pre_span ≡ false
  not_spaced = ap (λ k. k.pre_span) (sym clean.plain)

  attrs_written : attrs_faults h.span h.attrs ≡ []
  attrs_written = ap (attrs_faults h.span) (sym clean.attrs)
      ∙ values_written h.span (attrs_kept p h.name h.attrs) (kept_values_are_written p h.name h.attrs sound)

  pub few_attrs : length h.attrs ≤ 256
  few_attrs = subst (λ bs. length bs ≤ 256) clean.attrs (few_attrs_are_kept p h.name h.attrs)

  pub element_written : (void : Bool) (kids : NodesView) → is_void h.name ≡ void →
      (void ≡ true → kids ≡ none) → nodes_faults frames false false kids ≡ [] →
      node_faults frames false false (element_node h kids) ≡ []
  unfolding node_faults
  element_written true kids v empty inner =
      rw (attrs_written, not_self_closing p h.name clean.allowed, v) (ap (void_faults h.span) (empty refl))
  element_written false kids v empty inner =
      rw (
        attrs_written,
        not_self_closing p h.name clean.allowed,
        v,
        not_written_raw p h.name clean.allowed,
        not_escapable p h.name clean.allowed,
        not_spaced,
      ) inner

mutual
  unfolding IsClean AreClean node_faults nodes_faults

  node_written : (p : PolicyView) → IsSound p → (frames : Frames) (around : Surroundings)
      (first : Bool) (n : NodeView) → IsClean p around first n → node_faults frames false false n ≡ []
  node_written p sound frames around first (tag_node t) clean = absurd clean
  node_written p sound frames around first (text_node s span) clean = held_faults span s clean.held
  node_written p sound frames around first (element_node h kids) clean =
      element_written p sound frames around h clean.0 (is_void h.name) kids refl clean.1
      (nodes_written p sound frames _ true kids clean.2)
  node_written p sound frames around first (frame_node f) clean = absurd clean

  pub nodes_written : (p : PolicyView) → IsSound p → (frames : Frames) (around : Surroundings)
      (first : Bool) (ns : NodesView) → AreClean p around first ns →
      nodes_faults frames false false ns ≡ []
  nodes_written p sound frames around first none clean = refl
  nodes_written p sound frames around first (node n ns) clean =
      ap (λ fs. fs ++ nodes_faults frames false false ns)
      (node_written p sound frames around first n clean.0)
      ∙ nodes_written p sound frames around false ns clean.1

mutual
  unfolding IsClean AreClean NodeIsFrameFree NodesAreFrameFree

  node_frame_free : (p : PolicyView) (around : Surroundings) (first : Bool) (n : NodeView) →
      IsClean p around first n → NodeIsFrameFree n
  node_frame_free p around first (tag_node t) clean = tt
  node_frame_free p around first (text_node s span) clean = tt
  node_frame_free p around first (element_node h kids) clean =
      nodes_frame_free p _ true kids clean.2
  node_frame_free p around first (frame_node f) clean = clean

  pub nodes_frame_free : (p : PolicyView) (around : Surroundings) (first : Bool) (ns : NodesView) →
      AreClean p around first ns → NodesAreFrameFree ns
  nodes_frame_free p around first none clean = tt
  nodes_frame_free p around first (node n ns) clean =
      (node_frame_free p around first n clean.0, nodes_frame_free p around false ns clean.1)

mutual
  unfolding IsClean AreClean NodeIsReadable NodesAreReadable

  node_readable : (p : PolicyView) → IsSound p → (frames : Frames) (around : Surroundings)
      (first : Bool) (n : NodeView) → IsClean p around first n → NodeIsReadable n
  node_readable p sound frames around first (tag_node t) clean = tt
  node_readable p sound frames around first (text_node s span) clean = tt
  node_readable p sound frames around first (element_node h kids) clean = (
    few_attrs p sound frames around h clean.0,
    nodes_readable p sound frames _ true kids clean.2,
  )
  node_readable p sound frames around first (frame_node f) clean = tt

  pub nodes_readable : (p : PolicyView) → IsSound p → (frames : Frames) (around : Surroundings)
      (first : Bool) (ns : NodesView) → AreClean p around first ns → NodesAreReadable ns
  nodes_readable p sound frames around first none clean = tt
  nodes_readable p sound frames around first (node n ns) clean = (
    node_readable p sound frames around first n clean.0,
    nodes_readable p sound frames around false ns clean.1,
  )
