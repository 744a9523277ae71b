-- Clean nodes: HTML can hold each character of them, a policy allows each element, attribute, URL and
-- declaration, and browsers leave each node where it is.
use Rattle.std.specs.Prelude.{◌≡◌, ℕ, Bool, true, false, List, []}
use Rattle.html_names_core.specs.Kinds.{is_void}
use Rattle.html_dom_tree.specs.Tree.{Head, NodeView, tag_node, text_node, element_node, frame_node, NodesView, none, node, plain_head}
use Rattle.html_page_nesting.specs.{Kept.{keeps_element, keeps_text}, Walks.{surroundings_in}}
use Rattle.html_page_nesting.specs.declared.surroundings.Surroundings.{Surroundings}
use Rattle.html_clean_values.specs.Replaced.{replaced}
use Rattle.html_clean_policy.specs.{KeptAttrs.{attrs_kept}, Policies.{PolicyView, allows}}
use Rattle.typst_html_nesting_laws.specs.FragmentsStay.{begins_marked}

abbrev pub is_some_text : List ℕ → Bool
is_some_text [] = false
is_some_text s = true

-- a text that is written as it is, and stays where it is; the first one of an element begins with no
-- byte order mark
pub record IsCleanText (around : Surroundings) (first : Bool) (s : List ℕ) : Type 0 where
  pub some : is_some_text s ≡ true
  pub held : replaced s ≡ s
  pub kept : keeps_text around s ≡ true
  pub unmarked : first ≡ true → begins_marked s ≡ false

-- an element that stays where it is, with attributes that stay as they are
pub record IsCleanHead (p : PolicyView) (around : Surroundings) (h : Head) : Type 0 where
  pub plain : plain_head h.name h.attrs h.span ≡ h
  pub allowed : allows p h.name ≡ true
  pub attrs : attrs_kept p h.name h.attrs ≡ h.attrs
  pub kept : keeps_element around h none ≡ true

unfoldable mutual
  pub IsClean : PolicyView → Surroundings → (first : Bool) → NodeView → Type 0
  IsClean p around first (tag_node t) = ⊥
  IsClean p around first (text_node s span) = IsCleanText around first s
  IsClean p around first (element_node h kids) = IsCleanHead p around h
      × (is_void h.name ≡ true → kids ≡ none)
      × AreClean p (surroundings_in h around) true kids
  IsClean p around first (frame_node f) = ⊥

  -- the first of the nodes is the first one of its element, or not
  pub AreClean : PolicyView → Surroundings → (first : Bool) → NodesView → Type 0
  AreClean p around first none = Unit {0}
  AreClean p around first (node n ns) = IsClean p around first n × AreClean p around false ns
