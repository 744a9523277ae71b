-- In the text of a document exactly the items' text is seen, by what writing says of that text.
use Rattle.std.proofs.Common.{◌≡◌, ℕ, Bool, true, false, List, Some, refl, ap, ◌∙◌, Result, Ok, Err, IfOk, OnOk, String, Global}
use Rattle.html_dom_tree.specs.{FrameFree.{ElementIsFrameFree}, PlainTree.{element_normal}, Tree.{ElementView}, Views.{text_view}}
use Rattle.html_dom_shown.specs.SeenBodies.{seen_tree}
use Rattle.typst_html_encode.specs.{Indented.{element_layout, ElementEndsWell}, Reader.{read}, declared.fault.ExportFault.{ExportFault}}
use Rattle.html_flow_convert.specs.Items.{ItemsView, no_items}
use Rattle.typst_html_spaces.specs.{ItemText.{items_text}, PlainFlow.{is_plain_flow}, SeenBody.{seen_text}}
use Rattle.typst_html_export.specs.SpacesInDocuments.{IsReadAs, IsShownAs, SpacesAreSeen}

module _ (root : ElementView) (items : ItemsView) where
  abbrev plainly_read : List ℕ → Type 0
  plainly_read text = read text ≡ Some (element_normal root)

  abbrev prettily_read : List ℕ → Type 0
  prettily_read text = read text ≡ Some (element_normal (element_layout root))

  -- the text can be read in that mode
  abbrev CanBeRead : (pretty : Bool) → Type 0
  CanBeRead pretty = ElementIsFrameFree root × (pretty ≡ true → ElementEndsWell true root)

  abbrev AreRead : (pretty : Bool) → Result (String Global) ExportFault → Type 0
  AreRead pretty r =
      (pretty ≡ false → ElementIsFrameFree root → IfOk r (λ t. plainly_read (text_view t)))
      × (pretty ≡ true → ElementIsFrameFree root → ElementEndsWell true root →
      IfOk r (λ t. prettily_read (text_view t)))

  seen_by : (pretty : Bool) (t : String Global) → AreRead pretty (Ok t) → CanBeRead pretty →
      IsShownAs root items → seen_text (text_view t) ≡ Some (items_text items)
  seen_by false t read can is = ap seen_tree (read.0 refl can.0) ∙ is.plain
  seen_by true t read can is = ap seen_tree (read.1 refl can.0 (can.1 refl)) ∙ is.pretty

  pub spaces_are_seen_if : (pretty : Bool) (r : Result (String Global) ExportFault)
      (notes : ItemsView) → AreRead pretty r →
      OnOk r (is_plain_flow items ≡ true → notes ≡ no_items → CanBeRead pretty) →
      (is_plain_flow items ≡ true → notes ≡ no_items → IsShownAs root items) →
      IfOk r (λ t. SpacesAreSeen (text_view t) items notes)
  spaces_are_seen_if pretty (Ok t) notes read can left =
      λ e none. seen_by pretty t read (can e none) (left e none)
  spaces_are_seen_if pretty (Err e) notes read can left = tt

  pub spaces_are_seen : (pretty : Bool) (r : Result (String Global) ExportFault)
      (notes : ItemsView) →
      (pretty ≡ false → ElementIsFrameFree root → IfOk r (λ t. plainly_read (text_view t))) →
      (pretty ≡ true → ElementIsFrameFree root → ElementEndsWell true root →
      IfOk r (λ t. prettily_read (text_view t))) →
      (is_plain_flow items ≡ true → notes ≡ no_items → IsReadAs root items) →
      IfOk r (λ t. SpacesAreSeen (text_view t) items notes)
  spaces_are_seen pretty r notes plain indented left =
      spaces_are_seen_if pretty r notes (plain, indented)
      (always r (λ e none. ((left e none).frame_free, λ p. (left e none).ends_well)))
      (λ e none. (left e none).shown)
    where
      always : {A : Type 0} (r : Result (String Global) ExportFault) → A → OnOk r A
      always (Ok t) a = a
      always (Err e) a = tt
