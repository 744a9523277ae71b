-- Labels and names by location.
use Rattle.std.proofs.Common.{◌≡◌, ◌==◌, ℕ, Bool, true, false, cond, Option, Some, None, refl, ap, sym, ◌∙◌, subst, String, Global}
use Rattle.std.proofs.{Math.Path.{fun_ext}, lemmas.Bool.{eqb-true}}
use Rattle.std.specs.{BTreeMap.{BTreeMap, Updates, get}, Prelude.{if◌then◌else◌, option_map, is_some}}
use Rattle.html_dom_tree.{proofs.Basics.{or_else-none}, specs.Attributes.{or_else}, specs.FrameViews.{optional_text_view}}
use Rattle.html_dom_tree.specs.declared.introspection.Location.{Location}
use Rattle.html_names_core.specs.Texts.{text_view}
use Rattle.html_links.specs.TreeNames.{Name}
use Rattle.html_dom_document.{proofs.Locations.{is_eq-nat_cmp}, specs.Introspectors.{location_cmp}}
use Rattle.html_anchors.specs.{AnchorWalk.{with_entry}, LocationMaps.{labels_in, names_in}}

-- a value more, by what is shown of it
module _ {X Y : Type 0} (view : X → Y) where
  by_location : (b : Bool) (value : X) (y : Y) (old : Option X) → view value ≡ y →
      option_map view (cond b (Some value) old) ≡ (if b then Some y else option_map view old)
  by_location true value y old e = ap Some e
  by_location false value y old e = refl

  pub put_shown : (old new : BTreeMap Location X) (l : Location) (value : X) (y : Y) →
      view value ≡ y → Updates location_cmp old new l (Some value) → (k : ℕ) →
      option_map view (get location_cmp new (record { 0 = k }))
      ≡ (if l.0 == k then Some y else option_map view (get location_cmp old (record { 0 = k })))
  put_shown old new l value y e updates k =
      ap (option_map view) (updates.0 (record { 0 = k }))
      ∙ (rw (is_eq-nat_cmp l.0 k)
      (by_location (l.0 == k) value y (get location_cmp old (record { 0 = k })) e))

pub names_put : (old new : BTreeMap Location (String Global)) (l : Location) (s : String Global)
    (n : Name) → text_view s ≡ n → Updates location_cmp old new l (Some s) →
    names_in new ≡ with_entry l.0 n (names_in old)
names_put old new l s n e updates = fun_ext (put_shown text_view old new l s n e updates)

pub label_put : (old new : BTreeMap Location (Option (String Global))) (l : Location)
    (value : Option (String Global)) (label : Option Name) → optional_text_view value ≡ label →
    Updates location_cmp old new l (Some value) → labels_in old l.0 ≡ None → (k : ℕ) →
    labels_in new k ≡ or_else (labels_in old k) (if l.0 == k then Some label else None)
label_put old new l value label e updates absent k =
    put_shown optional_text_view old new l value label e updates k ∙ by_test (l.0 == k) refl
  where
    by_test : (b : Bool) → (l.0 == k) ≡ b →
        (if b then Some label else labels_in old k)
        ≡ or_else (labels_in old k) (if b then Some label else None)
    by_test true t =
        let none : labels_in old k ≡ None =
        subst (λ i. labels_in old i ≡ None) (eqb-true l.0 k t) absent in
        rw none refl
    by_test false t = sym (or_else-none (labels_in old k))

pub no_label : (labels : BTreeMap Location (Option (String Global))) (l : Location) →
    is_some (get location_cmp labels l) ≡ false → labels_in labels l.0 ≡ None
no_label labels l e = by_value (get location_cmp labels l) e
  where
    by_value : (o : Option (Option (String Global))) → is_some o ≡ false →
        option_map optional_text_view o ≡ None
    by_value None e = refl
    by_value (Some x) e = cc
