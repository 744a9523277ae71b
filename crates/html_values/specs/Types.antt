-- Types of attributes, as pure values.
use Rattle.std.specs.{Box.{box_value}, Prelude.{ℕ, List, [], ◌∷◌, map, Bool}}
use Rattle.html_names_core.specs.Texts.{texts_view}
use Rattle.html_values.specs.declared.attr_type.{AttrType.{AttrType, AttrType-F, fold-AttrType}, ListType.{ListType, ListType-F}}
use Rattle.html_values.specs.declared.native_type.NativeType.{NativeType}

mutual
  pub data AttrTypeView : Type 0 where
    presence : AttrTypeView
    native : NativeType → AttrTypeView
    strings : List (List ℕ) → AttrTypeView
    union : AttrTypesView → AttrTypeView
    list : (inner : AttrTypeView) (separator : ℕ) (shorthand : Bool) → AttrTypeView

  pub data AttrTypesView : Type 0 where
    no_attr_types : AttrTypesView
    attr_type : AttrTypeView → AttrTypesView → AttrTypesView

abbrev pub attr_types_of : List AttrTypeView → AttrTypesView
attr_types_of [] = no_attr_types
attr_types_of (k ∷ ks) = attr_type k (attr_types_of ks)

abbrev pub list_type_step : ListType-F AttrTypeView AttrTypeView → AttrTypeView
list_type_step l = list (box_value l.inner) l.separator l.shorthand

abbrev pub attr_type_step : AttrType-F AttrTypeView AttrTypeView → AttrTypeView
attr_type_step AttrType-F.Presence = presence
attr_type_step (AttrType-F.Native t) = native t
attr_type_step (AttrType-F.Strings texts) = strings (texts_view texts.items)
attr_type_step (AttrType-F.Union members) = union (attr_types_of members.items)
attr_type_step (AttrType-F.List l) = l

abbrev pub attr_type_view : AttrType → AttrTypeView
attr_type_view = fold-AttrType AttrTypeView AttrTypeView attr_type_step list_type_step

abbrev pub inner_view : ListType → AttrTypeView
inner_view l = attr_type_view (box_value l.inner)

abbrev pub list_type_view : ListType → AttrTypeView
list_type_view l = list (inner_view l) l.separator l.shorthand

abbrev pub attr_types_view : List AttrType → AttrTypesView
attr_types_view ts = attr_types_of (map attr_type_view ts)
