-- An element constructed from arguments: attributes from its typed arguments, and a body from the
-- first argument without a name.
use Rattle.std.specs.Prelude.{ℕ, List, [], ◌∷◌, ◌++◌, map, Bool, false, if◌then◌else◌, Option, None, Some, option_map, is_some, bytes_eq}
use Rattle.html_names_core.specs.{Kinds.{is_void, is_raw}, Texts.{TextPair, text_view}, declared.html_attr.HtmlAttr.{HtmlAttr}}
use Rattle.html_values.specs.{Casts.{CastAnswer, gives, nothing, refuses, cast}, Types.{AttrTypeView, attr_type_view}}
use Rattle.html_values.specs.{Values.{ValueView, none_value, str_value, value_view}, declared.attr_type.AttrType.{AttrType}}
use Rattle.html_values_css.specs.declared.cast_fault.{CastFault.{CastFault}, CastFault.TheVariants.{WrongKind}}
use Rattle.html_flow_faults.specs.ConstructFaults.{ConstructFaultView, cast_faults, body_kind}
use Rattle.html_flow_convert.specs.Items.{ElemView, ItemsView, no_items, item, text_item, inherits, BodyView, absent, present, new_head}
use Rattle.html_flow_convert.specs.Views.{items_view}
use Rattle.html_flow_construct.specs.declared.args.{Arg.{Arg}, ArgValue.{ArgValue}, ElementInfo.{ElementInfo}}
use Rattle.html_flow_construct.specs.declared.args.ArgValue.TheVariants.{Plain, Body as Items}

-- the content of an argument: a value or items
pub data ArgValueView : Type 0 where
  plain : ValueView → ArgValueView
  items : ItemsView → ArgValueView

pub record ArgView : Type 0 where
  pub name : Option (List ℕ)
  pub span : ℕ
  pub value : ArgValueView

-- a name with its type
abbrev pub Entry : Type 0
Entry = List ℕ × AttrTypeView

abbrev pub arg_value_view : ArgValue → ArgValueView
arg_value_view (Plain v) = plain (value_view v)
arg_value_view (Items ps) = items (items_view ps.items)

abbrev pub arg_view : Arg → ArgView
arg_view a = record {
  name = option_map text_view a.name;
  span = a.span.0;
  value = arg_value_view a.value;
}

abbrev pub args_view : List Arg → List ArgView
args_view = map arg_view

abbrev pub entry_view : HtmlAttr × AttrType → Entry
entry_view e = (e.0, attr_type_view e.1)

abbrev pub entries_view : List (HtmlAttr × AttrType) → List Entry
entries_view = map entry_view

-- the first entry of a name
abbrev pub entry_of : List Entry → List ℕ → Option Entry
entry_of [] name = None
entry_of (e ∷ es) name = if bytes_eq e.0 name then Some e else entry_of es name

-- the entry for an argument, if it has a name that the element knows
abbrev pub entry_for : List Entry → Option (List ℕ) → Option Entry
entry_for es None = None
entry_for es (Some name) = entry_of es name

-- the result of casting an argument; items are of the wrong kind for every type
abbrev pub cast_answer : AttrTypeView → ArgValueView → CastAnswer
cast_answer k (plain v) = cast k v
cast_answer k (items c) = refuses WrongKind

-- the attribute that a cast makes: a text becomes one, `nothing` does not
abbrev pub attr_of : List ℕ → CastAnswer → List TextPair
attr_of name (gives t) = (name, t) ∷ []
attr_of name nothing = []
attr_of name (refuses f) = []

abbrev pub fault_of : ℕ → CastAnswer → List (CastFault × ℕ)
fault_of span (gives t) = []
fault_of span nothing = []
fault_of span (refuses f) = (f, span) ∷ []

abbrev pub attrs_from : Option Entry → ArgValueView → List TextPair
attrs_from None given = []
attrs_from (Some e) given = attr_of e.0 (cast_answer e.1 given)

abbrev pub faults_from : ℕ → Option Entry → ArgValueView → List (CastFault × ℕ)
faults_from span None given = []
faults_from span (Some e) given = fault_of span (cast_answer e.1 given)

-- the attributes, in the arguments' order
abbrev pub attrs : List Entry → List ArgView → List TextPair
attrs es [] = []
attrs es (a ∷ more) = attrs_from (entry_for es a.name) a.value ++ attrs es more

-- all faults of casts, in the arguments' order
abbrev pub faults : List Entry → List ArgView → List (CastFault × ℕ)
faults es [] = []
faults es (a ∷ more) = faults_from a.span (entry_for es a.name) a.value ++ faults es more

-- the arguments that are not attributes of the element
abbrev pub other_args : List Entry → List ArgView → List ArgView
other_args es [] = []
other_args es (a ∷ more) =
    if is_some (entry_for es a.name) then other_args es more else a ∷ other_args es more

-- one text with the role of its list
abbrev pub text_items : List ℕ → ℕ → ItemsView
text_items s span = item (text_item s span) inherits no_items

-- the body that an argument makes: for a raw element a text, else items, a text, or none
abbrev pub arg_body : Bool → ArgValueView → ℕ → Option BodyView
arg_body raw (plain (str_value s)) span = Some (present (text_items s span))
arg_body false (plain none_value) span = Some (present no_items)
arg_body false (items c) span = Some (present c)
arg_body raw given span = None

-- a body and the other arguments, or the span of an argument of the wrong kind
pub data BodyChoice : Type 0 where
  takes : BodyView → List ArgView → BodyChoice
  fails : (span : ℕ) → BodyChoice

abbrev pub choice_from : Option BodyView → ℕ → List ArgView → BodyChoice
choice_from None span left = fails span
choice_from (Some body) span left = takes body left

-- a choice after an argument with a name, which stays before the others
abbrev pub choice_after : ArgView → BodyChoice → BodyChoice
choice_after a (takes body left) = takes body (a ∷ left)
choice_after a (fails span) = fails span

-- the choice of a body, which is the first argument without a name
abbrev pub first_choice : Bool → List ArgView → BodyChoice
first_choice raw [] = takes absent []
first_choice raw (a ∷ more) =
    if is_some a.name then choice_after a (first_choice raw more)
    else choice_from (arg_body raw a.value a.span) a.span more

-- the choice of a body for an element; a void element has none
abbrev pub body_choice : List ℕ → List ArgView → BodyChoice
body_choice name args = if is_void name then takes absent args else first_choice (is_raw name) args

-- faults of casts as one fault of construction, if there are any
abbrev pub joined_faults : List (CastFault × ℕ) → List ConstructFaultView
joined_faults [] = []
joined_faults (f ∷ fs) = cast_faults (f ∷ fs) ∷ []

-- the fault of a choice, if it is one
abbrev pub choice_faults : BodyChoice → List ConstructFaultView
choice_faults (takes body left) = []
choice_faults (fails span) = body_kind span ∷ []

-- an element with the arguments that it did not use
abbrev pub Construction : Type 0
Construction = ElemView × List ArgView

-- the element of that name, with these attributes and that body
abbrev pub constructed_element : List ℕ → List TextPair → BodyView → ElemView
constructed_element name pairs body = (record (new_head name) { attrs = pairs }, body)

-- the element with the body that was chosen
abbrev pub with_body : List ℕ → List Entry → List TextPair → BodyChoice → Option Construction
with_body name es pairs (takes body left) = Some (constructed_element name pairs body, other_args es left)
with_body name es pairs (fails span) = None

-- the element that arguments construct, if a body can be chosen
abbrev pub construction : ElementInfo → List ArgView → Option Construction
construction info args =
    let es = entries_view info.attrs.items in
    with_body info.tag es (attrs es args) (body_choice info.tag args)

-- all faults of construction: those of casts, then the wrong kind of body
abbrev pub construct_faults : ElementInfo → List ArgView → List ConstructFaultView
construct_faults info args =
    joined_faults (faults (entries_view info.attrs.items) args)
    ++ choice_faults (body_choice info.tag args)
