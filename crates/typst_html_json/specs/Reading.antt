-- The outcomes of calls that read a part of a JSON value. Before a name was refused, a call makes
-- what the part spells; after that, it only checks that the part spells something. In both cases it
-- may fail where the part leaves the form.
use Rattle.std.specs.Prelude.{◌≡◌, ◌≢◌, ℕ, ◌+◌, true, false, List, [], ◌∷◌, ◌++◌, Option, Some, None, Result, Ok, MatchResult, String, Vec}
use Rattle.std.specs.declared.alloc.Global.{Global}
use Rattle.serde_json.specs.{Data.{Data}, View.{view}, declared.value.Value.{Value}}
use Rattle.html_dom_flat.specs.{Builders.{builder_view, built_count}, Flat.{node_count, nodes_count, node_flat, nodes_flat}}
use Rattle.html_dom_flat.specs.declared.builder.Builder.{Builder}
use Rattle.html_names_table.specs.NameTables.{with_name}
use Rattle.html_names_core.specs.{Names.{attr_fault}, declared.fault.NameFault.{NameFault}, declared.html_attr.HtmlAttr.{HtmlAttr}}
use Rattle.html_dom_tree.specs.{Tree.{TextPair, NodeView, NodesView}, Views.{pair_view, attrs_view, nodes_view}}
use Rattle.html_dom_tree.specs.declared.{attrs.HtmlAttrs.{HtmlAttrs}, introspection.Location.{Location}, node.HtmlNode.{HtmlNode}}
use Rattle.html_dom_tree.specs.declared.span.Span.{Span}
use Rattle.html_flow_convert.specs.Items.{ItemView, ItemsView}
use Rattle.html_flow_convert.specs.Views as flow
use Rattle.html_flow_convert.specs.{Views.{item_view, items_view}, declared.item.Item.{Item}, declared.item.Pair.{Pair}}
use Rattle.html_flow_places.specs.NamedLocations.{location_in}
use Rattle.typst_html_json.specs.{LeftForms.{Left, IsLeft, from_part}, Marks.{Mark}}
use Rattle.typst_html_json.specs.NameRefusals.{Refusal, refusals, pairs_refusals, name_refusals, all_name_refusals, item_refusals, items_refusals}
use Rattle.typst_html_json.specs.{SpelledItems.{Part}, declared.fault.Fault.{Fault}, declared.fault.InputPlace.{InputPlace}}
use Rattle.typst_html_json.specs.declared.fault.{Fault.TheVariants.{OutOfMemory, BadInput, Refused}, InputPlace.TheVariants.{Form}}
use Rattle.typst_html_json.specs.declared.reader.Reader.{Reader}

-- the state of a reader, apart from refusals
abbrev pub mark : Reader → Mark
mark r = record { lists = r.lists; names = r.places; numbered = r.numbered }

-- the first refusal: the earlier one, if there is one, or the first of these
abbrev pub first_of : (before : Option (ℕ × Span)) → List Refusal → Option (ℕ × Span)
first_of (Some r) rs = Some r
first_of None [] = None
first_of None (r ∷ rs) = Some (r.0, record { 0 = r.1 })

abbrev pub IsWant : Fault → Type 0
IsWant fault = fault ≡ OutOfMemory

-- the part leaves the form at the place of the fault, or an allocation failed
abbrev pub IsWrong : {A : Type 0} → Left A → Fault → Type 0
IsWrong wanted OutOfMemory = Unit {0}
IsWrong wanted (BadInput place) = IsLeft wanted place
IsWrong wanted (Refused number span) = ⊥

-- there is no such part, so the value leaves the form before the first list, or an allocation
-- failed
abbrev pub IsMissing : {A : Type 0} → Option A → Fault → Type 0
IsMissing wanted OutOfMemory = Unit {0}
IsMissing wanted (BadInput place) = (wanted ≡ None) × (place ≡ Form 0)
IsMissing wanted (Refused number span) = ⊥

-- a part without names, which stands before the first list, was read or is missing
abbrev pub ReadsMember : {A B : Type 0} → (view : A → B) → Result A Fault → Option B → Type 0
ReadsMember view r wanted = MatchResult r (λ a. wanted ≡ Some (view a)) (IsMissing wanted)

-- the text is not a JSON value and the fault has the place where it is wrong, or an allocation
-- failed
abbrev pub IsNoJson : Option Data → (wrong : InputPlace) → Fault → Type 0
IsNoJson wanted wrong OutOfMemory = Unit {0}
IsNoJson wanted wrong (BadInput place) = (place ≡ wrong) × (wanted ≡ None)
IsNoJson wanted wrong (Refused number span) = ⊥

abbrev pub ReadsJson : Result Value Fault → Option Data → (wrong : InputPlace) → Type 0
ReadsJson r wanted wrong =
    MatchResult r (λ value. wanted ≡ Some (view value)) (IsNoJson wanted wrong)

-- the fault of a name was remembered
abbrev pub Notes : (number : ℕ) → Span → Result (Unit {0}) Fault → (before after : Reader) → Type 0
Notes number span r before after = MatchResult r (λ _. (number ≢ 0) × (after
    ≡ record before { refused = first_of before.refused ((number, span.0) ∷ []) })) IsWant

-- the part spells something, and its first refusal is remembered; if nothing is refused, it was
-- made
pub record IsRead {B : Type 0} (refusals : B → List Refusal) (made : B) (wanted : Left (B × Mark))
    (before after : Reader) : Type 0 where
  pub whole : B
  pub spelled : wanted ≡ Ok (whole, mark after)
  pub noted : after.refused ≡ first_of before.refused (refusals whole)
  pub same : after.refused ≡ None → made ≡ whole

-- a part was read, or it leaves the form
abbrev pub Reads : {A B : Type 0} → (view : A → B) → (refusals : B → List Refusal)
    → Result A Fault → Left (B × Mark) → (before after : Reader) → Type 0
Reads view refusals r wanted before after =
    MatchResult r (λ a. IsRead refusals (view a) wanted before after) (IsWrong wanted)

-- a node was read and appended to a flat tree
pub record IsAdded (wanted : Left (NodeView × Mark)) (old new : Builder) (before after : Reader)
    : Type 0 where
  pub made : NodeView
  pub list : builder_view new ≡ builder_view old ++ node_flat (built_count old) made
  pub count : built_count new ≡ built_count old + node_count made
  pub read : IsRead name_refusals made wanted before after

-- a part was read as a node and appended to a flat tree, or it leaves the form
abbrev pub AddsNode : Result (Unit {0}) Fault → Left (NodeView × Mark) → (old new : Builder)
    → (before after : Reader) → Type 0
AddsNode r wanted old new before after =
    MatchResult r (λ _. IsAdded wanted old new before after) (IsWrong wanted)

-- nodes were read and appended to a flat tree
pub record AreAdded (wanted : Left (NodesView × Mark)) (old new : Builder) (before after : Reader)
    : Type 0 where
  pub made : NodesView
  pub list : builder_view new ≡ builder_view old ++ nodes_flat (built_count old) made
  pub count : built_count new ≡ built_count old + nodes_count made
  pub read : IsRead all_name_refusals made wanted before after

-- a part was read as nodes and appended to a flat tree, or it leaves the form
abbrev pub AddsNodes : Result (Unit {0}) Fault → Left (NodesView × Mark) → (old new : Builder)
    → (before after : Reader) → Type 0
AddsNodes r wanted old new before after =
    MatchResult r (λ _. AreAdded wanted old new before after) (IsWrong wanted)

abbrev pub ReadsNodes : Result (Vec HtmlNode Global) Fault → Left (NodesView × Mark)
    → (before after : Reader) → Type 0
ReadsNodes = Reads (λ nodes. nodes_view nodes.items) all_name_refusals

abbrev pub ReadsItem : Result Item Fault → Left (ItemView × Mark) → (before after : Reader) → Type 0
ReadsItem = Reads item_view item_refusals

abbrev pub ReadsItems : Result (Vec Pair Global) Fault → Left (ItemsView × Mark)
    → (before after : Reader) → Type 0
ReadsItems = Reads (λ pairs. items_view pairs.items) items_refusals

abbrev pub part_refusals : Part → List Refusal
part_refusals p = item_refusals p.0

abbrev pub ReadsPart : Result Pair Fault → Left (Part × Mark) → (before after : Reader) → Type 0
ReadsPart = Reads flow.pair_view part_refusals

-- a part without a numbered list
abbrev pub marked : {A : Type 0} → Mark → Option A → Left (A × Mark)
marked m = from_part m.lists (λ a. Ok (a, m))

-- a part without names that can be refused was read in the list that was opened last
abbrev pub ReadsHere : {A B : Type 0} → (view : A → B) → Result A Fault → Option B → Reader
    → Type 0
ReadsHere view r wanted reader =
    MatchResult r (λ a. wanted ≡ Some (view a)) (IsWrong (marked (mark reader) wanted))

-- the value has used a number for a location, so a name has none, or an allocation failed
abbrev pub IsBesideNumbers : Reader → Fault → Type 0
IsBesideNumbers reader OutOfMemory = Unit {0}
IsBesideNumbers reader (BadInput place) = (reader.numbered ≡ true) × (place ≡ Form reader.lists)
IsBesideNumbers reader (Refused number span) = ⊥

abbrev pub Locates : (name : List ℕ) → Result Location Fault → (before after : Reader) → Type 0
Locates name r before after = MatchResult r (λ l. (before.numbered ≡ false)
    × (l.0 ≡ location_in before.places name)
    × (after ≡ record before { places = with_name before.places name })) (IsBesideNumbers before)

abbrev pub ReadsName : (fault : List ℕ → Option NameFault) → Span → Result (List ℕ) Fault
    → (text : List ℕ) → (before after : Reader) → Type 0
ReadsName fault span r text before = Reads (λ name. name) (λ t. refusals span.0 (fault t)) r
    (Ok (text, mark before)) before

abbrev pub ReadsPair : Span → Result (HtmlAttr × String Global) Fault → Option TextPair
    → (before after : Reader) → Type 0
ReadsPair span r wanted before = Reads pair_view (λ p. refusals span.0 (attr_fault p.0)) r
    (marked (mark before) wanted) before

abbrev pub ReadsPairs : Span → Result HtmlAttrs Fault → Option (List TextPair)
    → (before after : Reader) → Type 0
ReadsPairs span r wanted before =
    Reads attrs_view (pairs_refusals span.0) r (marked (mark before) wanted) before
