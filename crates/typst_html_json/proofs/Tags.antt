-- Tags, in which no names are refused.
use Rattle.std.proofs.Common.{◌≡◌, ℕ, List, [], true, false, Bool, Option, Some, None, Ok, Err, refl, sym, ap, ◌∙◌, subst, if◌then◌else◌}
use Rattle.html_dom_tree.specs.Tree.{TagView, tag_node}
use Rattle.html_flow_convert.specs.Items.{tag_item}
use Rattle.html_flow_places.specs.NamedLocations.{location_in}
use Rattle.html_names_table.specs.NameTables.{with_name}
use Rattle.typst_html_json.proofs.Readings.{read_clean, read_mapped, wrong_by}
use Rattle.typst_html_json.specs.{Fields.{named_leaf, numbered_leaf}, LeftForms.{Left, mapped}, Marks.{Mark, are_there}}
use Rattle.typst_html_json.specs.{NameRefusals.{Refusal, name_refusals, item_refusals}, Reading.{IsBesideNumbers, IsRead, IsWrong, mark}}
use Rattle.typst_html_json.specs.declared.fault.{Fault.{Fault}, Fault.TheVariants.{OutOfMemory, BadInput, Refused}}
use Rattle.typst_html_json.specs.declared.reader.Reader.{Reader}

abbrev unless : {B : Type 0} → Bool → (n : ℕ) → B → Mark → Left (B × Mark)
unless b n x m = if b then Err n else Ok (x, m)

numbered_if : {B : Type 0} (made : TagView → B) (b : Bool) (t : TagView) (m since : Mark)
    → unless b m.lists (made t) since
    ≡ mapped (λ p. (made p.0, p.1)) (unless b m.lists t since)
numbered_if made true t m since = refl
numbered_if made false t m since = refl

-- what is made of a tag that is read
pub numbered_mapped : {B : Type 0} (made : TagView → B) (tag : Option TagView) (m : Mark)
    → numbered_leaf made tag m ≡ mapped (λ p. (made p.0, p.1)) (numbered_leaf (λ t. t) tag m)
numbered_mapped made None m = refl
numbered_mapped made (Some t) m = numbered_if made (are_there m.names) t m (record m { numbered = true })

abbrev unnamed : TagView → List Refusal
unnamed t = []

pub node_tag_read : (t : TagView) (tag : Option TagView) (m : Mark) (before after : Reader)
    → IsRead unnamed t (numbered_leaf (λ t. t) tag m) before after
    → IsRead name_refusals (tag_node t) (numbered_leaf tag_node tag m) before after
unfolding name_refusals
node_tag_read t tag m before after r =
    rw (numbered_mapped tag_node tag m)
    (read_mapped tag_node unnamed name_refusals t _ before after (λ a. refl) r)

pub item_tag_read : (t : TagView) (tag : Option TagView) (m : Mark) (before after : Reader)
    → IsRead unnamed t (numbered_leaf (λ t. t) tag m) before after
    → IsRead item_refusals (tag_item t) (numbered_leaf tag_item tag m) before after
unfolding item_refusals
item_tag_read t tag m before after r =
    rw (numbered_mapped tag_item tag m)
    (read_mapped tag_item unnamed item_refusals t _ before after (λ a. refl) r)

-- what is left where a tag is read, is left where something is made of it
pub tag_wrong : {B : Type 0} (made : TagView → B) (tag : Option TagView) (m : Mark) (e : Fault)
    → IsWrong (numbered_leaf (λ t. t) tag m) e → IsWrong (numbered_leaf made tag m) e
tag_wrong made tag m e =
    wrong_by (numbered_leaf (λ t. t) tag m) (numbered_leaf made tag m) e
    (λ n h. numbered_mapped made tag m ∙ ap (mapped (λ p. (made p.0, p.1))) h)

-- a tag of a name that has a location
pub named_item_read : (made : (location : ℕ) (name : List ℕ) → TagView) (name : List ℕ)
    (location : ℕ) (before after : Reader) → before.numbered ≡ false
    → location ≡ location_in before.places name
    → after ≡ record before { places = with_name before.places name }
    → IsRead item_refusals (tag_item (made location name))
    (named_leaf (λ l t. tag_item (made l t)) (Some name) (mark before)) before after
unfolding item_refusals
named_item_read made name location before after none is agrees =
    let Wanted : Reader → Type 0 = λ r. named_leaf (λ l t. tag_item (made l t)) (Some name)
    (mark before) ≡ Ok (tag_item (made location name), mark r) in
    read_clean item_refusals (tag_item (made location name)) _ before after
    (subst Wanted (sym agrees) (rw (is, none) refl)) refl (ap (λ r. r.refused) agrees)

-- where there are numbers, no name is read
pub named_item_wrong : (made : (location : ℕ) (name : List ℕ) → TagView) (name : List ℕ)
    (before : Reader) (e : Fault) → IsBesideNumbers before e
    → IsWrong (named_leaf (λ l t. tag_item (made l t)) (Some name) (mark before)) e
named_item_wrong made name before OutOfMemory h = tt
named_item_wrong made name before (BadInput place) h = rw (h.1, h.0) refl
named_item_wrong made name before (Refused number span) h = absurd h
