-- Items in a row, each with its role, and the items at the root.
use Rattle.std.{proofs.Common.{◌≡◌, ℕ, List, [], ◌∷◌, ◌++◌, Some, None, refl, ap}, specs.Prelude.{IsOkAnd}}
use Rattle.serde_json.specs.Data.{Data}
use Rattle.html_dom_tree.specs.{Tree.{TextPair}, declared.span.Span.{Span}}
use Rattle.html_flow_convert.specs.Items as flow
use Rattle.html_flow_convert.specs.{Items.{ItemsView}, Views.{items_of}}
use Rattle.typst_html_json.proofs.{Readings.{IsOwnFirst, refused_whole}, Rows.{Row, joined}}
use Rattle.typst_html_json.specs.{Marks.{at_start}, NameRefusals.{item_refusals, items_refusals}, Reading.{IsRead, mark, part_refusals}}
use Rattle.typst_html_json.specs.Refusals.{IsFirst}
use Rattle.typst_html_json.specs.SpelledItems.{Part, element_made, with_part, spelled_part, spelled_list, list_at, items_at}
use Rattle.typst_html_json.specs.declared.{fault.Fault.TheVariants.{Refused}, input_forms.Forms.{Forms}, reader.Reader.{Reader}}

pub none_clean : items_refusals flow.no_items ≡ []
unfolding items_refusals
none_clean = refl

pub one_more : (p : Part) (items : ItemsView)
    → items_refusals (with_part p items) ≡ item_refusals p.0 ++ items_refusals items
unfolding items_refusals
one_more p items = refl

abbrev pub items_row : Forms → Row Part ItemsView
items_row forms = record {
  add = with_part;
  nothing = flow.no_items;
  one = spelled_part forms;
  all = spelled_list forms;
  ones = part_refusals;
  alls = items_refusals;
  ends = λ m. refl;
  steps = λ d ds m. refl;
  clean = none_clean;
  adds = one_more;
}

pub joined-items : (ps : List Part) → joined with_part ps flow.no_items ≡ items_of ps
joined-items [] = refl
joined-items (p ∷ ps) = ap (with_part p) (joined-items ps)

pub own_first : (css : List TextPair) → IsOwnFirst (element_made css) item_refusals items_refusals
unfolding item_refusals
own_first css span tag pairs items = refl

pub block_same : (span : ℕ) (items : ItemsView)
    → item_refusals (flow.block_item (flow.present items) span) ≡ items_refusals items
unfolding item_refusals
block_same span items = refl

pub box_same : (span : ℕ) (items : ItemsView)
    → item_refusals (flow.box_item (flow.present items) span) ≡ items_refusals items
unfolding item_refusals
box_same span items = refl

pub refused_items : (forms : Forms) (d : Data) (made : ItemsView) (before after : Reader) (code : ℕ)
    (span : Span)
    → mark before ≡ at_start → before.refused ≡ None → after.refused ≡ Some (code, span)
    → IsRead items_refusals made (list_at forms d (mark before)) before after
    → IsOkAnd (items_at forms d) (λ items. IsFirst (Refused code span) (items_refusals items))
refused_items forms d made before after code span first clear is r =
    rw (← first, r.spelled)
    (refused_whole items_refusals made (list_at forms d (mark before)) before after code span clear
    is r)
