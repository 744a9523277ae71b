use Rattle.std.proofs.Common.{◌≡◌, false, get_or, chars, length, map, refl, sym, ap, ◌∙◌, subst, rules, arith}
use Rattle.std.proofs.lemmas.{List.{nil_from_length}, Result.{err_from_is_err_and}}
use Rattle.std.specs.Vec.Iter.{into_iter_items, into_iter_len}
use Rattle.serde_json.{proofs.Views.{view-Array}, specs.View.{view, items_view}}
use Rattle.html_dom_tree.specs.Views.{attrs_view}
use Rattle.html_flow_convert.specs.Items.{block_item, box_item, inheriting, present}
use Rattle.html_flow_convert.specs.Views as flow
use Rattle.typst_html_json.proofs.ItemForms.{element_form-four, element_form-five, body_form-two, role_form-three, item_view-Element, elem_view-made, item_view-Block, item_view-Box, pair_view-made, pair_view-role}
use Rattle.typst_html_json.proofs.{ItemRows.{items_row, joined-items, own_first, block_same, box_same}, KindForms.{part_form-kind}}
use Rattle.typst_html_json.proofs.{Readings.{reads_from, read_mapped, read_element}, Rows.{none_read, one_read, all_read, wrong_one}}
use Rattle.typst_html_json.specs.{Fields.{pairs_at}, Marks.{Mark}, NameRefusals.{item_refusals, items_refusals}}
use Rattle.typst_html_json.specs.Reading.{ReadsPart, mark, part_refusals}
use Rattle.typst_html_json.specs.SpelledItems.{element_made, is_role, part_form, list_at, spelled_list}
use Rattle.typst_html_json.proofs.items.+spell.Goals as goal

pub pair_of-returns : goal.pair_of-returns
pair_of-returns t c =
    let Opened : Mark → Type 0 = λ m. ReadsPart c.opened_pair.result
    (part_form c.args.forms (items_view c.in-Array.list.items) m) c.args.reader.now
    c.opened_pair.new.reader in
    rw (c.in-Array.is, view-Array)
    (subst Opened c.in_ok-open.ensures.mark
    (reads_from flow.pair_view part_refusals c.opened_pair.result _ c.args.reader.now
    c.open.new.self c.opened_pair.new.reader c.in_ok-open.ensures.refused c.opened_pair.ensures))

pub opened_pair-returns-in-Some : goal.opened_pair-returns-in-Some
opened_pair-returns-in-Some t c =
    rw (
      part_form-kind c.args.forms c.args.list.items (mark c.args.reader.now),
      ← c.deref.ensures.value,
      ← c.list_kind.ensures,
      c.in-Some.is,
      c.deref.ensures.value,
    ) c.form_of.ensures

pub opened_pair-returns-in-None : goal.opened_pair-returns-in-None
opened_pair-returns-in-None t c =
    rw (
      part_form-kind c.args.forms c.args.list.items (mark c.args.reader.now),
      ← c.deref.ensures.value,
      ← c.list_kind.ensures,
      c.in-None.is,
      c.left.ensures,
    ) refl

pub form_of-returns : goal.form_of-returns
form_of-returns t c =
    let other : is_role c.args.kind ≡ false = search rules in
    rw (other, pair_view-made)
    (read_mapped inheriting item_refusals part_refusals _ _ c.args.reader.now
    c.item_of.new.reader (λ i. refl) c.in_ok-item.ensures)

pub with_role-returns-in-Some : goal.with_role-returns-in-Some
with_role-returns-in-Some t c =
    let vs = c.args.list.items in
    let long : length vs ≡ 3 = search rules in
    let role = c.role-1.given.0 in
    let inside = c.item-1.given.0 in
    let role_is : role ≡ get_or vs 1 role = search rules in
    let inside_is : inside ≡ get_or vs 2 inside = search rules in
    rw (role_form-three c.args.forms vs role inside (mark c.args.reader.now) long role_is inside_is)
    c.pair_with.ensures

pub pair_with-returns : goal.pair_with-returns
pair_with-returns t c =
    rw (← c.role_at.ensures, c.in-Some.is, pair_view-role)
    (read_mapped (λ p. (p.0, flow.role_view c.in-Some.role)) part_refusals part_refusals _ _
    c.args.reader.now c.pair_of.new.reader (λ p. refl) c.in_ok-pair.ensures)

pub plain_of-returns-in-Some : goal.plain_of-returns-in-Some
plain_of-returns-in-Some t c = search (rules, element_form-four)

pub styled_of-returns-in-Some : goal.styled_of-returns-in-Some
styled_of-returns-in-Some t c =
    let vs = c.args.list.items in
    let long : length vs ≡ 5 = search rules in
    let name = c.name-1.given.0 in
    let pairs = c.pairs-1.given.0 in
    let css = c.css-1.given.0 in
    let inside = c.list-1.given.0 in
    let name_is : name ≡ get_or vs 1 name = search rules in
    let pairs_is : pairs ≡ get_or vs 2 pairs = search rules in
    let css_is : css ≡ get_or vs 3 css = search rules in
    let inside_is : inside ≡ get_or vs 4 inside = search rules in
    rw (element_form-five vs name pairs css inside (mark c.args.reader.now) long name_is pairs_is
    css_is inside_is) c.styled_with.ensures

pub styled_with-returns : goal.styled_with-returns
styled_with-returns t c = rw c.in_ok-css.ensures c.element_with.ensures

pub body_of-returns-in-Some : goal.body_of-returns-in-Some
body_of-returns-in-Some t c = search (rules, body_form-two)

pub element_with-returns : goal.element_with-returns
element_with-returns t c =
    rw (
      ← c.text_at.ensures,
      c.in-Some.is,
      ← c.deref.ensures,
      item_view-Element,
      elem_view-made,
      c.here-span.ensures,
    )
    (read_element (element_made c.args.css) item_refusals items_refusals (own_first c.args.css)
    (chars c.deref.result.now) c.in_ok-tag.tag (pairs_at (view c.args.pairs))
    (attrs_view c.in_ok-attrs.attrs) (list_at c.args.forms (view c.args.list))
    (flow.items_view c.in_ok-body.body.items) c.here-span.result.0 c.args.reader.now
    c.tag.new.self c.pairs.new.self c.list_of.new.reader c.here-span.ensures
    c.in_ok-tag.ensures c.in_ok-attrs.ensures c.in_ok-body.ensures)

pub block_of-returns : goal.block_of-returns
block_of-returns t c =
    rw (item_view-Block, c.here-span.ensures)
    (read_mapped (λ items. block_item (present items) c.args.reader.now.lists) items_refusals
    item_refusals _ _ c.args.reader.now c.body_of.new.reader (block_same c.args.reader.now.lists)
    c.in_ok-body_of.ensures)

pub box_of-returns : goal.box_of-returns
box_of-returns t c =
    rw (item_view-Box, c.here-span.ensures)
    (read_mapped (λ items. box_item (present items) c.args.reader.now.lists) items_refusals
    item_refusals _ _ c.args.reader.now c.body_of.new.reader (box_same c.args.reader.now.lists)
    c.in_ok-body_of.ensures)

pub list_of-loop-value-init : goal.list_of-loop-value-init
list_of-loop-value-init t c =
    let left = into_iter_items c.into_iter-value-iterator.result in
    let is : list_at c.args.forms (view c.args.value) (mark c.args.reader.now)
    ≡ spelled_list c.args.forms (items_view left) (mark c.args.reader.now) =
    rw (
      c.in-Array.is,
      view-Array,
      c.into_iter-value-iterator.ensures.into_iter_gives.0,
    ) refl in
    let long : into_iter_len c.into_iter-value-iterator.result ≡ length left = search rules in
    record {
      read = none_read (items_row c.args.forms) flow.pair_view _ left _ c.args.reader.now is
          c.in_ok-items.ensures.items;
      long = long;
    }

pub list_of-returns-in_err-pair_of : goal.list_of-returns-in_err-pair_of
list_of-returns-in_err-pair_of t c =
    let failed = err_from_is_err_and c.from_residual-in_err-pair_of.result
    c.from_residual-in_err-pair_of.ensures.1 in
    rw (failed.1, failed.2)
    (wrong_one (items_row c.args.forms) flow.pair_view _ _ (into_iter_items c.next.new.self)
    c.in-Some.value c.loop-value.items.items c.args.reader.now c.loop-value.reader
    c.in_err-pair_of.field-0.0 c.loop-value.invariant.read c.in-Some.ensures.steps.0
    c.in_err-pair_of.ensures)

pub list_of-loop-value-preserved : goal.list_of-loop-value-preserved
list_of-loop-value-preserved t c = record {
  read =
      rw c.in_ok-push.ensures.items
      (one_read (items_row c.args.forms) flow.pair_view _ _ (into_iter_items c.next.new.self)
      c.in-Some.value c.loop-value.items.items c.in_ok-pair_of.field-0 c.args.reader.now
      c.loop-value.reader c.pair_of.new.reader c.loop-value.invariant.read
      c.in-Some.ensures.steps.0 c.in_ok-pair_of.ensures);
  long = omega (arith, ap length c.in-Some.ensures.steps.0, c.loop-value.invariant.long, c.in-Some.ensures.steps.1);
}

pub list_of-returns : goal.list_of-returns
list_of-returns t c =
    let held = c.loop-value.invariant in
    let none_left = nil_from_length (into_iter_items c.loop-value.value-iterator)
    (sym held.long ∙ c.in-None.ensures.steps.0) in
    rw (← joined-items (map flow.pair_view c.loop-value.items.items))
    (all_read (items_row c.args.forms) flow.pair_view _ _ c.loop-value.items.items
    c.args.reader.now c.loop-value.reader held.read none_left)
