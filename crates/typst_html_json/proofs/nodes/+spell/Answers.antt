use Rattle.std.proofs.Common.{◌≡◌, chars, length, refl, sym, ap, ◌∙◌, subst, rules, arith}
use Rattle.std.proofs.lemmas.{List.{nil_from_length}, Result.{err_from_is_err_and}}
use Rattle.std.specs.Vec.Iter.{into_iter_items, into_iter_len}
use Rattle.serde_json.{proofs.Views.{view-Array}, specs.View.{view, items_view}}
use Rattle.html_dom_flat.specs.Flat.{node_count}
use Rattle.html_dom_tree.specs.{Tree.{element_node, plain_head}, Views.{attrs_view}}
use Rattle.typst_html_json.proofs.{Forms.{element_form-four}, KindForms.{form-kind}}
use Rattle.typst_html_json.proofs.NodeRows.{nodes_row, own_first, added_from, element_added, itself, none_added, one_added, all_added}
use Rattle.typst_html_json.proofs.{Readings.{read_element}, Rows.{wrong_one}}
use Rattle.typst_html_json.specs.{Fields.{pairs_at}, Marks.{Mark}, NameRefusals.{name_refusals, all_name_refusals}}
use Rattle.typst_html_json.specs.{Reading.{AddsNode, mark}, Spelled.{element_made, form, list_at, spelled_all}}
use Rattle.typst_html_json.proofs.nodes.+spell.Goals as goal

pub push_node-returns : goal.push_node-returns
push_node-returns t c =
    let Opened : Mark → Type 0 = λ m. AddsNode c.push_list.result
    (form (items_view c.in-Array.list.items) m) c.args.builder.now c.push_list.new.builder
    c.args.reader.now c.push_list.new.reader in
    rw (c.in-Array.is, view-Array)
    (subst Opened c.in_ok-open.ensures.mark
    (added_from c.push_list.result _ c.args.builder.now c.push_list.new.builder c.args.reader.now
    c.open.new.self c.push_list.new.reader c.in_ok-open.ensures.refused c.push_list.ensures))

pub push_list-returns-in-Some : goal.push_list-returns-in-Some
push_list-returns-in-Some t c =
    rw (
      form-kind c.args.list.items (mark c.args.reader.now),
      ← c.deref.ensures.value,
      ← c.list_kind.ensures,
      c.in-Some.is,
      c.deref.ensures.value,
    ) c.push_form.ensures

pub push_list-returns-in-None : goal.push_list-returns-in-None
push_list-returns-in-None t c =
    rw (
      form-kind c.args.list.items (mark c.args.reader.now),
      ← c.deref.ensures.value,
      ← c.list_kind.ensures,
      c.in-None.is,
      c.left.ensures,
    ) refl

pub push_element-returns-in-Some : goal.push_element-returns-in-Some
push_element-returns-in-Some t c = search (rules, element_form-four)

pub push_element_with-close_element-requires : goal.push_element_with-close_element-requires
push_element_with-close_element-requires t c =
    omega (
      arith,
      c.in_ok-index.ensures.index,
      c.in_ok-index.ensures.count,
      c.in_ok-push_nodes.ensures.count,
    )

pub push_element_with-returns : goal.push_element_with-returns
unfolding node_count
push_element_with-returns t c =
    let index = c.in_ok-index.ensures in
    let kids = c.in_ok-push_nodes.ensures in
    let attrs = attrs_view c.in_ok-attrs.attrs in
    let head = plain_head c.in_ok-tag.tag attrs c.args.reader.now.lists in
    record {
      made = element_node head kids.made;
      list =
          element_added c.args.builder.now c.start_element.new.self c.push_nodes.new.builder
          c.close_element.new.self head kids.made c.in_ok-index.index index.index
          (index.list ∙ rw c.here-span.ensures refl) index.count kids.list kids.count
          c.close_element.ensures.list;
      count = omega (arith, c.close_element.ensures.count, kids.count, index.count);
      read =
          rw (← c.text_at.ensures, c.in-Some.is, ← c.deref.ensures)
          (read_element element_made name_refusals all_name_refusals own_first
          (chars c.deref.result.now) c.in_ok-tag.tag (pairs_at (view c.args.pairs)) attrs
          (list_at (view c.args.list))
          kids.made c.here-span.result.0 c.args.reader.now
          c.tag.new.self c.pairs.new.self c.push_nodes.new.reader c.here-span.ensures
          c.in_ok-tag.ensures c.in_ok-attrs.ensures kids.read);
    }

pub push_nodes-loop-value-init : goal.push_nodes-loop-value-init
push_nodes-loop-value-init t c =
    let left = into_iter_items c.into_iter-value-iterator.result in
    let is : list_at (view c.args.value) (mark c.args.reader.now)
    ≡ spelled_all (items_view left) (mark c.args.reader.now) =
    rw (
      c.in-Array.is,
      view-Array,
      c.into_iter-value-iterator.ensures.into_iter_gives.0,
    ) refl in
    let long : into_iter_len c.into_iter-value-iterator.result ≡ length left = search rules in
    record {
      added = none_added _ left c.args.builder.now c.args.reader.now is;
      long = long;
    }

pub push_nodes-returns-in_err-push_node : goal.push_nodes-returns-in_err-push_node
push_nodes-returns-in_err-push_node t c =
    let failed = err_from_is_err_and c.from_residual.result c.from_residual.ensures.1 in
    let held = c.loop-value.invariant.added in
    rw (failed.1, failed.2)
    (wrong_one nodes_row itself _ _ (into_iter_items c.next.new.self) c.in-Some.value
    held.made c.args.reader.now c.loop-value.reader c.in_err-push_node.field-0.0
    held.read c.in-Some.ensures.steps.0 c.in_err-push_node.ensures)

pub push_nodes-loop-value-preserved : goal.push_nodes-loop-value-preserved
push_nodes-loop-value-preserved t c = record {
  added =
      one_added _ _ (into_iter_items c.next.new.self) c.in-Some.value c.args.builder.now
      c.loop-value.builder c.push_node.new.builder c.args.reader.now c.loop-value.reader
      c.push_node.new.reader c.loop-value.invariant.added c.in-Some.ensures.steps.0
      c.in_ok-push_node.ensures;
  long = omega (arith, ap length c.in-Some.ensures.steps.0, c.loop-value.invariant.long, c.in-Some.ensures.steps.1);
}

pub push_nodes-returns : goal.push_nodes-returns
push_nodes-returns t c =
    let held = c.loop-value.invariant in
    let none_left = nil_from_length (into_iter_items c.loop-value.value-iterator)
    (sym held.long ∙ c.in-None.ensures.steps.0) in
    all_added _ _ c.args.builder.now c.loop-value.builder c.args.reader.now c.loop-value.reader
    held.added none_left
