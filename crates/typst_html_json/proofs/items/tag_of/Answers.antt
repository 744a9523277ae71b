use Rattle.std.proofs.{Common.{option_map}, lemmas.Result.{err_from_is_err_and}}
use Rattle.html_dom_tree.specs.FrameViews.{tag_view}
use Rattle.html_flow_convert.specs.Items.{tag_item}
use Rattle.typst_html_json.{proofs.ItemForms.{item_view-Tag}, proofs.Tags.{item_tag_read, tag_wrong}, specs.Reading.{mark}}
use Rattle.typst_html_json.proofs.items.tag_of.Goals as goal

pub returns-in_err-numbered : goal.returns-in_err-numbered
returns-in_err-numbered c =
    let failed = err_from_is_err_and c.from_residual.result c.from_residual.ensures.1 in
    rw (failed.1, failed.2)
    (tag_wrong tag_item (option_map tag_view c.args.tag) (mark c.args.reader.now)
    c.in_err-numbered.field-0.0 c.in_err-numbered.ensures)

pub returns : goal.returns
returns c =
    rw item_view-Tag
    (item_tag_read (tag_view c.in_ok-numbered.field-0) (option_map tag_view c.args.tag)
    (mark c.args.reader.now) c.args.reader.now c.numbered.new.self c.in_ok-numbered.ensures)
