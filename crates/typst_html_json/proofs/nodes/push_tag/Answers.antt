use Rattle.std.proofs.{Common.{option_map}, lemmas.Result.{err_from_is_err_and}}
use Rattle.html_dom_tree.specs.{FrameViews.{tag_view}, Tree.{tag_node}}
use Rattle.html_dom_flat.specs.Flat.{node_count, node_flat}
use Rattle.typst_html_json.{proofs.Tags.{node_tag_read, tag_wrong}, specs.Reading.{mark}}
use Rattle.typst_html_json.proofs.nodes.push_tag.Goals as goal

pub returns-in_err-tag : goal.returns-in_err-tag
returns-in_err-tag c =
    let failed = err_from_is_err_and c.from_residual.result c.from_residual.ensures.1 in
    rw (failed.1, failed.2)
    (tag_wrong tag_node (option_map tag_view c.args.tag) (mark c.args.reader.now)
    c.in_err-tag.field-0.0 c.in_err-tag.ensures)

pub returns : goal.returns
unfolding node_flat node_count
returns c = record {
  made = tag_node (tag_view c.in_ok-tag.tag);
  list = c.in_ok-push_tag.ensures.list;
  count = c.in_ok-push_tag.ensures.count;
  read =
      node_tag_read (tag_view c.in_ok-tag.tag) (option_map tag_view c.args.tag)
      (mark c.args.reader.now) c.args.reader.now c.numbered.new.self c.in_ok-tag.ensures;
}
