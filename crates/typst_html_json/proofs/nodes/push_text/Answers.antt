use Rattle.std.proofs.Common.{refl}
use Rattle.html_dom_tree.specs.{Tree.{text_node}, Views.{text_view}}
use Rattle.html_dom_flat.specs.Flat.{node_count, node_flat}
use Rattle.typst_html_json.{proofs.Readings.{read_clean}, specs.NameRefusals.{name_refusals}}
use Rattle.typst_html_json.proofs.nodes.push_text.Goals as goal

pub returns : goal.returns
unfolding name_refusals node_flat node_count
returns c =
    let made = text_node (text_view c.in-Some.text) c.here.result.0 in
    record {
      made = made;
      list = c.in_ok-push_text.ensures.list;
      count = c.in_ok-push_text.ensures.count;
      read =
          read_clean name_refusals made _ c.args.reader.now c.args.reader.now
          (rw (← c.text_in.ensures, c.in-Some.is, c.here.ensures) refl)
          refl refl;
    }
