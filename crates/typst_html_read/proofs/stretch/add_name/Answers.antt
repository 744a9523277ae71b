use Rattle.std.proofs.Common.{chars}
use Rattle.html_dom_tree.specs.Views.{text_view}
use Rattle.html_names_core.specs.Characters.{is_tag_char}
use Rattle.typst_html_read.proofs.Stretches.{all_alike}
use Rattle.typst_html_read.proofs.stretch.add_name.Goals as goal

pub returns : goal.returns
returns c =
    let front = chars c.split_name.result.0.now in
    record {
      front = front;
      parts = c.split_name.ensures.parts;
      within = all_alike is_tag_char front (text_view c.args.read.now) c.split_name.ensures.within;
      added = c.in_ok-add_text.ensures;
    }
