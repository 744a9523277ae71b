use Rattle.std.proofs.Common.{codes, refl}
use Rattle.html_names_core.proofs.Lists.{chars_ascii}
use Rattle.html_flow_convert.proofs.OneProperty.{one_property}
use Rattle.html_flow_convert.proofs.lone.inline_block_css.Goals as goal

pub returns : goal.returns
returns c =
    one_property c.new.result _ (codes "display") _ (codes "inline-block") c.new.ensures
    (chars_ascii (codes "display") refl) c.in_ok-value.ensures.ok
    (chars_ascii (codes "inline-block") refl) c.in_ok-with.ensures.ok
