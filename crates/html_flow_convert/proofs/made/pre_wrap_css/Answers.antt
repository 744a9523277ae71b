use Rattle.std.proofs.Common.{codes, refl}
use Rattle.html_names_core.proofs.Lists.{chars_ascii}
use Rattle.html_flow_convert.proofs.OneProperty.{one_property}
use Rattle.html_flow_convert.proofs.made.pre_wrap_css.Goals as goal

pub returns : goal.returns
returns c =
    one_property c.in_ok-css.css _ (codes "white-space") _ (codes "pre-wrap") c.in_ok-css.ensures
    (chars_ascii (codes "white-space") refl) c.in_ok-kept.ensures.ok
    (chars_ascii (codes "pre-wrap") refl) c.in_ok-with.ensures.ok
