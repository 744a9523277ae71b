use Rattle.std.proofs.Common.{ap, ◌∙◌}
use Rattle.html_anchors.specs.DeadLinks.{dead_links_view}
use Rattle.serde_json.specs.Written.{compact_text, has_float}
use Rattle.typst_html_ffi.proofs.DeadLinks.{no_float}
use Rattle.typst_html_ffi.proofs.dead_links.dead_links_text.Goals as goal

pub returns : goal.returns
returns c =
    c.in_ok-to_string.ensures.text
    (ap has_float c.in_ok-value.ensures ∙ no_float (dead_links_view c.args.links.now))
    ∙ ap compact_text c.in_ok-value.ensures
