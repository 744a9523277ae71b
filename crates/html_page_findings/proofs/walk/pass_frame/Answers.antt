use Rattle.std.{proofs.Common.{◌≡◌, ◌∙◌, append_assoc, rules}, proofs.lemmas.List.{map-append}, specs.Prelude.{option_map}}
use Rattle.html_names_core.specs.Texts.{text_view}
use Rattle.html_dom_tree.specs.FrameViews.{html_frame_view}
use Rattle.html_page_findings.proofs.walk.pass_frame.Goals as goal

pub returns-in_ok-pass_anchors-in-Ids : goal.returns-in_ok-pass_anchors-in-Ids
returns-in_ok-pass_anchors-in-Ids g c rest =
    let id : option_map text_view c.in_ok-copy_of-in-Ids.field-0
    ≡ (html_frame_view c.args.frame.now).id = search rules in
    rw (c.in-Ids.is, map-append, append_assoc)
    ((rw c.deref.ensures.value at c.in_ok-pass_anchors-in-Ids.ensures rest)
    ∙ (rw id at c.in_ok-pass_optional-in-Ids.ensures _))
