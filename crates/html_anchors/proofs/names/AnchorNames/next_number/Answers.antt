use Rattle.std.{proofs.Common.{sym, ap, ◌∙◌, subst, string_bytes}, specs.BTreeMap.{get_by_text}, specs.Prelude.{option_copied}}
use Rattle.html_names_core.specs.Texts.{text_view}
use Rattle.html_links.specs.UsedNames.{used_in}
use Rattle.html_anchors.{proofs.Numbers.{none_below_first}, specs.NumberedNames.{AreUsedBelow}}
use Rattle.html_anchors.proofs.names.AnchorNames.next_number.Goals as goal

pub returns-in-Some : goal.returns-in-Some
returns-in-Some c =
    c.args.self.now.counted (string_bytes c.args.label.now) c.in-Some.number.now
    (sym (ap (get_by_text c.args.self.now.next) c.as_str.ensures.value)
    ∙ (sym c.get.ensures.value ∙ ap option_copied c.in-Some.is))

pub returns-in-None : goal.returns-in-None
returns-in-None c =
    let label = text_view c.args.label.now in
    let used = used_in c.args.self.now.used in
    subst (AreUsedBelow used label) (sym c.first_number.ensures) (none_below_first label used)
