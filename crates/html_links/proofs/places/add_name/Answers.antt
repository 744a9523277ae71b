use Rattle.std.proofs.Common.{◌≡◌, ap, sym, ◌∙◌, rules}
use Rattle.html_names_core.specs.Texts.{text_view}
use Rattle.html_links.{proofs.Gathering.{with-one}, specs.TreeNames.{with_used_name}, specs.UsedNames.{used_in}}
use Rattle.html_links.proofs.places.add_name.Goals as goal

pub returns : goal.returns
returns c =
    let used = used_in c.args.names.now in
    let same : text_view c.in_ok-clone.field-0 ≡ text_view c.args.name.now = search rules in
    c.in_ok-put_in_use.ensures.ok
    ∙ (ap (λ n. with_used_name n used) same ∙ sym (with-one (text_view c.args.name.now) used))
