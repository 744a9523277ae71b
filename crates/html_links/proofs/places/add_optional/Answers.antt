use Rattle.std.{proofs.Common.{ap, sym, ◌∙◌}, specs.Prelude.{option_map, option_to_list}}
use Rattle.html_names_core.specs.Texts.{text_view}
use Rattle.html_links.{proofs.Gathering.{with-none}, specs.UsedNames.{used_in, with_names}}
use Rattle.html_links.proofs.places.add_optional.Goals as goal

pub returns-in-None : goal.returns-in-None
returns-in-None c =
    let used = used_in c.args.names.now in
    sym (with-none used)
    ∙ ap (λ name. with_names (option_to_list (option_map (λ n. text_view n.now) name)) used)
    (sym c.in-None.is)
