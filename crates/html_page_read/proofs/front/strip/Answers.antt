use Rattle.std.proofs.Common.{◌≡◌, ◌++◌, sym, ap, ◌∙◌}
use Rattle.html_names_core.proofs.Basics.{is_ascii_is}
use Rattle.html_text.proofs.Fronts.{begins}
use Rattle.html_page_read.proofs.Fronts.{rest_utf8}
use Rattle.html_page_read.proofs.front.strip.Goals as goal

pub returns : goal.returns
returns c =
    let front = c.args.front.now in
    let found = c.in_ok-rest.ensures.cases in
    let whole : c.args.text.now ≡ front ++ c.in_ok-rest.rest.now =
    found.1.1 ∙ sym (ap (λ l. front ++ l) found.2) in
    begins c.args.text.now front c.in_ok-rest.rest.now (is_ascii_is front c.requires)
    (rest_utf8 front c.in_ok-rest.rest.now c.args.text.now c.requires c.utf8.text whole) whole
