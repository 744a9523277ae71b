use Rattle.std.proofs.lemmas.List.{append-nil}
use Rattle.html_page_nesting.proofs.check.misnested.Goals as goal

pub returns : goal.returns
returns c = rw (append-nil, c.new.ensures.items) at c.in_ok-found.ensures
