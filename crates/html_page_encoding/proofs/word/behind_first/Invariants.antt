use Rattle.std.proofs.Common.{◌≡◌, length}
use Rattle.html_page_encoding.specs.Classes.{behind_first}
use Rattle.html_page_encoding.proofs.word.behind_first.Given as goal

abbrev pub invariant-loop-later : goal.invariant-loop-later
invariant-loop-later l = behind_first l.text l.rest ≡ behind_first l.text l.fn.bytes

abbrev pub decreases-loop-later : goal.decreases-loop-later
decreases-loop-later l = length l.rest
