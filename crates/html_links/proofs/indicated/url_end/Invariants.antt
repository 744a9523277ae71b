use Rattle.std.{proofs.Common.{chars}, specs.Str.Iter.{chars_rest}}
use Rattle.html_links.proofs.TakenFragments.{IsTaken}
use Rattle.html_links.proofs.indicated.url_end.Given as goal

abbrev pub invariant-loop-c : goal.invariant-loop-c
invariant-loop-c l = IsTaken l.end l.blanks (chars_rest l.c-iterator) (chars l.fn.text)
