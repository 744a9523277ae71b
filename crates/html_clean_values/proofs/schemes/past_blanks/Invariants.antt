use Rattle.std.proofs.Common.{◌≡◌, chars, length}
use Rattle.html_links.specs.Scripts.{past_blanks}
use denote.Shadow.{shadow}
use denote.Text.{Utf8}
use Rattle.html_clean_values.proofs.schemes.past_blanks.Given as goal

abbrev pub invariant-loop-c : goal.invariant-loop-c
invariant-loop-c l = record {
  is_text : shadow (Utf8 l.left);
  same : past_blanks (chars l.left) ≡ past_blanks (chars l.text);
}

abbrev pub decreases-loop-c : goal.decreases-loop-c
decreases-loop-c l = length (chars l.left)
