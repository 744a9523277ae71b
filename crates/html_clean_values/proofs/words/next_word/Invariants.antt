use Rattle.std.proofs.Common.{◌≡◌, ◌≤◌, chars, length}
use Rattle.html_clean_values.specs.Words.{words}
use denote.Shadow.{shadow}
use denote.Text.{Utf8}
use Rattle.html_clean_values.proofs.words.next_word.Given as goal

abbrev pub invariant-loop-c : goal.invariant-loop-c
invariant-loop-c l = record {
  is_text : shadow (Utf8 l.left);
  same : words (chars l.left) ≡ words (chars l.text);
  long : length (chars l.left) ≤ length (chars l.text);
}

abbrev pub decreases-loop-c : goal.decreases-loop-c
decreases-loop-c l = length (chars l.left)
