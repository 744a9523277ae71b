use Rattle.std.proofs.Common.{◌≡◌, ◌+◌, ◌≤◌, chars, length}
use Rattle.html_clean_styles.specs.Styles.{is_plain_from}
use denote.Shadow.{shadow}
use denote.Text.{Utf8}
use Rattle.html_clean_styles.proofs.value.is_plain_text.Given as goal

abbrev pub invariant-loop-c : goal.invariant-loop-c
invariant-loop-c l = record {
  word_is_text : shadow (Utf8 l.word);
  is_text : shadow (Utf8 l.left);
  same : is_plain_from (chars l.word) l.depth (chars l.left)
      ≡ is_plain_from (chars l.text) 0 (chars l.text);
  few : l.depth + length (chars l.left) ≤ length l.text;
}

abbrev pub decreases-loop-c : goal.decreases-loop-c
decreases-loop-c l = length (chars l.left)
