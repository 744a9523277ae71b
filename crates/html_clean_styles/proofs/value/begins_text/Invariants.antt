use Rattle.std.proofs.Common.{◌≡◌, chars, length}
use Rattle.html_clean_styles.specs.Styles.{begins}
use denote.Shadow.{shadow}
use denote.Text.{Utf8}
use Rattle.html_clean_styles.proofs.value.begins_text.Given as goal

abbrev pub invariant-loop-letter : goal.invariant-loop-letter
invariant-loop-letter l = record {
  is_text : shadow (Utf8 l.left);
  small_is_text : shadow (Utf8 l.expected);
  same : begins (chars l.expected) (chars l.left) ≡ begins (chars l.small) (chars l.text);
}

abbrev pub decreases-loop-letter : goal.decreases-loop-letter
decreases-loop-letter l = length (chars l.expected)
