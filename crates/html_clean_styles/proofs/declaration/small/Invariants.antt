use Rattle.std.{proofs.Common.{◌≡◌, ◌++◌, chars, length, map}, specs.Char.{to_ascii_lowercase}}
use denote.Shadow.{shadow}
use denote.Text.{Utf8}
use Rattle.html_clean_styles.proofs.declaration.small.Given as goal

abbrev pub invariant-loop-c : goal.invariant-loop-c
invariant-loop-c l = record {
  is_text : shadow (Utf8 l.left);
  same : l.made ++ map to_ascii_lowercase (chars l.left) ≡ map to_ascii_lowercase (chars l.text);
}

abbrev pub decreases-loop-c : goal.decreases-loop-c
decreases-loop-c l = length (chars l.left)
