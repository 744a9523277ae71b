use Rattle.std.proofs.Common.{◌≡◌, ◌≤◌, chars, filter, length}
use Rattle.html_links.specs.Indicated.{is_kept}
use denote.Shadow.{shadow}
use denote.Text.{Utf8}
use Rattle.html_clean_values.proofs.schemes.first_kept.Given as goal

abbrev pub invariant-loop-c : goal.invariant-loop-c
invariant-loop-c l = record {
  is_text : shadow (Utf8 l.left);
  same : filter is_kept (chars l.left) ≡ filter is_kept (chars l.text);
  long : length (chars l.left) ≤ length (chars l.text);
}

abbrev pub decreases-loop-c : goal.decreases-loop-c
decreases-loop-c l = length (chars l.left)
