use Rattle.std.proofs.Common.{◌≡◌, ◌≤◌, chars, length}
use Rattle.html_clean_values.specs.Srcsets.{Between, urls_from}
use denote.Shadow.{shadow}
use denote.Text.{Utf8}
use Rattle.html_clean_values.proofs.srcset.next_url.Given as goal

abbrev pub invariant-loop-c : goal.invariant-loop-c
invariant-loop-c l = record {
  is_text : shadow (Utf8 l.left);
  same : urls_from Between (chars l.left) ≡ urls_from Between (chars l.srcset);
  long : length (chars l.left) ≤ length (chars l.srcset);
}

abbrev pub decreases-loop-c : goal.decreases-loop-c
decreases-loop-c l = length (chars l.left)
