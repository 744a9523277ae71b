use Rattle.std.proofs.Common.{◌≡◌, ◌≤◌, chars, length}
use Rattle.html_clean_values.proofs.SrcsetSteps.{in_descriptors}
use Rattle.html_clean_values.specs.Srcsets.{Descriptors, urls_from}
use denote.Shadow.{shadow}
use denote.Text.{Utf8}
use Rattle.html_clean_values.proofs.srcset.past_descriptors.Given as goal

abbrev pub invariant-loop-c : goal.invariant-loop-c
invariant-loop-c l = record {
  is_text : shadow (Utf8 l.left);
  same : urls_from (in_descriptors l.in_parentheses) (chars l.left)
      ≡ urls_from Descriptors (chars l.text);
  long : length (chars l.left) ≤ length (chars l.text);
}

abbrev pub decreases-loop-c : goal.decreases-loop-c
decreases-loop-c l = length (chars l.left)
