use Rattle.std.proofs.Common.{◌≡◌, chars, length}
use Rattle.html_clean_nodes.specs.Cleaned.{without_marks}
use denote.Shadow.{shadow}
use denote.Text.{Utf8}
use Rattle.html_clean_nodes.proofs.made.without_marks.Given as goal

abbrev pub invariant-loop-c : goal.invariant-loop-c
invariant-loop-c l = record {
  is_text : shadow (Utf8 l.left);
  same : without_marks (chars l.left) ≡ without_marks (chars l.text);
}

abbrev pub decreases-loop-c : goal.decreases-loop-c
decreases-loop-c l = length (chars l.left)
