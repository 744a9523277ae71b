use Rattle.std.proofs.Common.{◌≡◌, ◌++◌, chars, length}
use Rattle.html_clean_styles.specs.Styles.{squeezed, squeezed_from}
use denote.Shadow.{shadow}
use denote.Text.{Utf8}
use Rattle.html_clean_styles.proofs.space.squeezed.Given as goal

abbrev pub invariant-loop-c : goal.invariant-loop-c
invariant-loop-c l = record {
  is_text : shadow (Utf8 l.left);
  same : l.made ++ squeezed_from l.begun l.gap (chars l.left) ≡ squeezed (chars l.text);
}

abbrev pub decreases-loop-c : goal.decreases-loop-c
decreases-loop-c l = length (chars l.left)
