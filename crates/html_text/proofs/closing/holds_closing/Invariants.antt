use Rattle.std.proofs.Common.{◌≡◌, chars, length}
use Rattle.html_text.specs.ClosingTags as ending
use denote.Text.{Utf8}
use denote.Shadow.{shadow}
use Rattle.html_text.proofs.closing.holds_closing.Given as goal

abbrev pub invariant-loop-after : goal.invariant-loop-after
invariant-loop-after l =
    record {
      is_text : shadow (Utf8 l.left);
      same : ending.holds_closing (chars l.name) (chars l.left)
          ≡ ending.holds_closing (chars l.name) (chars l.text);
    }

abbrev pub decreases-loop-after : goal.decreases-loop-after
decreases-loop-after l = length l.left
