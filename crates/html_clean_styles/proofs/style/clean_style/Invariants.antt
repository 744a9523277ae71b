use Rattle.std.proofs.Common.{chars, length}
use Rattle.html_names_core.specs.Texts.{texts_view}
use Rattle.html_clean_styles.{proofs.Joined.{Goes}, specs.Styles.{declarations, pieces}}
use denote.Shadow.{shadow}
use denote.Text.{Utf8}
use Rattle.html_clean_styles.proofs.style.clean_style.Given as goal

abbrev pub invariant-loop-piece : goal.invariant-loop-piece
invariant-loop-piece l = record {
  is_text : shadow (Utf8 l.left);
  goes : Goes (texts_view l.properties) l.made (chars l.left)
      (declarations (texts_view l.properties) (pieces (chars l.style)));
}

abbrev pub decreases-loop-piece : goal.decreases-loop-piece
decreases-loop-piece l = length (chars l.left)
