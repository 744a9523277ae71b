use Rattle.std.proofs.Common.{◌≡◌, chars, length}
use denote.Text.{Utf8}
use denote.Shadow.{shadow}
use Rattle.html_page_read.specs.{PagePlaces.{place_at, place_from}, ReachedPlaces.{IsReached}}
use Rattle.html_page_read.proofs.place.Places.moved_to.Given as goal

abbrev pub invariant-loop-place : goal.invariant-loop-place
invariant-loop-place l =
    record {
      is_text : shadow (Utf8 l.rest);
      reached : IsReached l.text l.rest l.place l.after_return;
      same : place_from l.after_return l.place (chars l.rest) l.offset
          ≡ place_at (chars l.text) l.offset;
    }

abbrev pub decreases-loop-place : goal.decreases-loop-place
decreases-loop-place l = length l.rest
