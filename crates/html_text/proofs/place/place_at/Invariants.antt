use Rattle.std.proofs.Common.{◌≡◌, ◌+◌, ◌-◌, ◌≤◌, chars, length, take}
use denote.Text.{Utf8}
use denote.Shadow.{shadow}
use Rattle.html_text.specs.Places.{place_at, place_behind}
use Rattle.html_text.proofs.place.place_at.Given as goal

abbrev pub invariant-loop-done : goal.invariant-loop-done
invariant-loop-done l =
    record {
      is_text : shadow (Utf8 l.rest);
      same : place_behind l.place (take (l.count - l.done) (chars l.rest))
          ≡ place_at (chars l.fn.text) l.count;
      room : l.place.offset + length l.rest ≤ length l.fn.text;
      line : l.place.line ≤ l.place.offset + 1;
      column : l.place.column ≤ l.place.offset + 1;
    }
