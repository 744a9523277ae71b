-- A place that was reached in a page, from which later ones are found.
use Rattle.std.specs.Prelude.{◌≡◌, ◌+◌, ◌≤◌, ℕ, Bool, List, chars, length}
use Rattle.html_text.specs.declared.place.Place.{Place}
use Rattle.html_page_read.specs.PagePlaces.{place_at, place_from}

pub record IsReached (text rest : List ℕ) (place : Place) (after_return : Bool) : Type 0 where
  pub same : (offset : ℕ) → place.offset ≤ offset →
      place_from after_return place (chars rest) offset ≡ place_at (chars text) offset
  pub room : place.offset + length rest ≤ length text
  pub line : place.line ≤ place.offset + 1
  pub column : place.column ≤ place.offset + 1
