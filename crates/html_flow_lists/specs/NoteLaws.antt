-- Laws of the locations of notes.
use Rattle.std.specs.Prelude.{◌≡◌, ℕ, ◌<◌, ◌^◌}
use Rattle.html_flow_lists.specs.Notes.{mark_location, note_location}

-- the locations of a note and of its mark are above 2^63, and fit a location
pub record AreHigh (number : ℕ) : Type 0 where
  pub note : (2 ^ 63 < note_location number) × (note_location number < 2 ^ 64)
  pub mark : (2 ^ 63 < mark_location number) × (mark_location number < 2 ^ 64)

-- no two locations of notes and marks are the same, of one note or of two
pub record AreDifferent (number other : ℕ) : Type 0 where
  pub notes : note_location number ≡ note_location other → number ≡ other
  pub marks : mark_location number ≡ mark_location other → number ≡ other
  pub kinds : ¬ (note_location number ≡ mark_location other)
