-- The numbers of blanks in references.
use Rattle.std.{proofs.Common.{◌≡◌, false, codes, refl}, specs.Fmt.{digits}}
pub use Rattle.std.proofs.Common.{append_assoc}

pub space_digits : digits 16 false 32 ≡ codes "20"
unfolding digits
space_digits = refl

pub tab_digits : digits 16 false 9 ≡ codes "9"
unfolding digits
tab_digits = refl

-- what a reference's text is made of
pub ruleset reference_steps = (append_assoc, space_digits, tab_digits)
