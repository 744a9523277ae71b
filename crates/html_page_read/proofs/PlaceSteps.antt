-- Places in a page, one character after the other.
use Rattle.std.proofs.Common.{◌≡◌, ℕ, ◌+◌, ◌<◌, ◌≤◌, Bool, not, ◌&&◌, ◌||◌, eqb, List, [], ◌∷◌, ◌++◌, chars, refl, sym, ap, ◌∙◌, arith}
use Rattle.std.{proofs.lemmas.Bool.{le-leb, lt-leb}, specs.Char.{len_utf8}, specs.Prelude.{if◌then◌else◌}}
use lib.Utf8.{encode}
use Rattle.html_page_read.specs.{PagePlaces.{next_place, place_from}, ReachedPlaces.{IsReached}}
use Rattle.html_text.{proofs.Places.{first_long}, specs.declared.place.Place.{Place}}

line_at_most : (t : Bool) (n : ℕ) → (if t then n + 1 else n) ≤ n + 1
line_at_most t n = grind arith

column_at_most : (s t : Bool) (n : ℕ) → (if s then 1 else (if t then n else n + 1)) ≤ n + 1
column_at_most s t n = grind arith

-- what a character adds to the offset, and at most to the line and the column
pub passed : (b : Bool) (p q : Place) (c : ℕ) → q ≡ next_place b p c →
    (q.offset ≡ p.offset + len_utf8 c) × (q.line ≤ p.line + 1) × (q.column ≤ p.column + 1)
passed b p q c e = rw e (
  refl,
  line_at_most (eqb c 13 || (eqb c 10 && not b)) p.line,
  column_at_most (eqb c 13 || eqb c 10) (eqb c 0xfeff && eqb p.offset 0) p.column,
)

-- a place that is not yet reached is found from the next one
pub one_more : (b : Bool) (p : Place) (c : ℕ) (cs : List ℕ) (offset : ℕ) → p.offset < offset →
    place_from b p (c ∷ cs) offset ≡ place_from (eqb c 13) (next_place b p c) cs offset
one_more b p c cs offset h = rw (lt-leb offset p.offset h) refl

-- a place that is reached
pub none_more : (b : Bool) (p : Place) (cs : List ℕ) (offset : ℕ) → offset ≤ p.offset →
    place_from b p cs offset ≡ p
none_more b p [] offset h = refl
none_more b p (c ∷ cs) offset h = rw (le-leb offset p.offset h) refl

-- the next place is reached
pub next_reached : (text rest later : List ℕ) (b : Bool) (p q : Place) (c : ℕ) →
    q ≡ next_place b p c → rest ≡ encode c ++ later → chars rest ≡ c ∷ chars later →
    IsReached text rest p b → IsReached text later q (eqb c 13)
next_reached text rest later b p q c e parts left at =
    let one = passed b p q c e in
    let long = first_long rest later c parts in
    record {
      same = λ offset h.
          let before : p.offset < offset = omega (arith, one.0, h, long.1) in
          ap (λ x. place_from (eqb c 13) x (chars later) offset) e
          ∙ (sym (one_more b p c (chars later) offset before)
          ∙ (ap (λ cs. place_from b p cs offset) (sym left)
          ∙ at.same offset (omega (arith, before))));
      room = omega (arith, at.room, one.0, long.0);
      line = omega (arith, at.line, one.0, one.1, long.1);
      column = omega (arith, at.column, one.0, one.2, long.1);
    }
