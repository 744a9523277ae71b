-- Places, one character after the other.
use Rattle.std.proofs.Common.{◌++◌, length, length-append, ◌≡◌, ℕ, zero, suc, ◌+◌, ◌-◌, ◌<◌, ◌≤◌, List, [], ◌∷◌, take, refl, ap, arith}
use Rattle.std.{proofs.lemmas.Str.{length-encode, len_utf8_bounds}, specs.Char.{len_utf8}}
use lib.Utf8.{encode}
use Rattle.html_text.specs.{Places.{next_place, place_behind}, declared.place.Place.{Place}}

-- of those that are to come, the first is passed
pub one_more : (p : Place) (count done c : ℕ) (cs : List ℕ) → done < count →
    place_behind p (take (count - done) (c ∷ cs))
    ≡ place_behind (next_place p c) (take (count - (done + 1)) cs)
one_more p count done c cs h =
    let more : count - done ≡ suc (count - (done + 1)) = omega arith in
    ap (λ n. place_behind p (take n (c ∷ cs))) more

-- what a character adds to the offset, and at most to the line and the column
pub passed : (p q : Place) (c : ℕ) → q ≡ next_place p c →
    (q.offset ≡ p.offset + len_utf8 c) × (q.line ≤ p.line + 1)
    × (q.column ≤ p.column + 1)
passed p q c e = rw e (grind arith)

-- the first character of a text, by its bytes
pub first_long : (text later : List ℕ) (c : ℕ) → text ≡ encode c ++ later →
    (length text ≡ len_utf8 c + length later) × (1 ≤ len_utf8 c)
first_long text later c e =
    let bounds = len_utf8_bounds c in
    (omega (arith, ap length e, length-append (encode c) later, length-encode c), omega arith)

pub none_more : (p : Place) (n : ℕ) → place_behind p (take n []) ≡ p
none_more p zero = refl
none_more p (suc n) = refl
