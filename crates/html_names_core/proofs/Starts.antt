-- A text is looked for among the names that begin with its first letter.
use Rattle.std.proofs.Common.{◌≡◌, ℕ, zero, suc, ◌+◌, ◌-◌, ◌<◌, ◌≤◌, true, false, List, [], ◌∷◌, refl, sym, ap, ◌∙◌, length, get_or, arith, bytes_eq, chars}
use Rattle.std.specs.{List.{list_all}, Prelude.{nat_le}, Str.{IsUtf8}}
use borrow.Author.Count.{below_more}
use Rattle.std.proofs.lemmas.{Bool.{and_parts, false≢true}, List.{get_or-map, length-map}, Bool.Decides.{nat_tests}}
use Rattle.std.{proofs.lemmas.Slice.Eq.{bytes_eq-Decides}, specs.Borrow.{Bor}}
use Rattle.html_names_core.proofs.{Ascending.{ascii_at}, Lists.{stands_in-chars, chars_ascii}}
use Rattle.html_names_core.specs.{Characters.{is_lower}, Names.{stands_in, texts, is_ascii, are_ascii, IsPlace}}
use Rattle.html_names_core.specs.Starts.{is_started, all_started, are_starts}

start_within : (starts : List ℕ) (n letter : ℕ) → list_all (λ s. nat_le s n) starts ≡ true →
    get_or starts letter 0 ≤ n
start_within [] n letter h = omega arith
start_within (s ∷ ss) n zero h = grind (arith, nat_tests)
start_within (s ∷ ss) n (suc letter) h = grind (arith, start_within ss n letter)

pub within : (starts : List ℕ) (names : List (List ℕ)) (letter : ℕ) →
    are_starts starts names ≡ true → get_or starts letter 0 ≤ length names
within starts names letter h = start_within starts (length names) letter (and_parts _ _ h).0

-- a name of the table is started
started_at : (starts : List ℕ) (place : ℕ) (names : List (List ℕ)) (k here : ℕ) →
    k < length names → here ≡ place + k → all_started starts place names ≡ true →
    is_started starts here (get_or names k []) ≡ true
started_at starts place [] k here l e h = absurd (omega arith)
started_at starts place (n ∷ ns) zero here l e h =
    let first : here ≡ place = omega arith in rw first (and_parts _ _ h).0
started_at starts place (n ∷ ns) (suc k) here l e h =
    started_at starts (suc place) ns k here (omega arith) (omega arith) (and_parts _ _ h).1

none : (names : List (List ℕ)) (t : List ℕ) →
    ((k : ℕ) → k < length names → bytes_eq (get_or names k []) t ≡ false) → stands_in names t ≡ false
unfolding stands_in
none [] t h = refl
none (n ∷ ns) t h = rw (h 0 (omega arith), none ns t (λ k l. h (suc k) (omega (arith, l)))) refl

absent : (starts : List ℕ) (names : List (List ℕ)) (t : List ℕ) → are_starts starts names ≡ true →
    ((k : ℕ) → is_started starts k t ≡ true → bytes_eq (get_or names k []) t ≡ false) →
    stands_in names t ≡ false
absent starts names t s h =
    let within_end = list_all (λ n. nat_le n (length names)) starts in
    let all : all_started starts 0 names ≡ true =
    (and_parts within_end (all_started starts 0 names) s).1 in
    none names t (λ k l. grind (
      arith,
      h k,
      (bytes_eq-Decides (get_or names k []) t).0,
      started_at starts 0 names k k l (omega arith) all,
    ))

module _ (starts : List ℕ) (names : List (List ℕ)) (t : List ℕ) (h : are_starts starts names ≡ true)
    (ascii : are_ascii names ≡ true) (utf8 : IsUtf8 t) where
  abbrev IsAbsent : Type 0
  IsAbsent = stands_in names (chars t) ≡ false

  by_bytes : ((k : ℕ) → is_started starts k t ≡ true → bytes_eq (get_or names k []) t ≡ false) →
      IsAbsent
  by_bytes each = stands_in-chars names t ascii utf8 ∙ absent starts names t h each

  never : ((k : ℕ) → is_started starts k t ≡ false) → IsAbsent
  never each = by_bytes (λ k s. absurd (false≢true (sym (each k) ∙ s)))

pub empty : (starts : List ℕ) (names : List (List ℕ)) (t : List ℕ) → are_starts starts names ≡ true →
    are_ascii names ≡ true → IsUtf8 t → length t ≤ 0 → stands_in names (chars t) ≡ false
empty starts names [] h a u e = never starts names [] h a u (λ k. refl)
empty starts names (c ∷ cs) h a u e = absurd (omega arith)

-- each begins with a small letter
pub other : (starts : List ℕ) (names : List (List ℕ)) (t : List ℕ) (first : ℕ) →
    are_starts starts names ≡ true → are_ascii names ≡ true → IsUtf8 t → first ≡ get_or t 0 0 →
    is_lower first ≡ false → stands_in names (chars t) ≡ false
other starts names [] first h a u is e = never starts names [] h a u (λ k. refl)
other starts names (c ∷ cs) first h a u is e =
    let not_lower : is_lower c ≡ false = rw (sym is) e in
    never starts names (c ∷ cs) h a u (λ k. rw not_lower refl)

bounds : (starts : List ℕ) (k c : ℕ) (cs : List ℕ) → is_started starts k (c ∷ cs) ≡ true →
    (get_or starts (c - 97) 0 ≤ k) × (k < get_or starts (c - 97 + 1) 0)
bounds starts k c cs h = grind (arith, nat_tests)

-- and stands among those of that letter
pub not_among : (starts : List ℕ) (names : List (List ℕ)) (t : List ℕ) (first letter : ℕ) →
    are_starts starts names ≡ true → are_ascii names ≡ true → IsUtf8 t → 0 < length t →
    first ≡ get_or t 0 0 → letter ≡ first - 97 →
    ((k : ℕ) → get_or starts letter 0 ≤ k → k < get_or starts (letter + 1) 0 →
    bytes_eq (get_or names k []) t ≡ false) → stands_in names (chars t) ≡ false
not_among starts names [] first letter h a u l is at each = absurd (omega arith)
not_among starts names (c ∷ cs) first letter h a u l is at each =
    let here : letter ≡ c - 97 = at ∙ ap (λ n. n - 97) is in
    by_bytes starts names (c ∷ cs) h a u (λ k s.
    let ends = bounds starts k c cs s in each k (rw here ends.0) (rw here ends.1))

-- what follows from the comparison with one name
module _ (table : List (Bor (List ℕ))) (t : List ℕ) (place n : ℕ) (d : Bor (List ℕ))
    (l : place < length table) (e : n ≡ place) where
  at : get_or (texts table) place [] ≡ (get_or table n d).now
  at = rw e (get_or-map (λ b. b.now) table place d [] l)

  pub found : are_ascii (texts table) ≡ true → true ≡ bytes_eq (get_or table n d).now t →
      IsPlace (texts table) (chars t) place
  found ascii same =
      let is : get_or (texts table) place [] ≡ t = at ∙ (bytes_eq-Decides _ t).0 (sym same) in
      let in_range : place < length (texts table) = rw (length-map table (λ b. b.now)) l in
      let plain : is_ascii t ≡ true = rw (sym is, ascii_at (texts table) place in_range ascii) refl in
      (in_range, is ∙ sym (chars_ascii t plain))

  pub not_here : false ≡ bytes_eq (get_or table n d).now t →
      bytes_eq (get_or (texts table) place []) t ≡ false
  not_here other = rw at (sym other)

-- one more name is another
pub more : (P : ℕ → Type 0) (start place : ℕ) → ((k : ℕ) → start ≤ k → k < place → P k) →
    P place → (k : ℕ) → start ≤ k → k < place + 1 → P k
more P start place before here k s l =
    below_more (λ i. start ≤ i → P i) place (λ i b a. before i a b) (λ a. here) k l s
