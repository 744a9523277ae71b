-- A name in small letters gets its capitals back by a table.
use Rattle.std.proofs.Common.{◌≡◌, ℕ, zero, suc, ◌<◌, Bool, true, false, not, ◌||◌, List, [], ◌∷◌, refl, sym, ap, ◌∙◌, length, get_or, arith, map, bytes_eq, Some, None, unwrap_or}
use Rattle.std.proofs.lemmas.{Bool.{and_parts}, List.{get_or-map, length-map}, Slice.Eq.{bytes_eq-Decides}}
use Rattle.std.specs.{Borrow.{Bor}, List.{find, list_any}}
use Rattle.html_names_core.{proofs.Ascending.{places_differ, stands}, specs.Characters.{is_capital}, specs.Names.{stands_in, texts, rises, IsPlace}}
use Rattle.html_page_names.specs.{Capitals.{is_name, are_names, IsWithCapitals}, ForeignNames.{keeps_case, lowered}}

abbrev is_that : (text name : List ℕ) → Bool
is_that text name = bytes_eq (lowered name) text

-- the first of that name in small letters is the only one
find_at : (names : List (List ℕ)) (text : List ℕ) (n : ℕ) → rises (map lowered names) ≡ true →
    n < length names → lowered (get_or names n []) ≡ text →
    find (is_that text) names ≡ Some (get_or names n [])
find_at [] text n r l e = absurd (omega arith)
find_at (m ∷ ms) text zero r l e = rw ((bytes_eq-Decides (lowered m) text).1 e) refl
find_at (m ∷ ms) text (suc n) r l e =
    let below : n < length ms = omega arith in
    let within : suc n < length (map lowered (m ∷ ms)) = omega (arith, length-map ms lowered, l) in
    let at : get_or (map lowered ms) n [] ≡ text = get_or-map lowered ms n [] [] below ∙ e in
    let other : bytes_eq (lowered m) text ≡ false =
    rw at at (places_differ (map lowered (m ∷ ms)) r zero (suc n) (omega arith) within) in
    rw other (find_at ms text n (and_parts _ _ r).1 below e)

find_none : (names : List (List ℕ)) (text : List ℕ) → stands_in (map lowered names) text ≡ false →
    find (is_that text) names ≡ None
unfolding stands_in
find_none [] text h = refl
find_none (m ∷ ms) text h =
    grind (arith, find_none ms text)

valid_at : (names : List (List ℕ)) (n : ℕ) → n < length names → are_names names ≡ true →
    is_name (get_or names n []) ≡ true
valid_at [] n l a = absurd (omega arith)
valid_at (m ∷ ms) zero l a = (and_parts _ _ a).0
valid_at (m ∷ ms) (suc n) l a = valid_at ms n (omega arith) (grind arith)

pub with_capitals_at : (table : List (Bor (List ℕ))) (small : List (List ℕ)) (text : List ℕ)
    (n k : ℕ) (d : Bor (List ℕ)) → small ≡ map lowered (texts table) → rises small ≡ true →
    are_names (texts table) ≡ true → IsPlace small text n → k ≡ n →
    IsWithCapitals (texts table) text (Some (get_or table k d))
with_capitals_at table small text n k d s r a at e =
    let names = texts table in
    let long : length (map lowered names) ≡ length names = length-map names lowered in
    let within : n < length names = omega (arith, ap length s, long, at.0) in
    let agrees : n < length table = omega (arith, within, length-map table (λ b. b.now)) in
    let is : get_or names n [] ≡ (get_or table k d).now = rw e (get_or-map (λ b. b.now) table n d [] agrees) in
    let same : lowered (get_or names n []) ≡ text =
    sym (get_or-map lowered names n [] [] within) ∙ rw s at at.1 in
    let found = find_at names text n (rw s at r) within same in
    (sym (ap (λ o. unwrap_or o text) found ∙ is), rw is at (valid_at names n within a))

pub without_capitals : (names small : List (List ℕ)) (text : List ℕ) → small ≡ map lowered names →
    stands_in small text ≡ false → IsWithCapitals names text None
without_capitals names small text s absent =
    ap (λ found. unwrap_or found text) (find_none names text (rw (sym s) absent))

any_lowered : (names : List (List ℕ)) (text : List ℕ) →
    list_any (is_that text) names ≡ stands_in (map lowered names) text
unfolding stands_in
any_lowered [] text = refl
any_lowered (n ∷ ns) text = ap (λ b. bytes_eq (lowered n) text || b) (any_lowered ns text)

-- a name without capitals stays as it is where it is none of these in small letters
module _ (names small : List (List ℕ)) (text : List ℕ) (s : small ≡ map lowered names)
    (low : list_any is_capital text ≡ false) where
  by_small : keeps_case names text ≡ not (stands_in small text)
  unfolding keeps_case
  by_small = rw low (ap not (any_lowered names text) ∙ ap (λ t. not (stands_in t text)) (sym s))

  pub loses_case : (n : ℕ) → IsPlace small text n → keeps_case names text ≡ false
  loses_case n at =
      by_small ∙ ap not (sym (ap (stands_in small) at.1) ∙ stands small n at.0)

  pub keeps_small_case : stands_in small text ≡ false → keeps_case names text ≡ true
  keeps_small_case absent = by_small ∙ ap not absent
