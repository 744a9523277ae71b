-- URLs that are scripts have the schemes of scripts.
use Rattle.std.proofs.Common.{◌≡◌, ℕ, ◌+◌, ◌<◌, ◌≤◌, Bool, true, false, ◌||◌, List, [], ◌∷◌, ◌++◌, Some, None, codes, cond, eqb, leb, ltb, if◌then◌else◌, refl, sym, ap, ◌∙◌, arith}
use Rattle.std.proofs.lemmas.Bool.{and_parts, eq-eqb, eqb-true, false_from_ne_true, false≢true, leb-true, ltb-false, ltb-true, or_from, true≢false}
use Rattle.std.proofs.lemmas.Bool.Decides.{nat_tests}
use Rattle.std.specs.Char.{is_ascii_alphabetic, to_ascii_lowercase}
use Rattle.html_names_core.specs.{Characters.{all, is_lower}, Names.{stands_in}}
use Rattle.html_links.specs.Scripts.{begins, url_begin}
use Rattle.html_clean_values.proofs.SchemeSteps.{colon, more}
use Rattle.html_clean_values.specs.Urls.{is_scheme_char, scheme_at, scheme_is_allowed, scheme_rest, url_is_allowed, url_scheme, with_letter}
use Rattle.html_clean_values.specs.ValueLaws.{ScriptsAreRefused}

-- letters

record IsLetter (c : ℕ) : Type 0 where
  scheme_char : is_scheme_char c ≡ true
  no_colon : eqb c 58 ≡ false
  alphabetic : is_ascii_alphabetic c ≡ true

capital : (c : ℕ) → 65 ≤ c → c < 91 → IsLetter c
capital c low high = record {
  scheme_char = grind (arith, nat_tests);
  no_colon = grind (arith, nat_tests);
  alphabetic = grind (arith, nat_tests);
}

small : (c : ℕ) → 97 ≤ c → c ≤ 122 → IsLetter c
small c low high = record {
  scheme_char = grind (arith, nat_tests);
  no_colon = grind (arith, nat_tests);
  alphabetic = grind (arith, nat_tests);
}

first_lowered : (c : ℕ) → ltb c 65 ≡ true → to_ascii_lowercase c ≡ c
first_lowered c e = ap (λ b. cond b c (cond (ltb c 91) (c + 32) c)) e

middle_lowered : (c : ℕ) → ltb c 65 ≡ false → ltb c 91 ≡ true → to_ascii_lowercase c ≡ c + 32
middle_lowered c e f = ap (λ b. cond b c (cond (ltb c 91) (c + 32) c)) e
    ∙ ap (λ b. cond b (c + 32) c) f

last_lowered : (c : ℕ) → ltb c 65 ≡ false → ltb c 91 ≡ false → to_ascii_lowercase c ≡ c
last_lowered c e f = ap (λ b. cond b c (cond (ltb c 91) (c + 32) c)) e
    ∙ ap (λ b. cond b (c + 32) c) f

letter_by : (x c : ℕ) (a b : Bool) → ltb c 65 ≡ a → ltb c 91 ≡ b → 97 ≤ x → x ≤ 122 →
    to_ascii_lowercase c ≡ x → IsLetter c
letter_by x c true b e f low high is =
    absurd (omega (arith, low, ltb-true c 65 e, sym (first_lowered c e) ∙ is))
letter_by x c false true e f low high is = capital c (ltb-false c 65 e) (ltb-true c 91 f)
letter_by x c false false e f low high is =
    let same : c ≡ x = sym (last_lowered c e f) ∙ is in
    small c (omega (arith, same, low)) (omega (arith, same, high))

letter : (x c : ℕ) → is_lower x ≡ true → eqb (to_ascii_lowercase c) x ≡ true → IsLetter c
letter x c low is =
    let bounds = and_parts (leb 97 x) (leb x 122) low in
    letter_by x c (ltb c 65) (ltb c 91) refl refl (leb-true 97 x bounds.0) (leb-true x 122 bounds.1)
    (eqb-true (to_ascii_lowercase c) x is)

colon_by : (c : ℕ) (a b : Bool) → ltb c 65 ≡ a → ltb c 91 ≡ b → to_ascii_lowercase c ≡ 58 → c ≡ 58
colon_by c true b e f is = sym (first_lowered c e) ∙ is
colon_by c false true e f is =
    absurd (omega (arith, sym (middle_lowered c e f) ∙ is, ltb-false c 65 e))
colon_by c false false e f is = sym (last_lowered c e f) ∙ is

colon_is : (c : ℕ) → eqb (to_ascii_lowercase c) 58 ≡ true → eqb c 58 ≡ true
colon_is c is = eq-eqb c 58
    (colon_by c (ltb c 65) (ltb c 91) refl refl (eqb-true (to_ascii_lowercase c) 58 is))

-- a URL that begins with a scheme and a colon

rest_of : (s ks : List ℕ) → all is_lower s ≡ true → begins (s ++ 58 ∷ []) ks ≡ true →
    scheme_rest ks ≡ Some s
unfolding begins
rest_of [] [] are h = absurd (false≢true h)
rest_of [] (c ∷ cs) are h =
    colon c cs (colon_is c (and_parts (eqb (to_ascii_lowercase c) 58) (begins [] cs) h).0)
rest_of (x ∷ xs) [] are h = absurd (false≢true h)
rest_of (x ∷ xs) (c ∷ cs) are h =
    let both = and_parts (eqb (to_ascii_lowercase c) x) (begins (xs ++ 58 ∷ []) cs) h in
    let low = and_parts (is_lower x) (all is_lower xs) are in
    let is = letter x c low.0 both.0 in
    more c cs is.no_colon is.scheme_char
    ∙ (ap (with_letter c) (rest_of xs cs low.1 both.1)
    ∙ ap (λ d. Some (d ∷ xs)) (eqb-true (to_ascii_lowercase c) x both.0))

scheme_of : (x : ℕ) (xs ks : List ℕ) → all is_lower (x ∷ xs) ≡ true →
    begins ((x ∷ xs) ++ 58 ∷ []) ks ≡ true → scheme_at ks ≡ Some (x ∷ xs)
unfolding begins
scheme_of x xs [] are h = absurd (false≢true h)
scheme_of x xs (c ∷ cs) are h =
    let both = and_parts (eqb (to_ascii_lowercase c) x) (begins (xs ++ 58 ∷ []) cs) h in
    let is = letter x c (and_parts (is_lower x) (all is_lower xs) are).0 both.0 in
    ap (λ b. if b then scheme_rest (c ∷ cs) else None) is.alphabetic
    ∙ rest_of (x ∷ xs) (c ∷ cs) are h

refused : (schemes : List (List ℕ)) (relative : Bool) (url : List ℕ) (x : ℕ) (xs : List ℕ) →
    all is_lower (x ∷ xs) ≡ true → stands_in schemes (x ∷ xs) ≡ false →
    begins ((x ∷ xs) ++ 58 ∷ []) (url_begin url) ≡ true →
    url_is_allowed schemes relative url ≡ false
unfolding url_is_allowed url_scheme
refused schemes relative url x xs are none h =
    ap (scheme_is_allowed schemes relative) (scheme_of x xs (url_begin url) are h) ∙ none

other : (schemes : List (List ℕ)) (relative : Bool) (url : List ℕ) (x : ℕ) (xs : List ℕ) →
    all is_lower (x ∷ xs) ≡ true → stands_in schemes (x ∷ xs) ≡ false →
    url_is_allowed schemes relative url ≡ true →
    begins ((x ∷ xs) ++ 58 ∷ []) (url_begin url) ≡ false
other schemes relative url x xs are none allowed =
    false_from_ne_true (begins ((x ∷ xs) ++ 58 ∷ []) (url_begin url))
    (λ h. true≢false (sym allowed ∙ refused schemes relative url x xs are none h))

pub scripts_are_refused : ScriptsAreRefused
scripts_are_refused schemes relative url javascript datas vbscript allowed =
    or_from
    (begins (codes "javascript:") (url_begin url) || begins (codes "data:") (url_begin url))
    (begins (codes "vbscript:") (url_begin url))
    (or_from (begins (codes "javascript:") (url_begin url)) (begins (codes "data:") (url_begin url))
    (other schemes relative url 106 (codes "avascript") refl javascript allowed)
    (other schemes relative url 100 (codes "ata") refl datas allowed))
    (other schemes relative url 118 (codes "bscript") refl vbscript allowed)
