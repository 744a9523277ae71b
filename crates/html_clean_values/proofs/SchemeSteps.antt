-- The scheme of a URL, by its definition and by tests.
use Rattle.std.proofs.Common.{◌≡◌, ℕ, Bool, true, false, ◌&&◌, ◌||◌, List, [], ◌∷◌, Option, Some, None, bytes_eq, eqb, filter, if◌then◌else◌, is_some, option_map, refl, sym, ap, ◌∙◌, arith}
use Rattle.std.proofs.lemmas.{Bool.{and_parts, eqb-true}, Bool.Decides.{nat_tests}}
use Rattle.std.specs.Char.{is_ascii_alphabetic, to_ascii_lowercase}
use Rattle.html_names_core.specs.{Characters.{all}, Names.{stands_in}}
use Rattle.html_links.specs.{Indicated.{is_control_or_space, is_kept}, Scripts.{past_blanks, url_begin}}
use Rattle.html_clean_values.specs.{SchemeTests.{begins_with, is_colon, is_letter_of, one_is_scheme, scheme_rest_is}, Srcsets.{is_comma, without_commas}}
use Rattle.html_clean_values.specs.Urls.{is_scheme_char, scheme_at, scheme_is_allowed, scheme_rest, url_is_allowed, url_scheme, with_letter}

-- step by step

abbrev rest_before : ℕ → Option (List ℕ) → Option (List ℕ)
rest_before c o =
    if eqb c 58 then Some [] else (if is_scheme_char c then with_letter c o else None)

pub colon : (c : ℕ) (cs : List ℕ) → eqb c 58 ≡ true → scheme_rest (c ∷ cs) ≡ Some []
colon c cs is = rw is refl

pub no_scheme : (c : ℕ) (cs : List ℕ) → eqb c 58 ≡ false → is_scheme_char c ≡ false →
    scheme_rest (c ∷ cs) ≡ None
no_scheme c cs is bad = rw (is, bad) refl

pub more : (c : ℕ) (cs : List ℕ) → eqb c 58 ≡ false → is_scheme_char c ≡ true →
    scheme_rest (c ∷ cs) ≡ with_letter c (scheme_rest cs)
more c cs is good = rw (is, good) refl

-- the test of one scheme

abbrev is_that : Option (List ℕ) → List ℕ → Bool
is_that None s = false
is_that (Some r) s = bytes_eq s r

none_empty : (c : ℕ) (o : Option (List ℕ)) → is_that (option_map (λ s. c ∷ s) o) [] ≡ false
none_empty c None = refl
none_empty c (Some r) = refl

one_more : (x c : ℕ) (xs : List ℕ) (o : Option (List ℕ)) →
    is_that (option_map (λ s. c ∷ s) o) (x ∷ xs) ≡ (eqb x c && is_that o xs)
one_more x c xs None = by (eqb x c) where
  by : (b : Bool) → false ≡ (b && false)
  by true = refl
  by false = refl
one_more x c xs (Some r) = refl

no_colon : (c : ℕ) → eqb c 58 ≡ true → is_scheme_char c ≡ false
no_colon c is = rw (eqb-true c 58 is) refl

pub rest_tested : (s cs : List ℕ) → scheme_rest_is s cs ≡ is_that (scheme_rest cs) s
unfolding scheme_rest_is
rest_tested [] [] = refl
rest_tested [] (c ∷ cs) = by (eqb c 58) (is_scheme_char c) refl refl where
  by : (a b : Bool) → eqb c 58 ≡ a → is_scheme_char c ≡ b →
      scheme_rest_is [] (c ∷ cs) ≡ is_that (scheme_rest (c ∷ cs)) []
  by true b is good = is ∙ sym (ap (λ o. is_that o []) (colon c cs is))
  by false true is good =
      is ∙ sym (ap (λ o. is_that o []) (more c cs is good) ∙ none_empty _ (scheme_rest cs))
  by false false is good = is ∙ sym (ap (λ o. is_that o []) (no_scheme c cs is good))
rest_tested (x ∷ xs) [] = refl
rest_tested (x ∷ xs) (c ∷ cs) =
    by (rest_tested xs cs) (eqb c 58) (is_scheme_char c) refl refl where
      by : scheme_rest_is xs cs ≡ is_that (scheme_rest cs) xs → (a b : Bool) →
          eqb c 58 ≡ a → is_scheme_char c ≡ b →
          scheme_rest_is (x ∷ xs) (c ∷ cs) ≡ is_that (scheme_rest (c ∷ cs)) (x ∷ xs)
      by held true b is good =
          ap (λ b. (b && eqb x (to_ascii_lowercase c)) && scheme_rest_is xs cs) (no_colon c is)
          ∙ sym (ap (λ o. is_that o (x ∷ xs)) (colon c cs is))
      by held false true is good =
          ap (λ b. (b && eqb x (to_ascii_lowercase c)) && scheme_rest_is xs cs) good
          ∙ (ap (λ b. eqb x (to_ascii_lowercase c) && b) held
          ∙ sym (ap (λ o. is_that o (x ∷ xs)) (more c cs is good)
          ∙ one_more x (to_ascii_lowercase c) xs (scheme_rest cs)))
      by held false false is good =
          ap (λ b. (b && eqb x (to_ascii_lowercase c)) && scheme_rest_is xs cs) good
          ∙ sym (ap (λ o. is_that o (x ∷ xs)) (no_scheme c cs is good))

-- its steps

rest_step : (scheme small ks ls : List ℕ) (x c : ℕ) → scheme ≡ x ∷ small → ks ≡ c ∷ ls →
    scheme_rest_is scheme ks ≡ (is_letter_of x c && scheme_rest_is small ls)
unfolding scheme_rest_is
rest_step scheme small ks ls x c e f = rw (e, f) refl

pub rest_differs : (scheme small ks ls : List ℕ) (x c : ℕ) → scheme ≡ x ∷ small → ks ≡ c ∷ ls →
    is_letter_of x c ≡ false → scheme_rest_is scheme ks ≡ false
rest_differs scheme small ks ls x c e f is =
    rest_step scheme small ks ls x c e f ∙ ap (λ b. b && scheme_rest_is small ls) is

pub rest_agrees : (scheme small ks ls : List ℕ) (x c : ℕ) → scheme ≡ x ∷ small → ks ≡ c ∷ ls →
    is_letter_of x c ≡ true → scheme_rest_is scheme ks ≡ scheme_rest_is small ls
rest_agrees scheme small ks ls x c e f is =
    rest_step scheme small ks ls x c e f ∙ ap (λ b. b && scheme_rest_is small ls) is

pub rest_short : (scheme small ks : List ℕ) (x : ℕ) → scheme ≡ x ∷ small → ks ≡ [] →
    scheme_rest_is scheme ks ≡ false
unfolding scheme_rest_is
rest_short scheme small ks x e f = rw (e, f) refl

pub rest_done : (scheme ks : List ℕ) → scheme ≡ [] →
    scheme_rest_is scheme ks ≡ begins_with is_colon ks
unfolding scheme_rest_is
rest_done scheme ks e = ap (λ s. scheme_rest_is s ks) e

-- the test of several

pub one_tested : (schemes : List (List ℕ)) (cs scheme : List ℕ) → scheme_rest cs ≡ Some scheme →
    one_is_scheme schemes cs ≡ stands_in schemes scheme
unfolding one_is_scheme stands_in
one_tested [] cs scheme is = refl
one_tested (s ∷ ss) cs scheme is =
    ap (λ b. b || one_is_scheme ss cs) (rest_tested s cs ∙ ap (λ o. is_that o s) is)
    ∙ ap (λ b. bytes_eq s scheme || b) (one_tested ss cs scheme is)

-- whether a URL is allowed

allowed_by : (schemes : List (List ℕ)) (relative : Bool) (c : ℕ) (cs : List ℕ) (a : Bool)
    (o : Option (List ℕ)) →
    is_ascii_alphabetic c ≡ a → scheme_rest (c ∷ cs) ≡ o →
    scheme_is_allowed schemes relative (scheme_at (c ∷ cs))
    ≡ (if is_some (scheme_at (c ∷ cs)) then one_is_scheme schemes (c ∷ cs) else relative)
allowed_by schemes relative c cs false o letter is = rw letter refl
allowed_by schemes relative c cs true None letter is = rw (letter, is) refl
allowed_by schemes relative c cs true (Some s) letter is =
    rw (letter, is) (sym (one_tested schemes (c ∷ cs) s is))

allowed_at : (schemes : List (List ℕ)) (relative : Bool) (cs : List ℕ) →
    scheme_is_allowed schemes relative (scheme_at cs)
    ≡ (if is_some (scheme_at cs) then one_is_scheme schemes cs else relative)
allowed_at schemes relative [] = refl
allowed_at schemes relative (c ∷ cs) =
    allowed_by schemes relative c cs (is_ascii_alphabetic c) (scheme_rest (c ∷ cs)) refl refl

pub allowed_is : (schemes : List (List ℕ)) (relative : Bool) (url : List ℕ) →
    url_is_allowed schemes relative url
    ≡ (if is_some (scheme_at (url_begin url)) then one_is_scheme schemes (url_begin url)
    else relative)
unfolding url_is_allowed url_scheme
allowed_is schemes relative url = allowed_at schemes relative (url_begin url)

-- commas at the end of a URL are no part of a scheme

comma_kept : (c : ℕ) → is_comma c ≡ true → is_kept c ≡ true
comma_kept c is = rw (eqb-true c 44 is) refl

comma_rest : (c : ℕ) (cs : List ℕ) → is_comma c ≡ true → scheme_rest (c ∷ cs) ≡ None
comma_rest c cs is = rw (eqb-true c 44 is) refl

comma_at : (c : ℕ) (cs : List ℕ) → is_comma c ≡ true →
    scheme_at (filter is_kept (past_blanks (c ∷ cs))) ≡ None
comma_at c cs is = rw (eqb-true c 44 is) refl

rest_without : (cs : List ℕ) →
    scheme_rest (filter is_kept (without_commas cs)) ≡ scheme_rest (filter is_kept cs)
rest_without [] = refl
rest_without (c ∷ cs) = by (rest_without cs) (all is_comma (c ∷ cs)) (is_kept c) refl refl where
  by : scheme_rest (filter is_kept (without_commas cs)) ≡ scheme_rest (filter is_kept cs) →
      (a b : Bool) → all is_comma (c ∷ cs) ≡ a → is_kept c ≡ b →
      scheme_rest (filter is_kept (without_commas (c ∷ cs))) ≡ scheme_rest (filter is_kept (c ∷ cs))
  by held true b are kept =
      let is = (and_parts (is_comma c) (all is_comma cs) are).0 in
      rw (are, comma_kept c is) (sym (comma_rest c (filter is_kept cs) is))
  by held false true are kept =
      rw (are, kept) (ap (rest_before c) held)
  by held false false are kept = rw (are, kept) held

visible_kept : (c : ℕ) → is_control_or_space c ≡ false → is_kept c ≡ true
visible_kept c is = grind (arith, nat_tests)

at_without : (cs : List ℕ) →
    scheme_at (url_begin (without_commas cs)) ≡ scheme_at (url_begin cs)
at_without [] = refl
at_without (c ∷ cs) =
    by (at_without cs) (all is_comma (c ∷ cs)) (is_control_or_space c) refl refl where
      by : scheme_at (url_begin (without_commas cs)) ≡ scheme_at (url_begin cs) → (a b : Bool) →
          all is_comma (c ∷ cs) ≡ a → is_control_or_space c ≡ b →
          scheme_at (url_begin (without_commas (c ∷ cs))) ≡ scheme_at (url_begin (c ∷ cs))
      by held true b are blank =
          rw are (sym (comma_at c cs (and_parts (is_comma c) (all is_comma cs) are).0))
      by held false true are blank = rw (are, blank) held
      by held false false are blank =
          rw (are, blank, visible_kept c blank)
          (ap (λ o. if is_ascii_alphabetic c then rest_before c o else None) (rest_without cs))

pub allowed_without : (schemes : List (List ℕ)) (relative : Bool) (url : List ℕ) →
    url_is_allowed schemes relative (without_commas url) ≡ url_is_allowed schemes relative url
unfolding url_is_allowed url_scheme
allowed_without schemes relative url = ap (scheme_is_allowed schemes relative) (at_without url)
