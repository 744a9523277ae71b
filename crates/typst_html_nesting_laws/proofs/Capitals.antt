-- Names that keep their case get their capitals back, once all their letters are small.
use Rattle.std.proofs.Common.{◌≡◌, ℕ, Bool, true, false, not, List, [], ◌∷◌, bytes_eq, map, map-id, refl, sym, ap, ◌∙◌, arith, None, unwrap_or, find}
use Rattle.std.proofs.lemmas.Bool.{and_from, and_parts, both_ways, false_from_ne_true, not-true, or_parts, Decides.{nat_tests}}
use Rattle.std.{proofs.lemmas.Slice.Eq.{bytes_eq-Decides}, specs.{Char.{to_ascii_lowercase}, List.{list_any}}}
use Rattle.html_names_core.{proofs.Basics.{bytes_eq-same}, specs.{Characters.{is_capital}, Names.{stands_in}}}
use Rattle.html_dom_tree.specs.{Attributes.{first, has_name, names_differ}, Tree.{TextPair}}
use Rattle.html_page_nesting.specs.{WrittenTags.{capital_attrs, keep_case}, declared.reading.Space.{Space, TheVariants.{Html}}}
use Rattle.html_page_names.specs.ForeignNames.{keeps_case, lowered, with_capitals}
use Rattle.typst_html_nesting_laws.proofs.{Branches.{absent_parts, decide}, KindFacts.{AllFail, agree_in}, Readers.{lowered_attrs}}

-- a name without capitals is itself in small letters

small_char : (c : ℕ) → is_capital c ≡ false → to_ascii_lowercase c ≡ c
small_char c h = grind (arith, nat_tests)

small : (n : List ℕ) → list_any is_capital n ≡ false → lowered n ≡ n
small [] h = refl
small (c ∷ cs) h =
    let both = or_parts _ _ h in
    ap (λ d. d ∷ lowered cs) (small_char c both.0) ∙ ap (λ ds. c ∷ ds) (small cs both.1)

-- nothing is found where no test passes
find_none : (test : List ℕ → Bool) (names : List (List ℕ)) → list_any test names ≡ false →
    find test names ≡ None
find_none test [] h = refl
find_none test (m ∷ ms) h =
    let both = or_parts (test m) (list_any test ms) h in
    rw both.0 (find_none test ms both.1)

-- by whether it has capitals, such a name is one of the list, or stays as it is
pub by_case : (names : List (List ℕ)) (n : List ℕ) (P : Type 0) → keeps_case names n ≡ true →
    (stands_in names n ≡ true → P) →
    (lowered n ≡ n → list_any (λ m. bytes_eq (lowered m) n) names ≡ false → P) → P
unfolding keeps_case
by_case names n P h one other = decide (list_any is_capital n) (λ c. one (rw c at h))
    (λ c. other (small n c) (not-true _ (rw c at h)))

-- the names of a list differ by their small letters
abbrev pub ComeBack : List (List ℕ) → Type 0
ComeBack names = map (λ m. with_capitals names (lowered m)) names ≡ map (λ m. m) names

pub attrs_come_back : (s : Space) → ComeBack (capital_attrs s)
attrs_come_back Html = refl
attrs_come_back s = refl

-- a name that keeps its case comes back
pub capitals_back : (names : List (List ℕ)) (n : List ℕ) → ComeBack names →
    keeps_case names n ≡ true → with_capitals names (lowered n) ≡ n
capitals_back names n back h = by_case names n (with_capitals names (lowered n) ≡ n) h
    (λ s. agree_in (λ m. with_capitals names (lowered m)) (λ m. m) names n back s)
    (λ same none. ap (with_capitals names) same
    ∙ ap (λ found. unwrap_or found n) (find_none (λ m. bytes_eq (lowered m) n) names none))

-- where no names have capitals, it is in small letters
pub small_back : (n : List ℕ) → keeps_case [] n ≡ true → lowered n ≡ n
small_back n h = capitals_back [] n refl h

-- a test that the name fails, and all of the list in small letters, fails it in small letters
pub fails_small : (test : List ℕ → Bool) (names : List (List ℕ)) (n : List ℕ) → keeps_case names n
    ≡ true → AllFail (λ m. test (lowered m)) names → test n ≡ false → test (lowered n) ≡ false
fails_small test names n h all fails = by_case names n (test (lowered n) ≡ false) h (λ s. agree_in
    (λ m. test (lowered m)) (λ m. false) names n all s) (λ same none. ap test same ∙ fails)

-- the same of attributes

module _ (names : List (List ℕ)) where
  pub attrs_back : (attrs : List TextPair) → ComeBack names → keep_case names attrs ≡ true →
      map (λ a. (with_capitals names a.0, a.1)) (lowered_attrs attrs) ≡ attrs
  attrs_back [] back h = refl
  attrs_back (a ∷ attrs) back h =
      let both = and_parts _ _ h in
      ap (λ n. (n, a.1) ∷ map (λ b. (with_capitals names b.0, b.1)) (lowered_attrs attrs))
      (capitals_back names a.0 back both.0) ∙ ap (λ l. a ∷ l) (attrs_back attrs back both.1)

  pub attrs_fail : (test : List ℕ → Bool) (attrs : List TextPair) → keep_case names attrs ≡ true →
      AllFail (λ m. test (lowered m)) names → list_any (λ a. test a.0) attrs ≡ false →
      list_any (λ a. test a.0) (lowered_attrs attrs) ≡ false
  attrs_fail test [] h all fails = refl
  attrs_fail test (a ∷ attrs) h all fails =
      let both = and_parts _ _ h in
      let none = or_parts _ _ fails in
      rw (fails_small test names a.0 both.0 all none.0) (attrs_fail test attrs both.1 all none.1)

  -- names that differ do so in small letters
  differ_small : (m n : List ℕ) → ComeBack names → keeps_case names m ≡ true →
      keeps_case names n ≡ true → bytes_eq m n ≡ false → bytes_eq (lowered m) (lowered n) ≡ false
  differ_small m n back h k e = false_from_ne_true _ (λ same. both_ways _ e
      ((bytes_eq-Decides m n).1 (sym (capitals_back names m back h)
      ∙ (ap (with_capitals names) (bytes_eq-same _ _ same) ∙ capitals_back names n back k))))

  no_name_small : (attrs : List TextPair) (n : List ℕ) → ComeBack names →
      keep_case names attrs ≡ true → keeps_case names n ≡ true → has_name attrs n ≡ false →
      has_name (lowered_attrs attrs) (lowered n) ≡ false
  no_name_small [] n back h k e = refl
  no_name_small (a ∷ attrs) n back h k e =
      let both = and_parts _ _ h in
      let none = absent_parts a.1 (first attrs n) e in
      rw (differ_small a.0 n back both.0 k none.0) (no_name_small attrs n back both.1 k none.1)

  pub names_lowered_differ : (attrs : List TextPair) → ComeBack names → keep_case names attrs
      ≡ true → names_differ attrs ≡ true → names_differ (lowered_attrs attrs) ≡ true
  names_lowered_differ [] back h d = refl
  names_lowered_differ (a ∷ attrs) back h d =
      let both = and_parts _ _ h in
      let differ = and_parts _ _ d in
      and_from _ _ (ap not (no_name_small attrs a.0 back both.1 both.0 (not-true _ differ.0)))
      (names_lowered_differ attrs back both.1 differ.1)

-- where no names have capitals
pub attrs_small : (attrs : List TextPair) → keep_case [] attrs ≡ true → lowered_attrs attrs ≡ attrs
attrs_small attrs h = sym (map-id (lowered_attrs attrs)) ∙ attrs_back [] attrs refl h
