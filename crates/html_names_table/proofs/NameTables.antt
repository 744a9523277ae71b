-- Numbers of names, over lists of texts.
use Rattle.std.proofs.Common.{◌≡◌, ℕ, ◌<◌, ◌≤◌, Bool, true, false, if◌then◌else◌, List, [], ◌∷◌, ◌++◌, refl, sym, ap, ◌∙◌, length, arith, bytes_eq, add-one, append-nil, length-append, Option, None, Some, Ok}
use Rattle.std.proofs.{Math.Bool.{or-true}, lemmas.Bool.{eq-eqb}, lemmas.List.{get_or_append_left, get_or_push}, lemmas.Slice.Eq.{bytes_eq-Decides}}
use Rattle.html_names_core.{proofs.Ascending.{stands, stands_in-append}, proofs.Basics.{bytes_eq-refl}, specs.Names.{stands_in}}
use Rattle.html_names_table.specs.NameTables.{Numbers, IsNumbered, number_in, number_where, with_name, name_at}

pub number_below : (names : List (List ℕ)) (name : List ℕ) → stands_in names name ≡ true →
    number_in names name < length names
unfolding stands_in number_in
number_below [] name h = cc
number_below (n ∷ ns) name h = grind (arith, number_below ns name)

pub number_next : (names : List (List ℕ)) (name : List ℕ) → stands_in names name ≡ false →
    number_in names name ≡ length names
unfolding stands_in number_in
number_next [] name h = refl
number_next (n ∷ ns) name h = grind (arith, number_next ns name)

pub name_at-number : (names : List (List ℕ)) (name : List ℕ) → stands_in names name ≡ true →
    name_at names (number_in names name) ≡ name
unfolding stands_in number_in
name_at-number [] name h = cc
name_at-number (n ∷ ns) name h =
    grind (arith, name_at-number ns name, add-one, (bytes_eq-Decides n name).0)

pub number_in-append : (names more : List (List ℕ)) (name : List ℕ) →
    stands_in names name ≡ true → number_in (names ++ more) name ≡ number_in names name
unfolding stands_in number_in
number_in-append [] more name h = cc
number_in-append (n ∷ ns) more name h = grind (arith, number_in-append ns more name)

-- a name at the end stands there, with the number that it has or gets
pub stands_in-last : (names : List (List ℕ)) (name : List ℕ) →
    stands_in (names ++ name ∷ []) name ≡ true
unfolding stands_in
stands_in-last [] name = rw (bytes_eq-refl name) refl
stands_in-last (n ∷ ns) name = rw (stands_in-last ns name) (or-true (bytes_eq n name))

pub number_in-last : (names : List (List ℕ)) (name : List ℕ) →
    number_in (names ++ name ∷ []) name ≡ number_in names name
unfolding number_in
number_in-last [] name = rw (bytes_eq-refl name) refl
number_in-last (n ∷ ns) name = rw (number_in-last ns name) refl

-- a name that stands there is not added again
pub with_name-stands : (names : List (List ℕ)) (name : List ℕ) → stands_in names name ≡ true →
    with_name names name ≡ names
unfolding with_name
with_name-stands names name h = rw h refl

pub with_name-new : (names : List (List ℕ)) (name : List ℕ) → stands_in names name ≡ false →
    with_name names name ≡ names ++ name ∷ []
unfolding with_name
with_name-new names name h = rw h refl

-- a name is added at the end
pub with_name-appends : (names : List (List ℕ)) (name : List ℕ) →
    (more : List (List ℕ)) × (with_name names name ≡ names ++ more)
unfolding with_name
with_name-appends names name =
    (if stands_in names name then [] else name ∷ [], grind (arith, append-nil names))

pub with_name-long : (names : List (List ℕ)) (name : List ℕ) →
    length names ≤ length (with_name names name)
unfolding with_name
with_name-long names name = grind (arith, length-append names (name ∷ []))

-- a name that is added stands there, with the number that it had or got
pub stands_in-added : (names : List (List ℕ)) (name : List ℕ) →
    stands_in (with_name names name) name ≡ true
unfolding with_name
stands_in-added names name = grind (arith, stands_in-last names name)

pub number_in-added : (names : List (List ℕ)) (name : List ℕ) →
    number_in (with_name names name) name ≡ number_in names name
unfolding with_name
number_in-added names name = grind (arith, number_in-last names name)

pub name_at-added : (names : List (List ℕ)) (name : List ℕ) →
    name_at (with_name names name) (number_in names name) ≡ name
name_at-added names name =
    let grown : List (List ℕ) = with_name names name in
    ap (name_at grown) (sym (number_in-added names name))
    ∙ name_at-number grown name (stands_in-added names name)

pub name_at-with_name : (names : List (List ℕ)) (name : List ℕ) (number : ℕ) →
    number < length names → name_at (with_name names name) number ≡ name_at names number
name_at-with_name names name number h =
    let grown = with_name-appends names name in
    rw grown.1 (get_or_append_left names grown.0 [] number h)

pub stands_in-with_name : (names : List (List ℕ)) (name other : List ℕ) →
    stands_in names other ≡ true → stands_in (with_name names name) other ≡ true
stands_in-with_name names name other h =
    let grown = with_name-appends names name in
    rw grown.1 (stands_in-append names grown.0 other h)

pub number_in-with_name : (names : List (List ℕ)) (name other : List ℕ) →
    stands_in names other ≡ true → number_in (with_name names name) other ≡ number_in names other
number_in-with_name names name other h =
    let grown = with_name-appends names name in
    rw grown.1 (number_in-append names grown.0 other h)

pub equal_numbers : (names : List (List ℕ)) (a b : List ℕ) →
    (number_in names a ≡ number_in (with_name names a) b → a ≡ b)
    × (a ≡ b → number_in names a ≡ number_in (with_name names a) b)
equal_numbers names a b =
    let one : List (List ℕ) = with_name names a in
    let both : List (List ℕ) = with_name one b in
    let there : stands_in one a ≡ true = stands_in-added names a in
    let first : number_in both a ≡ number_in names a =
    number_in-with_name one b a there ∙ number_in-added names a in (
      λ e. sym (name_at-number both a (stands_in-with_name one b a there))
          ∙ (ap (name_at both) (first ∙ (e ∙ sym (number_in-added one b)))
          ∙ name_at-number both b (stands_in-added one b)),
      λ e. sym (number_in-added names a) ∙ ap (number_in one) e,
    )

pub number_later : (names : List (List ℕ)) (name other : List ℕ) →
    number_in (with_name (with_name names name) other) name ≡ number_in names name
number_later names name other =
    number_in-with_name (with_name names name) other name (stands_in-added names name)
    ∙ number_in-added names name

pub stands_in-both : (names : List (List ℕ)) (name other : List ℕ) →
    stands_in (with_name (with_name names name) other) name ≡ true
stands_in-both names name other =
    stands_in-with_name (with_name names name) other name (stands_in-added names name)

pub added_again : (names : List (List ℕ)) (name other : List ℕ) →
    with_name (with_name (with_name names name) other) name
    ≡ with_name (with_name names name) other
added_again names name other =
    with_name-stands (with_name (with_name names name) other) name (stands_in-both names name other)

-- for a number that is asked for twice
pub ruleset stays = (number_later, stands_in-both, added_again, eq-eqb)

-- for the name with the number of a name
pub ruleset at_number = (name_at-added, bytes_eq-refl)

-- a name at the end gets the next number
pub numbered : (names : List (List ℕ)) (name : List ℕ) → IsNumbered names →
    stands_in names name ≡ false → IsNumbered (names ++ name ∷ [])
numbered names name all new number h =
    grind (
      arith,
      all number,
      length-append names (name ∷ []),
      get_or_append_left names (name ∷ []) [] number,
      stands names number,
      number_in-append names (name ∷ []) (name_at names number),
      get_or_push names name [] (length names) refl,
      number_in-last names name,
      number_next names name,
    )

-- a text that is not the last stands among the names as before
others_stand : (names : List (List ℕ)) (name other : List ℕ) → bytes_eq name other ≡ false →
    stands_in (names ++ name ∷ []) other ≡ stands_in names other
unfolding stands_in
others_stand [] name other e = rw e refl
others_stand (n ∷ ns) name other e = rw (others_stand ns name other e) refl

-- what is kept for the number of a name, where the name stands among names
module _ {A : Type 0} (kept : ℕ → A) where
  abbrev kept_where : List (List ℕ) → List ℕ → Option A
  kept_where names name =
      if stands_in names name then Some (kept (number_in names name)) else None

  pub others_where : (names : List (List ℕ)) (name other : List ℕ) → bytes_eq name other ≡ false →
      kept_where (names ++ name ∷ []) other ≡ kept_where names other
  others_where names name other e =
      grind (arith, others_stand names name other e, number_in-append names (name ∷ []) other)

  pub added_where : (names : List (List ℕ)) (name other : List ℕ) (b : Bool) →
      stands_in names name ≡ false → bytes_eq name other ≡ b →
      (if b then Some (kept (length names)) else kept_where names other)
      ≡ kept_where (names ++ name ∷ []) other
  added_where names name other true new e =
      let is : name ≡ other = (bytes_eq-Decides name other).0 e in
      rw (sym is, stands_in-last names name, number_in-last names name, number_next names name new)
      refl
  added_where names name other false new e = sym (others_where names name other e)

-- a name that is equal to the one with a number has that number
pub guessed : (names : List (List ℕ)) (name kept : List ℕ) (number : ℕ) → IsNumbered names →
    kept ≡ name_at names number → number < length names → bytes_eq kept name ≡ true →
    Some number ≡ number_where names name
guessed names name kept number all at within e =
    let named : name_at names number ≡ name = sym at ∙ (bytes_eq-Decides kept name).0 e in
    rw (sym named, stands names number within) (ap Some (sym (all number within)))

pub found_where : (names : List (List ℕ)) (name : List ℕ) (number : ℕ) →
    Some number ≡ number_where names name → (number ≡ number_in names name)
    × (number < length names) × (with_name names name ≡ names) × (name_at names number ≡ name)
unfolding with_name
found_where names name number e =
    grind (arith, number_below names name, name_at-number names name)

-- a name that is found, and one that is not
pub finds : {E : Type 0} → (names : List (List ℕ)) (name : List ℕ) (number : ℕ) →
    Some number ≡ number_where names name →
    Numbers {E = E} (Ok number) names names name names names (with_name names name)
finds names name number there =
    let grown = found_where names name number there in
    record { number = grown.0; below = grown.1; names = sym grown.2; absent = tt; kept = tt }

pub adds : {E : Type 0} → (names after : List (List ℕ)) (name : List ℕ) (number : ℕ) →
    after ≡ names ++ name ∷ [] → number ≡ length names → stands_in names name ≡ false →
    Numbers {E = E} (Ok number) names after name names after (with_name names name)
adds names after name number added counted new =
    record {
      number = counted ∙ sym (number_next names name new);
      below = rw (added, length-append names (name ∷ [])) (omega (arith, counted));
      names = added ∙ sym (with_name-new names name new);
      absent = tt;
      kept = tt;
    }
