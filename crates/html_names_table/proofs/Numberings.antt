-- The numbers of names by place and by text, against the list of the names.
use Rattle.std.proofs.Common.{◌≡◌, ℕ, ◌+◌, ◌<◌, true, false, List, [], ◌∷◌, ◌++◌, refl, sym, ap, ◌∙◌, ◌≤◌, chars, length, get_or, map, take, arith, bytes_eq, Option, None, Some, Result, Ok, Err, OnOk}
use Rattle.std.proofs.lemmas.{Bool.{false≢true}, List.{get_or-map, get_or_past, length-map, length-take-le, map_more, take-map}}
use Rattle.std.specs.{BTreeMap.{get_by_text}, Prelude.{is_some}, Str.{IsUtf8}, declared.alloc.AllocError.{AllocError}}
use Rattle.html_names_table.proofs.NameTables.{added_where, guessed, numbered}
use Rattle.html_names_table.proofs.OwnNumbers.{own_fresh, own_beside, own_next, not_before, other_slot}
use Rattle.html_names_table.specs.NameTables.{name_at, number_where, IsNumbered}
use Rattle.html_names_table.specs.Numberings.{known_number, PutsKnown, IsKnownNumbering, IsNumbering}
use Rattle.html_names_table.specs.OwnNumbers.{slot_number, HoldsNoText, PutsText, IsOwnNumbering}
use Rattle.html_names_table.specs.declared.name_table.own_numbers.OwnNumbers.{OwnNumbers}
use Rattle.html_names_core.proofs.{Ascending.{stands, differs}, Basics.{bytes_eq-sym}, Lists.{bytes_eq-chars}, Same.{places}}
use Rattle.html_names_core.specs.{Held.{IsLookup}, Names.{stands_in, rises, IsPlace}}

known_at : (table : List (List ℕ)) (name : List ℕ) (place : ℕ) → IsPlace table name place →
    stands_in table name ≡ true
known_at table name place at = rw (sym at.1) (stands table place at.0)

-- a name that has a place in a table stands there
pub known_by : (table : List (List ℕ)) (name : List ℕ) (place : Option ℕ) →
    IsLookup table name place → is_some place ≡ true → stands_in table name ≡ true
known_by table name (Some n) at there = known_at table name n at
known_by table name None at there = absurd (false≢true there)

pub fresh : (table : List (List ℕ)) (own : OwnNumbers) → HoldsNoText own →
    IsNumbering table [] own []
unfolding stands_in
fresh table own none = (
  λ number h. absurd (omega arith),
  λ place h. get_or_past [] place None (omega arith),
  own_fresh table own none,
)

-- a new name goes to the end of the list, and gets the next number
module _ (table names : List (List ℕ)) (name : List ℕ) (absent : stands_in names name ≡ false)
    (number : ℕ) (counted : number ≡ length names) where
  pub next_known : rises table ≡ true → (result : Result (Unit {0}) AllocError)
      (old new : List (Option ℕ)) (own : OwnNumbers) (place : ℕ) → IsPlace table name place →
      IsNumbering table old own names → PutsKnown result old new place number →
      OnOk result (IsNumbering table new own (names ++ name ∷ []))
  next_known up (Err e) old new own place at was put = tt
  next_known up (Ok v) old new own place at was put = (
    numbered names name was.0 absent,
    λ other l. put.placed other
        ∙ rw (counted, places table up place other at.0 l, at.1, was.1 other l)
        (added_where (λ n. n) names name (get_or table other []) _ absent refl),
    own_beside table names name own (known_at table name place at) was.2,
  )

  pub next_own : (result : Result (Unit {0}) AllocError) (known : List (Option ℕ))
      (old new : OwnNumbers) (text : List ℕ) → IsUtf8 text → chars text ≡ name →
      stands_in table name ≡ false → IsNumbered names → IsKnownNumbering table known names →
      IsOwnNumbering table old names → PutsText result old new text number →
      OnOk result (IsNumbering table known new (names ++ name ∷ []))
  next_own (Err e) known old new text u is unknown all was own put = tt
  next_own (Ok v) known old new text u is unknown all was own put = (
    numbered names name all absent,
    λ other l.
        let one : List ℕ = get_or table other [] in
        was other l ∙ added_where (λ n. n) names name one false absent
        (bytes_eq-sym name one ∙ differs table one name (stands table other l) unknown),
    rw (sym is)
        (own_next table names old new text number counted u own (rw is absent) put.placed),
  )

-- a known name is looked up by its place
pub known_where : (table : List (List ℕ)) (known : List (Option ℕ)) (now names : List (List ℕ)) →
    now ≡ names → IsKnownNumbering table known now → (name : List ℕ) (place : ℕ) →
    IsPlace table name place → known_number known place ≡ number_where names name
known_where table known now names same was name place at =
    was place at.0 ∙ rw (at.1, same) refl

-- a name that is not known is looked up by its text, where `shown` gives the texts of the names
module _ {N : Type 0} (shown : N → List ℕ) (table : List (List ℕ)) (known : List (Option ℕ))
    (own : OwnNumbers) (kept : List N) (names : List (List ℕ)) (same : map shown kept ≡ names)
    (was : IsNumbering table known own (map shown kept)) (text : List ℕ) (u : IsUtf8 text)
    (unknown : stands_in table (chars text) ≡ false) (number len : ℕ)
    (at : number ≡ slot_number own text) (counted : len ≡ length kept) where
  abbrev now : List (List ℕ)
  now = map shown kept

  long : length now ≡ length kept
  long = length-map kept shown

  pub found_past : len ≤ number → get_by_text own.rest text ≡ number_where names (chars text)
  found_past past =
      rw (sym same) (other_slot table own now text was.2 u unknown
      (λ below. absurd (omega (arith, at, counted, past, long, below))))

  module _ (name : N) (bytes : List ℕ) (below : number < len)
      (read : name ≡ get_or kept number name) (is : chars bytes ≡ shown name)
      (v : IsUtf8 bytes) where
    item : shown name ≡ name_at now number
    item =
        ap shown read
        ∙ sym (get_or-map shown kept number name [] (omega (arith, below, counted)))

    alike : bytes_eq (shown name) (chars text) ≡ bytes_eq bytes text
    alike = rw (sym is) (bytes_eq-chars bytes text v u)

    pub found_here : bytes_eq bytes text ≡ true → Some number ≡ number_where names (chars text)
    found_here e =
        rw (sym same) (guessed now (chars text) (shown name) number was.0 item
        (omega (arith, below, counted, long)) (alike ∙ e))

    pub found_in_rest : bytes_eq bytes text ≡ false →
        get_by_text own.rest text ≡ number_where names (chars text)
    found_in_rest e =
        let other : bytes_eq (name_at now (slot_number own text)) (chars text) ≡ false =
        rw (sym at, sym item) (alike ∙ e) in
        rw (sym same) (other_slot table own now text was.2 u unknown (λ below. other))

-- the numbers of the names with lower numbers, and one more name
module _ {N : Type 0} (shown : N → List ℕ) (table : List (List ℕ)) (kept : List N)
    (all : IsNumbered (map shown kept)) (number : ℕ) (below : number < length kept)
    (wider : OwnNumbers) (was : IsOwnNumbering table wider (map shown (take number kept)))
    (name : N) (at : name ≡ get_or kept number name) where
  abbrev before : List (List ℕ)
  before = map shown (take number kept)

  one_more : map shown (take (number + 1) kept) ≡ before ++ shown name ∷ []
  one_more =
      map_more shown kept number name below ∙ ap (λ n. before ++ shown n ∷ []) (sym at)

  pub widened_known : stands_in table (shown name) ≡ true →
      IsOwnNumbering table wider (map shown (take (number + 1) kept))
  widened_known known = rw one_more (own_beside table before (shown name) wider known was)

  pub widened_own : (new : OwnNumbers) (text : List ℕ) → IsUtf8 text → chars text ≡ shown name →
      PutsText (Ok tt) wider new text number →
      IsOwnNumbering table new (map shown (take (number + 1) kept))
  widened_own new text u is put =
      let item : name_at (map shown kept) number ≡ shown name =
      get_or-map shown kept number name [] below ∙ ap shown (sym at) in
      let within : number < length (map shown kept) = omega (arith, length-map kept shown, below) in
      let absent : stands_in before (chars text) ≡ false =
      rw (is, sym item, sym (take-map shown number kept))
      (not_before (map shown kept) number all within) in
      let counted : number ≡ length before =
      sym (length-map (take number kept) shown ∙ length-take-le number kept (omega arith)) in
      rw (one_more, sym is)
      (own_next table before wider new text number counted u was absent put.placed)
