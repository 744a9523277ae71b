-- The numbers of names that are not known, against the list of the names.
use Rattle.std.proofs.Common.{◌≡◌, ℕ, ◌<◌, ◌≤◌, ◌⊎◌, inl, inr, Bool, true, false, List, [], ◌∷◌, ◌++◌, refl, sym, ap, ◌∙◌, chars, length, get_or, take, drop, set, arith, bytes_eq, Some, string_bytes}
use Rattle.std.proofs.lemmas.Bool.{false≢true}
use Rattle.std.proofs.lemmas.List.{take-append-drop, length-take-le, length-set, get_or_default, get_or-set_same, get_or-set_other}
use Rattle.std.proofs.lemmas.{Bool.Decides.{eqb_tells}, Map.Text.{btree_map_updates_text}, Slice.Eq.{bytes_eq-Decides}}
use Rattle.std.specs.{BTreeMap.{get_by_text, UpdatesBy}, Ordering.{nat_cmp}, Str.{IsUtf8}, String.{string_cmp}}
use Rattle.std.specs.Cmp.Lexicographic.{slice_cmp}
use Rattle.html_names_table.proofs.NameTables.{added_where, found_where, number_below, number_in-append, others_where}
use Rattle.html_names_table.specs.NameTables.{number_where, name_at, IsNumbered}
use Rattle.html_names_table.specs.OwnNumbers.{slot_of, slot_number, HoldsNoText, TakesSlot, JoinsRest, IsFound, IsOwnNumbering}
use Rattle.html_names_table.specs.declared.name_table.own_numbers.OwnNumbers.{OwnNumbers}
use Rattle.html_names_core.proofs.{Ascending.{differs}, Basics.{bytes_eq-refl}, Lists.{bytes_eq-chars}}
use Rattle.html_names_core.specs.Names.{stands_in}

pub own_fresh : (table : List (List ℕ)) (own : OwnNumbers) → HoldsNoText own →
    IsOwnNumbering table own []
unfolding stands_in
own_fresh table own none = record { found = λ text u new. inr (none text) }

-- the slot of any text, where a slot has been set
read_after : (old new : List ℕ) (slot number : ℕ) (other : List ℕ) → new ≡ set old slot number →
    get_or new (slot_of other (length new)) 0
    ≡ get_or (set old slot number) (slot_of other (length old)) 0
read_after old new slot number other e =
    ap (λ slots. get_or slots (slot_of other (length slots)) 0) e
    ∙ ap (λ n. get_or (set old slot number) (slot_of other n) 0) (length-set old slot number)

-- a text gets its slot
module _ (old new : OwnNumbers) (text : List ℕ) (number slot item : ℕ)
    (at : slot ≡ slot_of text (length old.slots.items)) (below : slot < length old.slots.items)
    (put : new.slots.items ≡ set old.slots.items slot number)
    (same_rest : (other : List ℕ) → get_by_text new.rest other ≡ get_by_text old.rest other)
    (read : item ≡ get_or old.slots.items slot item) (free : number ≤ item) where
  abbrev slots : List ℕ
  slots = old.slots.items

  was : slot_number old text ≡ item
  was = ap (λ n. get_or slots n 0) (sym at)
      ∙ (get_or_default slots slot 0 item below ∙ sym read)

  now : slot_number new text ≡ number
  now = read_after slots new.slots.items slot number text put
      ∙ (ap (λ n. get_or (set slots slot number) n 0) (sym at)
      ∙ get_or-set_same slots slot number 0 below)

  pub takes : TakesSlot old new text number
  takes = record {
    free = omega (arith, was, free);
    taken = now;
    others = λ other. elim (eqb_tells (slot_of other (length slots)) slot) [
      | inl alike ↦ inr (ap (λ n. get_or slots n 0) (alike.1 ∙ at))
      | inr apart ↦ inl (read_after slots new.slots.items slot number other put
          ∙ get_or-set_other slots slot (slot_of other (length slots)) number 0 apart.1)
    ];
    rest = same_rest;
  }

-- a text goes to the map
pub joins : (old new : OwnNumbers) (text key : List ℕ) (number : ℕ) → key ≡ text →
    new.slots.items ≡ old.slots.items →
    UpdatesBy string_cmp (λ k. slice_cmp nat_cmp key (string_bytes k)) old.rest new.rest
    (Some number) →
    JoinsRest old new text number
joins old new text key number copied same_slots updates = record {
  slots = λ other. ap (λ slots. get_or slots (slot_of other (length slots)) 0) same_slots;
  rest = λ other. rw (sym copied)
      (btree_map_updates_text key old.rest new.rest (Some number) updates other);
}

-- a text that is not known is in the map, where its slot has the number of another name or of none
pub other_slot : (table : List (List ℕ)) (own : OwnNumbers) (names : List (List ℕ))
    (text : List ℕ) → IsOwnNumbering table own names → IsUtf8 text →
    stands_in table (chars text) ≡ false → (slot_number own text < length names →
    bytes_eq (name_at names (slot_number own text)) (chars text) ≡ false) →
    get_by_text own.rest text ≡ number_where names (chars text)
other_slot table own names text was u new differ =
    let slot : ℕ = slot_number own text in
    elim (was.found text u new) [
      | inl at ↦
          let found = found_where names (chars text) slot at in
          absurd (false≢true (sym (differ found.1)
          ∙ (bytes_eq-Decides (name_at names slot) (chars text)).1 found.3))
      | inr at ↦ at
    ]

-- the number of a text stays when the names change
moved : (own : OwnNumbers) (names after : List (List ℕ)) (text : List ℕ) →
    number_where after (chars text) ≡ number_where names (chars text) → IsFound own names text →
    IsFound own after text
moved own names after text same (inl at) = inl (at ∙ sym same)
moved own names after text same (inr at) = inr (at ∙ sym same)

-- a known name goes to the end of the list
pub own_beside : (table names : List (List ℕ)) (name : List ℕ) (own : OwnNumbers) →
    stands_in table name ≡ true → IsOwnNumbering table own names →
    IsOwnNumbering table own (names ++ name ∷ [])
own_beside table names name own known was = record {
  found = λ text u new.
      let differ : bytes_eq name (chars text) ≡ false = differs table name (chars text) known new in
      moved own names (names ++ name ∷ []) text
      (others_where (λ n. n) names name (chars text) differ) (was.found text u new);
}

-- a text that is not known goes to the end of the list
module _ (table names : List (List ℕ)) (old new : OwnNumbers) (text : List ℕ) (number : ℕ)
    (counted : number ≡ length names) (u : IsUtf8 text) (was : IsOwnNumbering table old names)
    (absent : stands_in names (chars text) ≡ false) where
  abbrev after : List (List ℕ)
  after = names ++ chars text ∷ []

  there : Some (length names) ≡ number_where after (chars text)
  there =
      added_where (λ n. n) names (chars text) (chars text) true absent (bytes_eq-refl (chars text))

  placed_found : TakesSlot old new text number ⊎ JoinsRest old new text number →
      IsFound new after text
  placed_found (inl p) = inl (ap Some (p.taken ∙ counted) ∙ there)
  placed_found (inr p) = inr (p.rest text ∙ rw (bytes_eq-refl text, counted) there)

  kept_found : TakesSlot old new text number ⊎ JoinsRest old new text number → (other : List ℕ) →
      bytes_eq text other ≡ false → IsFound old names other → IsFound new names other
  kept_found (inl p) other differ (inl at) =
      elim (p.others other) [
        | inl e ↦ inl (ap Some e ∙ at)
        | inr e ↦ absurd (omega (
          arith,
          p.free,
          e,
          counted,
          (found_where names (chars other) (slot_number old other) at).1,
        ))
      ]
  kept_found (inl p) other differ (inr at) = inr (p.rest other ∙ at)
  kept_found (inr p) other differ (inl at) = inl (ap Some (p.slots other) ∙ at)
  kept_found (inr p) other differ (inr at) = inr (p.rest other ∙ rw differ at)

  found_by : TakesSlot old new text number ⊎ JoinsRest old new text number → (other : List ℕ)
      (b : Bool) → IsUtf8 other → stands_in table (chars other) ≡ false →
      bytes_eq text other ≡ b → IsFound new after other
  found_by placed other true v h e =
      let is : text ≡ other = (bytes_eq-Decides text other).0 e in
      rw (sym is) (placed_found placed)
  found_by placed other false v h e =
      let differ : bytes_eq (chars text) (chars other) ≡ false =
      bytes_eq-chars text other u v ∙ e in
      moved new names after other (others_where (λ n. n) names (chars text) (chars other) differ)
      (kept_found placed other e (was.found other v h))

  pub own_next : TakesSlot old new text number ⊎ JoinsRest old new text number →
      IsOwnNumbering table new after
  own_next placed = record { found = λ other v h. found_by placed other _ v h refl }

-- a name does not stand among those with lower numbers
pub not_before : (names : List (List ℕ)) (n : ℕ) → IsNumbered names → n < length names →
    stands_in (take n names) (name_at names n) ≡ false
not_before names n all below =
    grind (
      arith,
      all n below,
      number_below (take n names) (name_at names n),
      number_in-append (take n names) (drop n names) (name_at names n),
      take-append-drop n names,
      length-take-le n names,
    )
