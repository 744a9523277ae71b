-- The list of active formatting elements where its entries are those of open elements, in their
-- order.
use Rattle.std.proofs.Common.{◌≡◌, ◌≤◌, ◌⊎◌, ◌==◌, ℕ, zero, suc, Bool, true, false, not, ◌&&◌, List, [], ◌∷◌, length, inl, inr, refl, sym, ap, subst, ◌∙◌, arith, Some, None}
use Rattle.std.proofs.lemmas.{Bool.{and_from, and_left, and_parts, both_ways, eq-eqb, eqb-true, false_from_ne_true, ne_eqb, not-false, or_from, or_left, or_parts, or_right}, Slice.Eq.{bytes_eq-Decides}}
use Rattle.std.specs.Prelude.{if◌then◌else◌}
use Rattle.html_page_names.specs.PageNames.{is, of}
use Rattle.html_page_names.specs.declared.kind.Kind.TheVariants as kind
use Rattle.html_page_stack.specs.Formats.{Format, Formats, after_current, before_marker, ends_closed, entered, entry_of, has_entry, is_alike, is_entry_of, is_last, is_listed, is_named, is_open, last_entry, without_entry}
use Rattle.html_page_stack.specs.OpenElements.{OpenElement, is_of, is_opened, reaches, with_last_text, with_text}
use Rattle.typst_html_nesting_laws.proofs.Branches.{decide, either, pick, second_false, skip}

-- what stands on the list for an open element, behind the entries of those around it: a marker, an
-- entry, or nothing. A formatting element has no entry if it was dropped for later ones that are alike
pub data Layer (marker formatting : Bool) (its : Format → Bool) (Rest : Formats → Type 0)
    (fs : Formats) : Type 0 where
  marked : (gs : Formats) → marker ≡ true → fs ≡ None ∷ gs → Rest gs →
      Layer marker formatting its Rest fs
  listed : (f : Format) (gs : Formats) → marker ≡ false → formatting ≡ true → its f ≡ true →
      fs ≡ Some f ∷ gs → Rest gs → Layer marker formatting its Rest fs
  passed : marker ≡ false → Rest fs → Layer marker formatting its Rest fs

abbrev pub IsInOrder : List OpenElement → Formats → Type 0
IsInOrder [] fs = fs ≡ []
IsInOrder (o ∷ os) fs = Layer (is_of (of kind.Marker) o) (is_of (of kind.Formatting) o)
    (is_entry_of o (length os)) (IsInOrder os) fs

-- no entry is that of an element within these
module _ (x : OpenElement) (i : ℕ) where
  other_index : (f : Format) (o : OpenElement) (os : List OpenElement) →
      is_entry_of o (length os) f ≡ true → length (o ∷ os) ≤ i → is_entry_of x i f ≡ false
  other_index f o os its h =
      let at_index = eqb-true f.index (length os)
      (and_parts (f.index == length os) (is_opened f.name f.span o) its).0 in
      and_left (f.index == i) _ (ne_eqb f.index i (λ e. omega (arith, at_index, e, h)))

  pub unlisted : (os : List OpenElement) (fs : Formats) → IsInOrder os fs → length os ≤ i →
      has_entry (is_entry_of x i) fs ≡ false
  unlisted [] fs e h = rw e refl
  unlisted (o ∷ os) fs (marked gs m e rest) h = rw e (unlisted os gs rest (omega (arith, h)))
  unlisted (o ∷ os) fs (listed f gs m k its e rest) h = rw e
      (or_from _ _ (other_index f o os its h) (unlisted os gs rest (omega (arith, h))))
  unlisted (o ∷ os) fs (passed m rest) h = unlisted os fs rest (omega (arith, h))

  kept : (os : List OpenElement) (fs : Formats) → IsInOrder os fs → length os ≤ i →
      without_entry (is_entry_of x i) 0 fs ≡ fs
  kept [] fs e h = rw e refl
  kept (o ∷ os) fs (marked gs m e rest) h = rw e refl
  kept (o ∷ os) fs (listed f gs m k its e rest) h = rw e (skip _ (other_index f o os its h)
      (ap (λ l. Some f ∷ l) (kept os gs rest (omega (arith, h)))))
  kept (o ∷ os) fs (passed m rest) h = kept os fs rest (omega (arith, h))

-- the element of the last entry is open
open_still : (fs : Formats) (o : OpenElement) (os : List OpenElement) →
    ends_closed os fs ≡ false → ends_closed (o ∷ os) fs ≡ false
open_still [] o os h = refl
open_still (None ∷ fs) o os h = refl
open_still (Some f ∷ fs) o os h =
    ap not (or_right (is_entry_of o (length os) f) _ (not-false (is_open f os) h))

pub none_closed : (os : List OpenElement) (fs : Formats) → IsInOrder os fs →
    ends_closed os fs ≡ false
none_closed [] fs e = rw e refl
none_closed (o ∷ os) fs (marked gs m e rest) = rw e refl
none_closed (o ∷ os) fs (listed f gs m k its e rest) =
    rw e (ap not (or_left (is_entry_of o (length os) f) _ its))
none_closed (o ∷ os) fs (passed m rest) = open_still fs o os (none_closed os fs rest)

-- an entry is dropped

dropped : (test : Format → Bool) (n : ℕ) (os : List OpenElement) (fs : Formats) →
    IsInOrder os fs → IsInOrder os (without_entry test n fs)
dropped test n [] fs e = rw e refl
dropped test n (o ∷ os) fs (marked gs m e rest) = marked gs m (ap (without_entry test n) e) rest
dropped test zero (o ∷ os) fs (listed f gs m k its e rest) = decide (test f)
    (λ t. passed m
    (subst (IsInOrder os) (sym (ap (without_entry test zero) e ∙ pick _ t refl)) rest))
    (λ t. listed f (without_entry test zero gs) m k its
    (ap (without_entry test zero) e ∙ skip _ t refl) (dropped test zero os gs rest))
dropped test (suc n) (o ∷ os) fs (listed f gs m k its e rest) =
    listed f (without_entry test (if test f then n else suc n) gs) m k its
    (ap (without_entry test (suc n)) e) (dropped test _ os gs rest)
dropped test n (o ∷ os) fs (passed m rest) = passed m (dropped test n os fs rest)

-- an element is opened

is_its_entry : (o : OpenElement) (i : ℕ) → is_of (of kind.Formatting) o ≡ true →
    is_entry_of o i (entry_of o i) ≡ true
is_its_entry o i h = and_from (i == i) _ (eq-eqb i i refl)
    (and_from (is_of (is o.head.name) o) _
    (and_from _ _ (and_parts _ _ h).0 ((bytes_eq-Decides o.head.name o.head.name).1 refl))
    (eq-eqb o.head.span o.head.span refl))

pub order_opened : (o : OpenElement) (os : List OpenElement) (fs : Formats) → IsInOrder os fs →
    IsInOrder (o ∷ os) (entered o (length os) fs)
order_opened o os fs h = decide (is_of (of kind.Marker) o) (λ m. marked fs m (pick _ m refl) h)
    (λ m. decide (is_of (of kind.Formatting) o)
    (λ k. listed (entry_of o (length os)) (without_entry (is_alike o) 2 fs) m k
    (is_its_entry o (length os) k) (skip _ m (pick _ k refl)) (dropped (is_alike o) 2 os fs h))
    (λ k. passed m (subst (IsInOrder os) (sym (skip _ m (skip _ k refl))) h)))

-- the current node is closed by its own end tag

pub order_closed : (o : OpenElement) (os : List OpenElement) (fs : Formats) →
    IsInOrder (o ∷ os) fs → IsInOrder os (after_current true (o ∷ os) fs)
order_closed o os fs (marked gs m e rest) =
    subst (IsInOrder os) (sym (pick _ (and_from _ _ m refl) (ap before_marker e))) rest
order_closed o os fs (listed f gs m k its e rest) =
    subst (IsInOrder os) (sym (skip _ (and_left _ _ m)
    (pick _ (and_from _ _ k refl) (ap (without_entry (is_entry_of o (length os)) 0) e
    ∙ pick _ its refl)))) rest
order_closed o os fs (passed m rest) = subst (IsInOrder os) (sym (skip _ (and_left _ _ m)
    (either (is_of (of kind.Formatting) o && true)
    (λ k. kept o (length os) os fs rest (omega arith)) (λ k. refl)))) rest

-- its entry is the last, if it has one
pub unlisted_or_last : (o : OpenElement) (os : List OpenElement) (fs : Formats) →
    IsInOrder (o ∷ os) fs → (is_listed (o ∷ os) fs ≡ false) ⊎ (is_last (o ∷ os) fs ≡ true)
unlisted_or_last o os fs (marked gs m e rest) =
    inl (rw e (unlisted o (length os) os gs rest (omega arith)))
unlisted_or_last o os fs (listed f gs m k its e rest) = inr (rw e its)
unlisted_or_last o os fs (passed m rest) = inl (unlisted o (length os) os fs rest (omega arith))

-- texts change nothing of that

pub order_with_text : (text : List ℕ) (os : List OpenElement) (fs : Formats) → IsInOrder os fs →
    IsInOrder (with_last_text text os) fs
order_with_text text [] fs h = h
order_with_text [] (o ∷ os) fs h = h
order_with_text (c ∷ cs) (o ∷ os) fs h = h

pub order_without_text : (text : List ℕ) (o : OpenElement) (os : List OpenElement) (fs : Formats) →
    IsInOrder (with_text text o ∷ os) fs → IsInOrder (o ∷ os) fs
order_without_text [] o os fs h = h
order_without_text (c ∷ cs) o os fs h = h

pub after_text : (text : List ℕ) (o : OpenElement) (os : List OpenElement) (fs : Formats) →
    after_current true (with_text text o ∷ os) fs ≡ after_current true (o ∷ os) fs
after_text [] o os fs = refl
after_text (c ∷ cs) o os fs = refl

-- no entry has the name of which no element is open, but for those that a marker hides

other_name : (name : List ℕ) (f : Format) (o : OpenElement) (index : ℕ) →
    is_entry_of o index f ≡ true → is_of (is name) o ≡ false → is_named name f ≡ false
other_name name f o index its h = false_from_ne_true _ (λ e. both_ways _
    (ap (λ n. is_of (is n) o) ((bytes_eq-Decides f.name name).0 e) ∙ h)
    (and_parts (is_of (is f.name) o) _ (and_parts (f.index == index) _ its).1).0)

pub none_named : (name : List ℕ) (os : List OpenElement) (fs : Formats) → IsInOrder os fs →
    reaches (is_of (is name)) (is_of (of kind.Marker)) os ≡ false →
    last_entry (is_named name) fs ≡ None
none_named name [] fs e h = rw e refl
none_named name (o ∷ os) fs (marked gs m e rest) h = rw e refl
none_named name (o ∷ os) fs (listed f gs m k its e rest) h =
    let both = or_parts (is_of (is name) o) _ h in
    rw e (skip _ (other_name name f o (length os) its both.0)
    (none_named name os gs rest (second_false both.1 (ap not m))))
none_named name (o ∷ os) fs (passed m rest) h =
    none_named name os fs rest (second_false (or_parts (is_of (is name) o) _ h).1 (ap not m))
