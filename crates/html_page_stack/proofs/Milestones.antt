-- What is known at a milestone, and what follows for a search.
use Rattle.std.proofs.Common.{append_assoc, ◌≡◌, ◌<◌, ◌+◌, ◌*◌, ◌%◌, ◌^◌, ℕ, zero, suc, Bool, true, false, not, ◌&&◌, ◌==◌, inl, inr, ◌⊎◌, List, [], ◌∷◌, ◌++◌, bytes_eq, drop, get_or, length, take, Some, None, arith, refl, sym, ap, ◌∙◌, subst}
use Rattle.std.proofs.Math.Nat.{zero-mul}
use Rattle.std.proofs.lemmas.Bool.{and_parts, cases_Bool, false≢true, or_left, or_parts, or_right, true≢false}
use Rattle.std.proofs.lemmas.{List.{append-nil, take-append-drop, take_more}, Nat.{pow_pos}, Nat.Bits.{and_pow, bit_at-lt, bit_at_or, bit_at-pow_same}, Slice.Eq.{bytes_eq-Decides}}
use Rattle.std.specs.Prelude.{bit_and, bit_or, if◌then◌else◌, is_some, unwrap_or}
use Rattle.std.specs.Int.{bit_at}
use Rattle.html_page_names.specs.{ForeignNames.{lowered}, PageNames.{is, of}}
use Rattle.html_page_names.specs.declared.kind.Kind.TheVariants as kind
use Rattle.html_page_stack.proofs.{Contexts.{last_known, rest_known}, NameNumbers.{lowered_number}, Stacks.{last_first}}
use Rattle.html_page_stack.specs.{Contexts.{AreKnown, context}, ElementViews.{element_of, list_of}}
use Rattle.html_page_stack.specs.Milestones.{Covers, IsOnlyNamed, element_bit, known_around, milestone, name_number, names}
use Rattle.html_page_stack.specs.PageViews.{bound_test}
use Rattle.html_page_stack.specs.OpenElements.{OpenElement, bounds, in_scope, is_foreign, is_foreign_bound, is_foreign_of, is_html, is_of, reaches}
use Rattle.html_page_stack.specs.declared.{element.PageElement.{PageElement}, milestone.Milestone.{Milestone}, modes.Space.{Space}}
use Rattle.html_page_stack.specs.declared.modes.{Scope.{Scope}, Scope.TheVariants.{General, ListItem, Table}, Space.TheVariants.{Html, Svg, MathMl, Removed}}
use Rattle.html_page_stack.specs.declared.search.Bound.{Bound}
use Rattle.html_page_stack.specs.declared.search.Bound.TheVariants as bound

-- bits

clear : (n k : ℕ) → bit_and n (2 ^ k) ≡ 0 → bit_at n k ≡ 0
clear n k none = by_bit (bit_at n k) (bit_at-lt n k) (sym (and_pow n k) ∙ none) where
  by_bit : (b : ℕ) → b < 2 → b * 2 ^ k ≡ 0 → b ≡ 0
  by_bit zero h e = refl
  by_bit (suc zero) h e = omega (arith, e, pow_pos k)
  by_bit (suc (suc b)) h e = absurd (omega (arith, h))

in_neither : (a b k : ℕ) → bit_and (bit_or a b) (2 ^ k) ≡ 0 →
    (bit_and a (2 ^ k) ≡ 0) × (bit_and b (2 ^ k) ≡ 0)
in_neither a b k none =
    let both : bit_at (bit_or a b) k ≡ 0 = clear (bit_or a b) k none in
    let one : bit_at a k ≡ 0 = omega (arith, both, bit_at_or a b k) in
    let other : bit_at b k ≡ 0 = omega (arith, both, bit_at_or a b k) in (
      and_pow a k ∙ (ap (λ x. x * 2 ^ k) one ∙ zero-mul (2 ^ k)),
      and_pow b k ∙ (ap (λ x. x * 2 ^ k) other ∙ zero-mul (2 ^ k)),
    )

own_bit : (k : ℕ) → bit_and (2 ^ k) (2 ^ k) ≡ 0 → ⊥
own_bit k none = absurd (omega (arith, bit_at-pow_same k, clear (2 ^ k) k none))

-- a search for a name whose bit is not among those up to the bound

pub names_cover : (ends bound : OpenElement → Bool) →
    ((o : OpenElement) → ends o ≡ true → bound o ≡ true) → (os : List OpenElement) →
    Covers bound (names ends os) os
names_cover ends bound inside [] goal n only none = refl
names_cover ends bound inside (o ∷ os) goal n only none = elim (cases_Bool (goal o)) [
  | inl e ↦ absurd (own_bit n (ap (λ b. bit_and b (2 ^ n)) (sym (only o e)) ∙ here.0))
  | inr e ↦ elim (cases_Bool (bound o)) [
    | inl b ↦ rw (e, b) refl
    | inr b ↦ rw (e, b) (names_cover ends bound inside os goal n only
        (ap (λ t. bit_and (if t then 0 else names ends os) (2 ^ n)) (sym (no_end b)) ∙ here.1))
  ]
] where
  here : (bit_and (element_bit o) (2 ^ n) ≡ 0)
      × (bit_and (if ends o then 0 else names ends os) (2 ^ n) ≡ 0)
  here = in_neither (element_bit o) (if ends o then 0 else names ends os) n none

  no_end : bound o ≡ false → ends o ≡ false
  no_end b = elim (cases_Bool (ends o)) [
    | inl e ↦ absurd (false≢true (sym b ∙ inside o e))
    | inr e ↦ e
  ]

-- a search for fewer elements reaches none either
pub fewer_reached : (goal wider bound : OpenElement → Bool) →
    ((o : OpenElement) → goal o ≡ true → wider o ≡ true) → (os : List OpenElement) →
    reaches wider bound os ≡ false → reaches goal bound os ≡ false
fewer_reached goal wider bound inside [] none = refl
fewer_reached goal wider bound inside (o ∷ os) none = elim (cases_Bool (bound o)) [
  | inl b ↦ rw (no_goal, b) refl
  | inr b ↦ rw (no_goal, b)
      (fewer_reached goal wider bound inside os (rw b at both.1))
] where
  both : (wider o ≡ false) × ((not (bound o) && reaches wider bound os) ≡ false)
  both = or_parts (wider o) (not (bound o) && reaches wider bound os) none

  no_goal : goal o ≡ false
  no_goal = elim (cases_Bool (goal o)) [
    | inl e ↦ absurd (false≢true (sym both.0 ∙ inside o e))
    | inr e ↦ e
  ]

-- the elements up to a bound

pub near_cover : (b : Bound) (os : List OpenElement) → (b ≡ bound.Special) ⊎ (b ≡ bound.Html) →
    Covers (bound_test b) (names (is_of (of kind.Special)) os) os
near_cover b os at = names_cover (is_of (of kind.Special)) (bound_test b) (λ o e. elim at [
  | inl is ↦ rw is (or_left (is_of (of kind.Special) o) (is_foreign_bound o.space o.head.name) e)
  | inr is ↦ rw is (and_parts (is_html o.space) (of kind.Special o.head.name) e).0
]) os

pub scope_cover : (s : Scope) (os : List OpenElement) → (s ≡ General) ⊎ (s ≡ ListItem) →
    Covers (bounds s) (names (bounds General) os) os
scope_cover s os at = names_cover (bounds General) (bounds s) (λ o e. elim at [
  | inl is ↦ rw is e
  | inr is ↦ rw is (or_right (is_of (of kind.BoundsList) o) (bounds General o) e)
]) os

pub table_cover : (s : Scope) (os : List OpenElement) → s ≡ Table →
    Covers (bounds s) (names (bounds Table) os) os
table_cover s os at = names_cover (bounds Table) (bounds s) (λ o e. rw at e) os

-- goals that only elements of a name are

same_name : (a b : List ℕ) → bytes_eq a b ≡ true → a ≡ b
same_name a b e = (bytes_eq-Decides a b).0 e

-- no `li` is in the scope of list items
pub no_item : (t : List ℕ) → of kind.ListItem t ≡ true → (s : Scope) → s ≡ ListItem →
    (os : List OpenElement) → in_scope ListItem (of kind.ListItem) os ≡ false →
    in_scope s (is t) os ≡ false
no_item t item s at os none = rw at
    (fewer_reached (is_of (is t)) (is_of (of kind.ListItem)) (bounds ListItem) (λ o e.
    let both = and_parts (is_html o.space) (bytes_eq o.head.name t) e in
    rw (both.0, same_name o.head.name t both.1) item) os none)

not_html : (s : Space) → is_foreign s ≡ true → is_html s ≡ false
not_html Html e = absurd (false≢true e)
not_html Svg e = refl
not_html MathMl e = refl
not_html Removed e = refl

pub foreign_only : (t : List ℕ) → IsOnlyNamed (is_foreign_of t) t
foreign_only t root o e =
    let both = and_parts (is_foreign o.space) (bytes_eq (lowered o.head.name) t) e in
    let same : name_number o.head.name ≡ name_number t =
    sym (lowered_number o.head.name) ∙ ap name_number (same_name (lowered o.head.name) t both.1) in
    rw (not_html o.space both.0) (ap (λ n. 2 ^ n) same)

-- what a milestone knows

pub around_is : (o : OpenElement) (os : List OpenElement) (m : Milestone) →
    Some m ≡ known_around (o ∷ os) → m ≡ milestone os
around_is o os m e = by_count (length os % 64 == 0) e where
  by_count : (b : Bool) → Some m ≡ (if b then Some (milestone os) else None) → m ≡ milestone os
  by_count true e = ap (λ x. unwrap_or x m) e
  by_count false e = absurd (true≢false (ap is_some e))

pub front_known : (es fs : List PageElement) → AreKnown (es ++ fs) → AreKnown es
front_known es [] known = subst AreKnown (append-nil es) known
front_known es (f ∷ fs) known = rest_known es f (front_known (es ++ f ∷ []) fs
    (subst AreKnown (sym (append_assoc es (f ∷ []) fs)) known))

-- an element of the list knows what is around it
pub known_at : (es : List PageElement) (i : ℕ) (d : PageElement) → AreKnown es → i < length es →
    (get_or es i d).context ≡ context (element_of (get_or es i d) ∷ list_of (take i es))
known_at es i d known within =
    last_known (take i es) (get_or es i d) (subst AreKnown (take_more es i d within)
    (front_known (take (i + 1) es) (drop (i + 1) es)
    (subst AreKnown (sym (take-append-drop (i + 1) es)) known)))

pub known_before : (es : List PageElement) (i : ℕ) (d : PageElement) (m : Milestone) →
    AreKnown es → i < length es → (get_or es i d).context.milestone ≡ Some m →
    m ≡ milestone (list_of (take i es))
known_before es i d m known within is =
    around_is (element_of (get_or es i d)) (list_of (take i es)) m
    (sym is ∙ ap (λ c. c.milestone) (known_at es i d known within))

-- a search that goes past a milestone
pub reached_around : (es fs : List PageElement) (e : PageElement)
    (goal bound : OpenElement → Bool) (m : Milestone) → es ≡ fs ++ e ∷ [] → AreKnown es →
    goal (element_of e) ≡ false → bound (element_of e) ≡ false → e.context.milestone ≡ Some m →
    (m ≡ milestone (list_of fs)) × (reaches goal bound (list_of es) ≡ reaches goal bound (list_of fs))
reached_around es fs e goal bound m parts known no_goal no_bound is = (
  around_is (element_of e) (list_of fs) m
      (sym is ∙ ap (λ c. c.milestone) (last_known fs e (subst AreKnown parts known))),
  ap (λ l. reaches goal bound (list_of l)) parts
      ∙ (ap (reaches goal bound) (last_first fs e) ∙ rw (no_goal, no_bound) refl),
)
