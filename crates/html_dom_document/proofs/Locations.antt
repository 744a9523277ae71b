-- One more place in a map of positions, one more location in a set, and copies of both.
use Rattle.std.proofs.Common.{rules, ◌≡◌, ℕ, ◌==◌, ◌||◌, Bool, true, false, cond, if◌then◌else◌, List, [], ◌∷◌, Option, Some, None, option_map, nat_cmp, is_eq, is_some, true≢false, refl, sym, ap, ◌∙◌}
use Rattle.std.{proofs.lemmas.Grind.{common_steps}, specs.BTreeMap.{is_at}, specs.List.{list_any, AllZip}, specs.Map.{lookup}}
use Rattle.html_dom_tree.specs.{Attributes.{or_else}, declared.introspection.Location.{Location}}
use Rattle.html_dom_document.specs.{Introspectors.{position_view, location_cmp}, Places.{is_among}, Records.{locations_view}}
use Rattle.html_dom_document.specs.declared.position.HtmlPosition.{HtmlPosition}

pub is_eq-nat_cmp : (m n : ℕ) → is_eq (nat_cmp m n) ≡ (m == n)
is_eq-nat_cmp m n = search (rules, common_steps)

-- of a map with a position that was not there
pub position_added : (old : Option HtmlPosition) (same : Bool) (p : HtmlPosition) →
    (same ≡ true → is_some old ≡ false) →
    option_map position_view (cond same (Some p) old)
    ≡ or_else (option_map position_view old) (if same then Some (position_view p) else None)
position_added None true p absent = refl
position_added None false p absent = refl
position_added (Some x) true p absent = absurd (true≢false (absent refl))
position_added (Some x) false p absent = refl

equal_both : (m n : ℕ) → (m == n) ≡ (n == m)
equal_both m n = search (rules, common_steps)

-- whether a location is in a list of keys, asked either way
pub among_keys : (keys : List Location) (k : ℕ) →
    is_among (locations_view keys) k ≡ list_any (is_at (location_cmp (record { 0 = k }))) keys
among_keys [] k = refl
among_keys (x ∷ xs) k =
    ap (λ b. b || is_among (locations_view xs) k) (equal_both x.0 k ∙ sym (is_eq-nat_cmp k x.0))
    ∙ ap (λ b. is_eq (nat_cmp k x.0) || b) (among_keys xs k)

pub set_or : (is before : Bool) → cond is true before ≡ (before || is)
set_or true true = refl
set_or true false = refl
set_or false true = refl
set_or false false = refl

-- maps whose entries look alike answer alike
pub same_looked_up : {X V : Type 0} (view : X → V)
    (IsCopy : Location → Location → Type 0) (IsCopyOf : X → X → Type 0) →
    ((p q : Location) → IsCopy p q → q ≡ p) → ((x y : X) → IsCopyOf x y → view y ≡ view x) →
    (test : Location → Bool) (xs ys : List (Location × X)) →
    AllZip (λ p q. IsCopy p.0 q.0 × IsCopyOf p.1 q.1) xs ys →
    option_map view (lookup test ys) ≡ option_map view (lookup test xs)
same_looked_up view A B keys values test [] [] copies = refl
same_looked_up view A B keys values test [] (y ∷ ys) copies = absurd copies
same_looked_up view A B keys values test (x ∷ xs) [] copies = absurd copies
same_looked_up {X} {V} view A B keys values test (x ∷ xs) (y ∷ ys) copies =
    rw (keys x.0 y.0 copies.0.0)
    (by x.1 y.1 (lookup test xs) (lookup test ys) (test x.0) (values x.1 y.1 copies.0.1)
    (same_looked_up view A B keys values test xs ys copies.1))
  where
    by : (p q : X) (old new : Option X) (b : Bool) →
        view q ≡ view p → option_map view new ≡ option_map view old →
        option_map view (cond b (Some q) new) ≡ option_map view (cond b (Some p) old)
    by p q old new true same rest = ap Some same
    by p q old new false same rest = rest
