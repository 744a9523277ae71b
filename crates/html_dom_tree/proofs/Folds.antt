-- The laws of folding attribute lists.
use Rattle.std.proofs.Common.{◌≡◌, ℕ, Bool, true, false, not, List, [], ◌∷◌, ◌++◌, bytes_eq, Option, Some, None, refl, sym, ap, ◌∙◌}
use Rattle.std.{proofs.lemmas.Bool.{and_parts, and_from, false≢true, not-true}, specs.Prelude.{if◌then◌else◌, is_some}}
use Rattle.html_dom_tree.proofs.Basics.{or_else-assoc, or_else-none}
use Rattle.html_dom_tree.specs.Attributes.{first, has_name, with_new, union, names_differ, or_else, FindsInnerFirst, IsAssociative, KeepsOnNothing, DropsRepeats}
use Rattle.html_dom_tree.specs.Tree.{TextPair}
use Rattle.html_names_core.proofs.Basics.{bytes_eq-same, bytes_eq-sym, none_from_not_some}

one_by : (is_name : Bool) (value : List ℕ) (rest other : Option (List ℕ)) →
    (if is_name then Some value else or_else rest other)
    ≡ or_else (if is_name then Some value else rest) other
one_by true value rest other = refl
one_by false value rest other = refl

pub first-append : (xs ys : List TextPair) (name : List ℕ) →
    first (xs ++ ys) name ≡ or_else (first xs name) (first ys name)
first-append [] ys name = refl
first-append (x ∷ xs) ys name =
    ap (λ rest. if bytes_eq x.0 name then Some x.1 else rest) (first-append xs ys name)
    ∙ one_by (bytes_eq x.0 name) x.1 (first xs name) (first ys name)

some_by : (value : List ℕ) (found : Option (List ℕ)) → is_some found ≡ true →
    found ≡ or_else found (Some value)
some_by value None there = absurd (false≢true there)
some_by value (Some x) there = refl

-- a name that is there keeps its value
kept_by : (is_name : Bool) (name : List ℕ) (p : TextPair) (ps : List TextPair) →
    bytes_eq p.0 name ≡ is_name → has_name ps p.0 ≡ true →
    first ps name ≡ or_else (first ps name) (if is_name then Some p.1 else None)
kept_by false name p ps is there = sym (or_else-none (first ps name))
kept_by true name p ps is there =
    some_by p.1 (first ps name)
    (ap (λ n. is_some (first ps n)) (sym (bytes_eq-same p.0 name is)) ∙ there)

first-with_new : (is_there : Bool) (ps : List TextPair) (p : TextPair) (name : List ℕ) →
    has_name ps p.0 ≡ is_there →
    first (with_new ps p) name ≡ or_else (first ps name) (first (p ∷ []) name)
first-with_new true ps p name is =
    rw is (kept_by (bytes_eq p.0 name) name p ps refl is)
first-with_new false ps p name is = rw is (first-append ps (p ∷ []) name)

pub finds_inner_first : FindsInnerFirst
finds_inner_first inner [] name = sym (or_else-none (first inner name))
finds_inner_first inner (p ∷ ps) name =
    let one = first (p ∷ []) name in
    let rest = first ps name in
    finds_inner_first (with_new inner p) ps name
    ∙ (ap (λ o. or_else o rest) (first-with_new (has_name inner p.0) inner p name refl)
    ∙ (or_else-assoc (first inner name) one rest
    ∙ ap (or_else (first inner name)) (sym (one_by (bytes_eq p.0 name) p.1 None rest))))

union-append : (a xs ys : List TextPair) → union a (xs ++ ys) ≡ union (union a xs) ys
union-append a [] ys = refl
union-append a (x ∷ xs) ys = union-append (with_new a x) xs ys

or_else-some : (a b : Option (List ℕ)) → is_some b ≡ true → is_some (or_else a b) ≡ true
or_else-some None b there = there
or_else-some (Some x) b there = refl

union-with_new : (is_there : Bool) (as' bs : List TextPair) (p : TextPair) → has_name bs p.0 ≡ is_there →
    union as' (with_new bs p) ≡ with_new (union as' bs) p
union-with_new true as' bs p is =
    let there : has_name (union as' bs) p.0 ≡ true =
    ap is_some (finds_inner_first as' bs p.0)
    ∙ or_else-some (first as' p.0) (first bs p.0) is in
    rw (is, there) refl
union-with_new false as' bs p is = rw is (union-append as' bs (p ∷ []))

pub is_associative : IsAssociative
is_associative as' bs [] = refl
is_associative as' bs (p ∷ cs) =
    ap (λ l. union l cs) (sym (union-with_new (has_name bs p.0) as' bs p refl))
    ∙ is_associative as' (with_new bs p) cs

pub keeps_on_nothing : KeepsOnNothing
keeps_on_nothing inner = refl

-- a name that is not in a list is neither its first nor in the rest
differ_by : (is_name : Bool) (q p : TextPair) (qs : List TextPair) →
    bytes_eq q.0 p.0 ≡ is_name → has_name (q ∷ qs) p.0 ≡ false →
    (bytes_eq q.0 p.0 ≡ false) × (has_name qs p.0 ≡ false)
differ_by true q p qs is absent = absurd (false≢true (sym (rw is at absent)))
differ_by false q p qs is absent = (is, rw is at absent)

differ-push : (qs : List TextPair) (p : TextPair) → names_differ qs ≡ true → has_name qs p.0 ≡ false →
    names_differ (qs ++ p ∷ []) ≡ true
differ-push [] p differ absent = refl
differ-push (q ∷ qs) p differ absent =
    let parts = and_parts (not (has_name qs q.0)) (names_differ qs) differ in
    let both = differ_by (bytes_eq q.0 p.0) q p qs refl absent in
    let other = bytes_eq-sym p.0 q.0 ∙ both.0 in
    let fresh : first (qs ++ p ∷ []) q.0 ≡ None =
    first-append qs (p ∷ []) q.0 ∙ rw (none_from_not_some (first qs q.0) (not-true _ parts.0), other) refl in
    and_from (not (has_name (qs ++ p ∷ []) q.0)) (names_differ (qs ++ p ∷ []))
    (ap (λ o. not (is_some o)) fresh) (differ-push qs p parts.1 both.1)

differ-with_new : (is_there : Bool) (ps : List TextPair) (p : TextPair) → has_name ps p.0 ≡ is_there →
    names_differ ps ≡ true → names_differ (with_new ps p) ≡ true
differ-with_new true ps p is differ = rw is differ
differ-with_new false ps p is differ = rw is (differ-push ps p differ is)

differ-union : (inner outer : List TextPair) → names_differ inner ≡ true →
    names_differ (union inner outer) ≡ true
differ-union inner [] differ = differ
differ-union inner (p ∷ ps) differ =
    differ-union (with_new inner p) ps (differ-with_new (has_name inner p.0) inner p refl differ)

pub drops_repeats : DropsRepeats
drops_repeats outer = differ-union [] outer refl
