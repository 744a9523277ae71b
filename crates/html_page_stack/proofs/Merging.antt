-- An element that gets attributes changes nothing that is known of the open elements.
use Rattle.std.proofs.Common.{◌≡◌, ◌<◌, ◌≤◌, arith, ℕ, zero, suc, Bool, List, [], ◌∷◌, ◌++◌, drop, get_or, length, map, reverse, set, take, refl, sym, ap, ◌∙◌}
use Rattle.std.{proofs.lemmas.List.{length-map, map-append, reverse-append}, specs.Prelude.{if◌then◌else◌}}
use Rattle.html_dom_tree.specs.Tree.{TextPair}
use Rattle.html_page_names.specs.PageNames.{of}
use Rattle.html_page_names.specs.declared.kind.Kind.TheVariants as kind
use Rattle.html_page_stack.specs.Contexts.{AreKnown, bare, brought_mode, context, context_of, contexts, known_part, own_mode, some_or}
use Rattle.html_page_stack.specs.{ElementViews.{element_of, list_of}, Milestones.{known_around, milestone, names}, OpenElements.{OpenElement, attr_count_at, bounds, bounds_item, is_of, reaches, with_attrs, with_attrs_at}}
use Rattle.html_page_stack.specs.declared.{context.Context.{Context}, element.PageElement.{PageElement}, modes.Scope.TheVariants.{Button, General, ListItem, Table}}

-- no fact depends on attributes

abbrev all_bare : List OpenElement → List OpenElement
all_bare = map bare

mode_bare : (os : List OpenElement) → brought_mode (all_bare os) ≡ brought_mode os
mode_bare [] = refl
mode_bare (o ∷ []) = refl
mode_bare (o ∷ p ∷ ps) = ap (some_or (own_mode o (p ∷ ps))) (mode_bare (p ∷ ps))

reaches_bare : (bound : OpenElement → Bool) → ((o : OpenElement) → bound (bare o) ≡ bound o) →
    (test : List ℕ → Bool) (os : List OpenElement) →
    reaches (is_of test) bound (all_bare os) ≡ reaches (is_of test) bound os
reaches_bare bound same test [] = refl
reaches_bare bound same test (o ∷ os) = rw (same o, reaches_bare bound same test os) refl

names_bare : (ends : OpenElement → Bool) → ((o : OpenElement) → ends (bare o) ≡ ends o) →
    (os : List OpenElement) → names ends (all_bare os) ≡ names ends os
names_bare ends same [] = refl
names_bare ends same (o ∷ os) = rw (same o, names_bare ends same os) refl

milestone_bare : (os : List OpenElement) → milestone (all_bare os) ≡ milestone os
milestone_bare os = λ i. record {
  has_select = reaches_bare (bounds General) (λ o. refl) (of kind.Select) os i;
  has_ruby = reaches_bare (bounds General) (λ o. refl) (of kind.Ruby) os i;
  has_heading = reaches_bare (bounds General) (λ o. refl) (of kind.Heading) os i;
  has_open_item = reaches_bare (bounds ListItem) (λ o. refl) (of kind.ListItem) os i;
  has_list_item = reaches_bare bounds_item (λ o. refl) (of kind.ListItem) os i;
  has_description_part = reaches_bare bounds_item (λ o. refl) (of kind.DescriptionPart) os i;
  near_names = names_bare (is_of (of kind.Special)) (λ o. refl) os i;
  scope_names = names_bare (bounds General) (λ o. refl) os i;
  table_names = names_bare (bounds Table) (λ o. refl) os i;
}

around_bare : (os : List OpenElement) → known_around (all_bare os) ≡ known_around os
around_bare [] = refl
around_bare (o ∷ os) = rw (length-map os bare, milestone_bare os) refl

context_bare : (os : List OpenElement) → context (all_bare os) ≡ context os
context_bare os = λ i. record {
  mode = mode_bare os i;
  has_paragraph = reaches_bare (bounds Button) (λ o. refl) (of kind.P) os i;
  milestone = around_bare os i;
}

contexts_bare : (os : List OpenElement) → contexts (all_bare os) ≡ contexts os
contexts_bare [] = refl
contexts_bare (o ∷ os) = λ i. context_bare (o ∷ os) i ∷ contexts_bare os i

-- what a function of an element gives for a reversed list
mapped : {A B : Type 0} (f : A → B) (xs : List A) → map f (reverse xs) ≡ reverse (map f xs)
mapped f [] = refl
mapped f (x ∷ xs) = ap (map f) (reverse-append (x ∷ []) xs)
    ∙ (map-append f (reverse xs) (x ∷ [])
    ∙ (ap (λ l. l ++ f x ∷ []) (mapped f xs) ∙ sym (reverse-append (f x ∷ []) (map f xs))))

twice : {A B C : Type 0} (f : A → B) (g : B → C) (xs : List A) →
    map g (map f xs) ≡ map (λ x. g (f x)) xs
twice f g [] = refl
twice f g (x ∷ xs) = ap (λ l. g (f x) ∷ l) (twice f g xs)

-- so much is known by the parts that are kept
known_by : List (Context × OpenElement) → Type 0
known_by parts = reverse (map (λ x. x.0) parts) ≡ contexts (reverse (map (λ x. x.1) parts))

bare_list : (es : List PageElement) →
    contexts (reverse (map (λ x. x.1) (map known_part es))) ≡ contexts (list_of es)
bare_list es = ap (λ l. contexts (reverse l))
    (twice known_part (λ x. x.1) es ∙ sym (twice element_of bare es))
    ∙ (ap contexts (sym (mapped bare (map element_of es))) ∙ contexts_bare (list_of es))

first_list : (es : List PageElement) →
    reverse (map (λ x. x.0) (map known_part es)) ≡ reverse (map context_of es)
first_list es = ap reverse (twice known_part (λ x. x.0) es)

pub known_still : (es fs : List PageElement) → map known_part fs ≡ map known_part es →
    AreKnown es → AreKnown fs
known_still es fs same known =
    sym (first_list fs)
    ∙ (ap (λ parts. reverse (map (λ x. x.0) parts)) same
    ∙ (first_list es ∙ (known ∙ (sym (bare_list es)
    ∙ (ap (λ parts. contexts (reverse (map (λ x. x.1) parts))) (sym same) ∙ bare_list fs)))))

-- the element at an index

pub count_past : (es : List OpenElement) (i : ℕ) (test : List ℕ → Bool) → length es ≤ i →
    attr_count_at i test es ≡ 0
count_past [] i test past = refl
count_past (e ∷ es) zero test past = absurd (omega arith)
count_past (e ∷ es) (suc i) test past = count_past es i test (omega arith)

pub count_here : (es : List PageElement) (i : ℕ) (e : PageElement) (test : List ℕ → Bool) →
    i < length es → e ≡ get_or es i e → attr_count_at i test (map element_of es)
    ≡ (if is_of test (element_of e) then length (element_of e).head.attrs else 0)
count_here [] i e test some is = absurd (omega arith)
count_here (f ∷ es) zero e test some is =
    ap (λ x. if is_of test (element_of x) then length (element_of x).head.attrs else 0) (sym is)
count_here (f ∷ es) (suc i) e test some is = count_here es i e test (omega arith) is

pub merged_past : (es : List OpenElement) (i : ℕ) (test : List ℕ → Bool)
    (others : List TextPair) → length es ≤ i → with_attrs_at i test others es ≡ es
merged_past [] i test others past = refl
merged_past (e ∷ es) zero test others past = absurd (omega arith)
merged_past (e ∷ es) (suc i) test others past =
    ap (λ l. e ∷ l) (merged_past es i test others (omega arith))

pub merged_here : (es : List PageElement) (i : ℕ) (d f : PageElement) (test : List ℕ → Bool)
    (others : List TextPair) → i < length es →
    element_of f ≡ (let o = element_of (get_or es i d) in
    if is_of test o then with_attrs others o else o) →
    map element_of (set es i f) ≡ with_attrs_at i test others (map element_of es)
merged_here [] i d f test others some made = absurd (omega arith)
merged_here (x ∷ es) zero d f test others some made = ap (λ o. o ∷ map element_of es) made
merged_here (x ∷ es) (suc i) d f test others some made =
    ap (λ l. element_of x ∷ l) (merged_here es i d f test others (omega arith) made)

pub known_here : (es : List PageElement) (i : ℕ) (d f : PageElement) → i < length es →
    known_part f ≡ known_part (get_or es i d) →
    map known_part (set es i f) ≡ map known_part es
known_here [] i d f some same = absurd (omega arith)
known_here (x ∷ es) zero d f some same = ap (λ k. k ∷ map known_part es) same
known_here (x ∷ es) (suc i) d f some same =
    ap (λ l. known_part x ∷ l) (known_here es i d f (omega arith) same)

-- a list that is written over another of its length
pub written : {A : Type 0} (fs es : List A) (n : ℕ) → n ≡ length es → length fs ≡ length es →
    take n (fs ++ drop (length fs) es) ≡ fs
written [] [] zero e h = refl
written [] [] (suc n) e h = refl
written [] (x ∷ es) n e h = absurd (omega (arith, h))
written (f ∷ fs) [] n e h = absurd (omega (arith, h))
written (f ∷ fs) (x ∷ es) zero e h = absurd (omega (arith, e))
written (f ∷ fs) (x ∷ es) (suc n) e h =
    ap (λ l. f ∷ l) (written fs es n (omega (arith, e)) (omega (arith, h)))

pub as_long : (es fs : List PageElement) → map known_part fs ≡ map known_part es →
    length fs ≡ length es
as_long es fs same = omega (arith, ap length same, length-map fs known_part, length-map es known_part)
