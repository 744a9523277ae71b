-- What holds of each name of a list holds of a name that stands in it: so kinds are compared.
use Rattle.std.proofs.Common.{◌≡◌, ℕ, Bool, true, false, not, ◌||◌, List, [], ◌∷◌, bytes_eq, codes, inl, inr, map, refl, ap, subst, ◌∙◌}
use Rattle.std.proofs.lemmas.Bool.{both_ways, false_from_ne_true, false≢true, not-true, or_cases}
use Rattle.html_names_core.{proofs.Basics.{bytes_eq-same}, specs.Names.{stands_in}}
use Rattle.html_names_core.specs.Kinds.{foreign_self_closing_names, is_escapable_raw, is_foreign_self_closing, is_raw, is_void, void_names}
use Rattle.html_page_nesting.specs.Contents.{is_listing}
use Rattle.typst_html_encode.specs.Reader.{drops_feed}
use Rattle.html_page_names.specs.{ForeignNames.{lowered}, PageNames.{kind_names, of}, declared.kind.Kind.{Kind}}
use Rattle.html_page_names.specs.declared.kind.Kind.TheVariants as kind
use Rattle.typst_html_nesting_laws.proofs.Branches.{second_true, of_two}

-- what is said of the names of a kind is computed where this unfolds
unfoldable pub names : Unit {0}
unfolding of stands_in is_void is_foreign_self_closing is_raw is_escapable_raw drops_feed is_listing
names = tt

-- all names of a list pass a test, or fail it
abbrev pub AllPass : (test : List ℕ → Bool) → List (List ℕ) → Type 0
AllPass test ms = map test ms ≡ map (λ m. true) ms

abbrev pub AllFail : (test : List ℕ → Bool) → List (List ℕ) → Type 0
AllFail test ms = map test ms ≡ map (λ m. false) ms

pub agree_in : {A : Type 0} (f g : List ℕ → A) (ms : List (List ℕ)) (n : List ℕ) →
    map f ms ≡ map g ms → stands_in ms n ≡ true → f n ≡ g n
unfolding stands_in
agree_in f g [] n same h = absurd (false≢true h)
agree_in f g (m ∷ ms) n same h =
    let here : f m ≡ g m = cc in
    let more : map f ms ≡ map g ms = cc in
    of_two h (λ e. subst (λ x. f x ≡ g x) (bytes_eq-same _ _ e) here) (agree_in f g ms n more)

-- the same of the names of a kind, which `unfold names in refl` compares
pub agree_of : {A : Type 0} (f g : List ℕ → A) (k : Kind) (n : List ℕ) →
    map f (kind_names k) ≡ map g (kind_names k) → of k n ≡ true → f n ≡ g n
unfolding of
agree_of f g k n same h = agree_in f g (kind_names k) n same h

pub passes_of : (test : List ℕ → Bool) (k : Kind) (n : List ℕ) → AllPass test (kind_names k) →
    of k n ≡ true → test n ≡ true
passes_of test k n all h = agree_of test (λ m. true) k n all h

pub fails_of : (test : List ℕ → Bool) (k : Kind) (n : List ℕ) → AllFail test (kind_names k) →
    of k n ≡ true → test n ≡ false
fails_of test k n none h = agree_of test (λ m. false) k n none h

-- a name that passes a test is none of a kind whose names all fail it
pub none_of : (test : List ℕ → Bool) (k : Kind) (n : List ℕ) → AllFail test (kind_names k) →
    test n ≡ true → of k n ≡ false
none_of test k n none h = false_from_ne_true _ (λ e. both_ways _ (fails_of test k n none e) h)

-- and one that fails it is none of a kind whose names all pass it
pub outside_of : (test : List ℕ → Bool) (k : Kind) (n : List ℕ) → AllPass test (kind_names k) →
    test n ≡ false → of k n ≡ false
outside_of test k n all h = false_from_ne_true _ (λ e. both_ways _ h (passes_of test k n all e))

-- kinds of the writer's names, and of the reader's

module _ (n : List ℕ) where
  pub script_or_style : of kind.ScriptOrStyle n ≡ is_raw n
  unfolding names
  script_or_style = refl

  pub escapable_same : of kind.EscapableRaw n ≡ is_escapable_raw n
  unfolding names
  escapable_same = refl

  pub raw_of : is_raw n ≡ true → of kind.Raw n ≡ true
  raw_of h = passes_of (of kind.Raw) kind.ScriptOrStyle n (unfold names in refl)
      (script_or_style ∙ h)

  pub escapable_of : is_escapable_raw n ≡ true → of kind.Raw n ≡ true
  escapable_of h = passes_of (of kind.Raw) kind.EscapableRaw n (unfold names in refl)
      (escapable_same ∙ h)

  pub not_escapable : is_raw n ≡ true → is_escapable_raw n ≡ false
  not_escapable h = fails_of is_escapable_raw kind.ScriptOrStyle n (unfold names in refl)
      (script_or_style ∙ h)

  -- of raw elements only `textarea` drops a line feed
  pub raw_keeps : of kind.Raw n ≡ true → is_escapable_raw n ≡ false → of kind.DropsFeed n ≡ false
  raw_keeps h e = not-true _ (second_true (passes_of (λ m. is_escapable_raw m
      || not (of kind.DropsFeed m)) kind.Raw n (unfold names in refl) h) e)

  pub feed_dropped : of kind.DropsFeed n ≡ true → (drops_feed n || is_listing n) ≡ true
  feed_dropped h = passes_of (λ m. drops_feed m || is_listing m) kind.DropsFeed n
      (unfold names in refl) h

  pub dropped_feed : drops_feed n ≡ true → of kind.DropsFeed n ≡ true
  unfolding names
  dropped_feed h = elim (or_cases (bytes_eq n (codes "pre")) (bytes_eq n (codes "textarea")) h) [
    | inl e ↦ ap (of kind.DropsFeed) (bytes_eq-same n (codes "pre") e)
    | inr e ↦ ap (of kind.DropsFeed) (bytes_eq-same n (codes "textarea") e)
  ]

  -- an element that is its start tag alone drops no line feed
  pub once_keeps : (is_foreign_self_closing n || is_void n) ≡ true →
      of kind.DropsFeed (lowered n) ≡ false
  unfolding names
  once_keeps h =
      let drops = λ (m : List ℕ). of kind.DropsFeed (lowered m) in
      of_two h (λ e. agree_in drops (λ m. false) foreign_self_closing_names n refl e)
      (λ e. agree_in drops (λ m. false) void_names n refl e)
