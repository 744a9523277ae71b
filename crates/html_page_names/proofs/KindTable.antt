-- The table of the kinds of names against the lists of names.
use Rattle.std.proofs.Common.{◌≡◌, ℕ, zero, suc, ◌<◌, true, false, List, [], ◌∷◌, refl, arith, sym, ap, ◌∙◌, length, get_or, map}
use Rattle.std.specs.List.{list_all}
use Rattle.html_names_core.{proofs.ByTable.{outside}, specs.Names.{stands_in, IsPlace, are_ascii}, specs.Starts.{are_starts}}
use Rattle.html_page_names.specs.{Kinds.{has_bit, IsKindsOf}, PageNames.{kind_names, of}, declared.kind.Kind.{Kind}}
use Rattle.html_page_names.specs.declared.kind.Kind.TheVariants as kind
use Rattle.html_page_names.specs.declared.kind_table.TheConstants.{NAMES, KIND_BITS, STARTS}

-- two tables that no test of an entry tells apart, at one index
at_place : {A B C : Type 0} (f : A → C) (g : B → C) (as' : List A) (bs : List B) (a : A) (b : B)
    (n : ℕ) → map f as' ≡ map g bs → n < length bs → f (get_or as' n a) ≡ g (get_or bs n b)
at_place f g as' [] a b n e h = absurd (omega arith)
at_place f g [] (y ∷ ys) a b n e h = cc
at_place f g (x ∷ xs) (y ∷ ys) a b zero e h = cc
at_place f g (x ∷ xs) (y ∷ ys) a b (suc n) e h = at_place f g xs ys a b n (cc) (omega arith)

abbrev pub names : List (List ℕ)
names = map (λ n. n.now) NAMES

pub names_long : length names ≡ 122
names_long = refl

pub names_ascii : are_ascii names ≡ true
names_ascii = refl

pub names_started : are_starts STARTS names ≡ true
names_started = refl

-- each row has the bits of its kinds, and no others
by_row : (k : Kind) → map (has_bit k) KIND_BITS ≡ map (of k) names
unfolding of stands_in
by_row kind.A = refl
by_row _ = refl

-- each name of a kind has a row
has_row : (k : Kind) → list_all (stands_in names) (kind_names k) ≡ true
unfolding stands_in
has_row kind.A = refl
has_row _ = refl

none_has : (k : Kind) → has_bit k 0 ≡ false
none_has kind.A = refl
none_has _ = refl

pub of_known : (text : List ℕ) (n : ℕ) → IsPlace names text n →
    IsKindsOf text (record { bits = get_or KIND_BITS n 0 })
of_known text n at k =
    at_place (has_bit k) (of k) KIND_BITS names 0 [] n (by_row k) at.0 ∙ ap (of k) at.1

pub of_unknown : (text : List ℕ) → stands_in names text ≡ false →
    IsKindsOf text (record { bits = 0 })
unfolding of
of_unknown text absent k =
    none_has k ∙ sym (outside names (kind_names k) text (has_row k) absent)
