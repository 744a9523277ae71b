-- The byte order of names.
use Rattle.std.proofs.Common.{◌≡◌, ℕ, zero, suc, ◌<◌, ◌≤◌, List, [], ◌∷◌, arith, ap, ◌∙◌, chars, IsUtf8, String, Global, Result, Ok, Err}
use Rattle.std.proofs.lemmas.{Cmp.{on_total, nat_cmp_total}, Str.{encodes-chars}}
use Rattle.std.specs.{Cmp.{IsTotalOrder}, List.{AllWithin, HoldsAt}, Ordering.{nat_cmp}, Result.{OnOk, OnErr}}
use Rattle.std.specs.{Cmp.Lexicographic.{slice_cmp, lists_total}, List.Sorted.{IsStrictlySortedBy}}
use Rattle.std.specs.declared.cmp.Ordering.TheVariants.{Less, Equal, Greater}
use Rattle.html_names_core.specs.{Texts.{TextPair}, declared.refused.Refused.{Refused}}
use Rattle.html_values_css.proofs.Listing.{drop_found, drop_gap, listed_with, listed_without}
use lib.Utf8.{encodes}
use Rattle.html_values_css.specs.Properties.{by_name, IsListed, list_view, property_name, property_view, with_property, without}
use Rattle.html_values_css.specs.declared.property.Property.{Property}

pub by_name_total : IsTotalOrder by_name
by_name_total = on_total encodes (lists_total nat_cmp_total)

pub by_name_bytes : (a b : List ℕ) → IsUtf8 a → IsUtf8 b → by_name (chars a) (chars b)
    ≡ slice_cmp nat_cmp a b
by_name_bytes a b u v = ap (λ x. slice_cmp nat_cmp x (encodes (chars b))) (encodes-chars a u)
    ∙ ap (slice_cmp nat_cmp a) (encodes-chars b v)

pub listed_none : IsListed []
unfolding IsStrictlySortedBy
listed_none = tt

-- an edit keeps the order
pub put_listed : (r : Result (Unit {0}) (Refused (String Global))) (old new : List TextPair)
    (name value : List ℕ) → IsListed old
    → OnOk r (new ≡ with_property old name value) → OnErr r (new ≡ old) → IsListed new
put_listed (Ok u) old new name value s p q = rw p (listed_with by_name_total name value old s)
put_listed (Err e) old new name value s p q = rw q s

pub out_listed : (old new : List TextPair) (name : List ℕ) → IsListed old → new ≡ without old name
    → IsListed new
out_listed old new name s p = rw p (listed_without by_name name old s)

-- a name among one
pub only_found : (p : Property) (name : List ℕ) (at : ℕ) → at < 1
    → AllWithin (λ q. by_name name (property_name q) ≡ Greater) (p ∷ []) 0 at
    → HoldsAt (λ q. by_name name (property_name q) ≡ Equal) (p ∷ []) at
    → without (list_view (p ∷ [])) name ≡ []
only_found p name zero within above equal =
    drop_found by_name_total property_view (p ∷ []) name zero within above equal
only_found p name (suc at) within above equal = absurd (omega (arith, within))

pub only_missed : (p : Property) (name : List ℕ) (at : ℕ) → at ≤ 1
    → AllWithin (λ q. by_name name (property_name q) ≡ Greater) (p ∷ []) 0 at
    → AllWithin (λ q. by_name name (property_name q) ≡ Less) (p ∷ []) at 1
    → without (list_view (p ∷ [])) name ≡ list_view (p ∷ [])
only_missed p name at within above below =
    drop_gap by_name_total property_view (p ∷ []) name at within above below
