-- Laws of the attributes that stay.
use Rattle.std.specs.{List.{list_all}, Prelude.{◌≡◌, ℕ, ◌≤◌, Bool, true, not, ◌||◌, List, [], ◌∷◌, ◌++◌, Some, codes, length}}
use Rattle.html_names_core.specs.{Characters.{all}, Texts.{TextPair}}
use Rattle.html_clean_values.specs.Replaced.{is_plain_char}
use Rattle.html_clean_policy.specs.{AttrNames.{is_barred, is_listed}, AttrUses.{use_of}, KeptAttrs.{attrs_kept, urls_stay}}
use Rattle.html_clean_policy.specs.LinkRels.{is_link, is_rel, leads, without_rel}
use Rattle.html_clean_policy.specs.Policies.{IsSound, PolicyView}

-- what stays of attributes stays as it is
abbrev pub KeptAttrsStay : Type 0
KeptAttrsStay = (p : PolicyView) (element : List ℕ) (pairs : List TextPair) → IsSound p →
    attrs_kept p element (attrs_kept p element pairs) ≡ attrs_kept p element pairs

-- at most 256 stay
abbrev pub FewAttrsAreKept : Type 0
FewAttrsAreKept = (p : PolicyView) (element : List ℕ) (pairs : List TextPair) →
    length (attrs_kept p element pairs) ≤ 256

-- each value has text characters alone, and no carriage return
abbrev pub KeptValuesAreWritten : Type 0
KeptValuesAreWritten = (p : PolicyView) (element : List ℕ) (pairs : List TextPair) → IsSound p →
    list_all (λ pair. all is_plain_char pair.1) (attrs_kept p element pairs) ≡ true

-- each URL is allowed
abbrev pub KeptUrlsAreAllowed : Type 0
KeptUrlsAreAllowed = (p : PolicyView) (element : List ℕ) (pairs : List TextPair) →
    list_all (λ pair. urls_stay p (use_of pair.0) pair.1) (attrs_kept p element pairs) ≡ true

-- no event handler and no `srcdoc` stays
abbrev pub NoBarredAttrIsKept : Type 0
NoBarredAttrIsKept = (p : PolicyView) (element : List ℕ) (pairs : List TextPair) →
    list_all (λ pair. not (is_barred pair.0)) (attrs_kept p element pairs) ≡ true

-- each name is `rel` or one that was there
abbrev pub KeptNamesAreThere : Type 0
KeptNamesAreThere = (is_name : List ℕ → Bool) (p : PolicyView) (element : List ℕ)
    (pairs : List TextPair) → is_name (codes "rel") ≡ true →
    list_all (λ pair. is_name pair.0) pairs ≡ true →
    list_all (λ pair. is_name pair.0) (attrs_kept p element pairs) ≡ true

-- each name is `rel` or one that the policy lists for the element
abbrev pub KeptAttrsAreListed : Type 0
KeptAttrsAreListed = (p : PolicyView) (element : List ℕ) (pairs : List TextPair) →
    list_all (λ pair. is_listed p element pair.0 || is_rel pair.0) (attrs_kept p element pairs)
    ≡ true

-- where the policy has a `rel`, each link that keeps a target has it, as its last attribute, and no
-- other
abbrev pub LinksHaveRel : Type 0
LinksHaveRel = (p : PolicyView) (element : List ℕ) (pairs : List TextPair) (rel : List ℕ) →
    p.rel ≡ Some rel → is_link element ≡ true → leads (attrs_kept p element pairs) ≡ true →
    (front : List TextPair) × (attrs_kept p element pairs ≡ front ++ (codes "rel", rel) ∷ [])
    × (without_rel front ≡ front)
