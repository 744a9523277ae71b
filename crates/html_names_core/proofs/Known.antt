-- Nothing is wrong with a known name, but for the one that is reserved.
use Rattle.std.proofs.Common.{◌≡◌, ℕ, zero, suc, ◌+◌, ◌<◌, ◌==◌, Bool, true, false, not, ◌||◌, ◌&&◌, List, [], ◌∷◌, refl, sym, length, get_or, arith, find, None}
use Rattle.std.{proofs.lemmas.Bool.Decides.{nat_tests}, specs.List.{list_any}}
use Rattle.html_names_core.proofs.{Ascending.{stands}, Held.{tag_long, attr_long, tag_valid, attr_valid}}
use Rattle.html_names_core.specs.{Characters.{all, IsOf, is_tag_char, is_attr_char, is_hyphen}, Held.{held_text, IsHeld}}
use Rattle.html_names_core.specs.{Names.{IsPlace, tag_fault, attr_fault}, Tables.{known_tags, known_attrs, attr_count, is_known_attr}}
use Rattle.html_names_core.specs.declared.{name.Name.{Name}, name.Name.TheVariants.{Known, Own}, table.TheConstants.{RESERVED_TAG}}

-- no character of a valid name is bad
none_bad : (p : ℕ → Bool) (cs : List ℕ) → all p cs ≡ true → find (λ c. not (p c)) cs ≡ None
none_bad p [] h = refl
none_bad p (c ∷ cs) h = grind (arith, none_bad p cs)

faultless_tag : (name : List ℕ) → IsOf is_tag_char name → list_any is_hyphen name ≡ false →
    tag_fault name ≡ None
faultless_tag [] h plain = absurd h
faultless_tag (c ∷ cs) h plain =
    let good : find (λ d. not (is_tag_char d)) (c ∷ cs) ≡ None =
    rw h.0 (none_bad is_tag_char cs h.1) in
    rw (good, plain) refl

faultless_attr : (name : List ℕ) → IsOf is_attr_char name → attr_fault name ≡ None
faultless_attr [] h = absurd h
faultless_attr (c ∷ cs) h =
    let good : find (λ d. not (is_attr_char d)) (c ∷ cs) ≡ None =
    rw h.0 (none_bad is_attr_char cs h.1) in
    rw good refl

-- only the name of that place has a hyphen
abbrev are_plain : (one place : ℕ) → List (List ℕ) → Bool
are_plain one place [] = true
are_plain one place (n ∷ ns) =
    (place == one || not (list_any is_hyphen n)) && are_plain one (suc place) ns

plain_at : (one place n k : ℕ) (names : List (List ℕ)) → k < length names → n ≡ place + k →
    (n ≡ one → ⊥) → are_plain one place names ≡ true → list_any is_hyphen (get_or names k []) ≡ false
plain_at one place n k [] l e other h = absurd (omega arith)
plain_at one place n zero (t ∷ ts) l e other h = grind (arith, nat_tests)
plain_at one place n (suc k) (t ∷ ts) l e other h =
    grind (arith, plain_at one (suc place) n k ts)

tags_plain : are_plain RESERVED_TAG 0 known_tags ≡ true
unfolding known_tags
tags_plain = refl

pub tag_faultless : (text : List ℕ) (n : ℕ) → IsPlace known_tags text n →
    (n ≡ RESERVED_TAG → ⊥) → tag_fault text ≡ None
tag_faultless text n at other =
    let plain = plain_at RESERVED_TAG 0 n n known_tags at.0 (omega arith) other tags_plain in
    rw (sym at.1) (faultless_tag (get_or known_tags n [])
    (tag_valid (Known n) (omega (arith, tag_long, at.0))) plain)

pub attr_faultless : (text : List ℕ) (n : ℕ) → IsPlace known_attrs text n → attr_fault text ≡ None
attr_faultless text n at =
    rw (sym at.1) (faultless_attr (get_or known_attrs n [])
    (attr_valid (Known n) (omega (arith, attr_long, at.0))))

-- an attribute is known where it is held by its place
pub attr_is_known : (name : Name) (n : ℕ) → IsHeld attr_count known_attrs is_attr_char name →
    name ≡ Known n → is_known_attr (held_text known_attrs name) ≡ true
attr_is_known (Known m) n held is = stands known_attrs m (omega (arith, attr_long, held))
attr_is_known (Own s) n held is = cc
