-- The names of the attributes that stay, and the `rel` of links.
use Rattle.std.proofs.Common.{◌≡◌, Bool, true, false, not, ◌||◌, cond, List, [], ◌∷◌, ◌++◌, ℕ, ap, refl, sym, ◌∙◌, take}
use Rattle.std.{proofs.lemmas.Bool.{and_parts}, specs.Prelude.{codes}}
use Rattle.html_names_core.specs.Texts.{TextPair}
use Rattle.html_clean_policy.proofs.{KeptAttrs.{all_kept, any, Any}, KeptTexts.{kept_parts}, Pairs.{all_tested}, Rels.{rel_is, without_again}}
use Rattle.html_clean_policy.specs.AttrNames.{is_barred, is_listed, may_stay}
use Rattle.html_clean_policy.specs.KeptAttrs.{attrs_kept, pairs_kept}
use Rattle.html_clean_policy.specs.Laws.{KeptAttrsAreListed, LinksHaveRel}
use Rattle.html_clean_policy.specs.LinkRels.{cut_pairs, is_rel, leads, with_rel, without_rel}
use Rattle.html_clean_policy.specs.Policies.{PolicyView}

may_listed : (p : PolicyView) (element name : List ℕ) → may_stay p element name ≡ true →
    is_listed p element name ≡ true
unfolding may_stay
may_listed p element name may =
    (and_parts (is_listed p element name) (not (is_barred name)) may).0

or_second : (b c : Bool) → c ≡ true → (b || c) ≡ true
or_second true c is = refl
or_second false c is = is

pub kept_attrs_are_listed : KeptAttrsAreListed
kept_attrs_are_listed p element pairs =
    all_tested (λ pair. is_listed p element pair.0 || is_rel pair.0) (attrs_kept p element pairs)
    (all_kept (λ pair. (is_listed p element pair.0 || is_rel pair.0) ≡ true) Any p element pairs
    (any pairs)
    (λ pair kept _ e. let parts = kept_parts p element pair kept e in
    ap (λ n. is_listed p element n || is_rel n) parts.name
    ∙ ap (λ b. b || is_rel pair.0) (may_listed p element pair.0 parts.may))
    (λ text is. or_second (is_listed p element (codes "rel")) (is_rel (codes "rel")) rel_is))

given_rel : (rel : List ℕ) (pairs : List TextPair) → leads (with_rel rel pairs) ≡ true →
    (front : List TextPair) × (with_rel rel pairs ≡ front ++ (codes "rel", rel) ∷ [])
    × (without_rel front ≡ front)
given_rel rel pairs on = by (leads pairs) refl on
  where
    by : (b : Bool) → leads pairs ≡ b →
        leads (cond b (without_rel pairs ++ (codes "rel", rel) ∷ []) pairs) ≡ true →
        (front : List TextPair)
        × (cond b (without_rel pairs ++ (codes "rel", rel) ∷ []) pairs
        ≡ front ++ (codes "rel", rel) ∷ [])
        × (without_rel front ≡ front)
    by true e on = (without_rel pairs, refl, without_again pairs)
    by false e on = absurd (cc)

cut_as : (p : PolicyView) (element : List ℕ) (pairs : List TextPair) →
    attrs_kept p element pairs ≡ cut_pairs p.rel element (pairs_kept p element pairs)
unfolding attrs_kept
cut_as p element pairs = refl

pub links_have_rel : LinksHaveRel
links_have_rel p element pairs rel is link on =
    let ks = pairs_kept p element pairs in
    let same : attrs_kept p element pairs ≡ with_rel rel (take 255 ks) =
    cut_as p element pairs ∙ (ap (λ r. cut_pairs r element ks) is
    ∙ ap (λ b. cond b (with_rel rel (take 255 ks)) (take 256 ks)) link) in
    let given = given_rel rel (take 255 ks) (sym (ap leads same) ∙ on) in
    (given.0, same ∙ given.1, given.2)
