-- Laws of texts with a prefix.
use Rattle.std.proofs.Common.{◌≡◌, ℕ, Bool, true, false, List, [], ◌∷◌, ◌++◌, None, cond, eqb, refl, sym, ap, ◌∙◌}
use Rattle.std.proofs.lemmas.{Bool.{and_from, and_parts, eqb-true}, Bool.Decides.{Decides-eqb}, Slice.Eq.{starts_is}}
use Rattle.std.specs.List.{starts_with}
use Rattle.html_names_core.specs.Characters.{all}
use Rattle.html_links.specs.Scripts.{url_begin}
use Rattle.html_clean_values.specs.Prefixes.{prefixed, prefixed_href, prefixed_name}
use Rattle.html_clean_values.specs.Urls.{scheme_at, scheme_is_allowed, url_is_allowed, url_scheme}
use Rattle.html_clean_values.specs.ValueLaws.{PrefixedHrefIsAllowed, PrefixedHrefOnce, PrefixedHrefPasses, PrefixedNameOnce, PrefixedNamePasses, PrefixedOnce, PrefixedPasses}

pub all_append : (is : ℕ → Bool) (xs ys : List ℕ) → all is xs ≡ true → all is ys ≡ true →
    all is (xs ++ ys) ≡ true
all_append is [] ys h k = k
all_append is (x ∷ xs) ys h k =
    let both = and_parts (is x) (all is xs) h in
    and_from (is x) (all is (xs ++ ys)) both.0 (all_append is xs ys both.1 k)

-- one text

has_prefix : (prefix text : List ℕ) → starts_with eqb (prefix ++ text) prefix ≡ true
has_prefix prefix text =
    (starts_is Decides-eqb (prefix ++ text) prefix (starts_with eqb (prefix ++ text) prefix) refl).1
    text refl

pub prefix_stays : (prefix text : List ℕ) → starts_with eqb text prefix ≡ true →
    prefixed prefix text ≡ text
unfolding prefixed
prefix_stays prefix text is = ap (λ b. cond b text (prefix ++ text)) is

pub prefix_comes : (prefix text : List ℕ) → starts_with eqb text prefix ≡ false →
    prefixed prefix text ≡ prefix ++ text
unfolding prefixed
prefix_comes prefix text is = ap (λ b. cond b text (prefix ++ text)) is

begins_with_prefix : (prefix text : List ℕ) →
    starts_with eqb (prefixed prefix text) prefix ≡ true
begins_with_prefix prefix text = by (starts_with eqb text prefix) refl where
  by : (b : Bool) → starts_with eqb text prefix ≡ b →
      starts_with eqb (prefixed prefix text) prefix ≡ true
  by true is = ap (λ t. starts_with eqb t prefix) (prefix_stays prefix text is) ∙ is
  by false is = ap (λ t. starts_with eqb t prefix) (prefix_comes prefix text is)
      ∙ has_prefix prefix text

pub prefixed_once : PrefixedOnce
prefixed_once prefix text =
    prefix_stays prefix (prefixed prefix text) (begins_with_prefix prefix text)

pub prefixed_passes : PrefixedPasses
prefixed_passes is prefix text front back = by (starts_with eqb text prefix) refl where
  by : (b : Bool) → starts_with eqb text prefix ≡ b → all is (prefixed prefix text) ≡ true
  by true begins = ap (all is) (prefix_stays prefix text begins) ∙ back
  by false begins = ap (all is) (prefix_comes prefix text begins)
      ∙ all_append is prefix text front back

-- a name

name_stays : (prefix name : List ℕ) → starts_with eqb name prefix ≡ true →
    prefixed_name prefix name ≡ name
name_stays prefix [] is = refl
name_stays prefix (c ∷ cs) is = prefix_stays prefix (c ∷ cs) is

pub prefixed_name_once : PrefixedNameOnce
prefixed_name_once prefix [] = refl
prefixed_name_once prefix (c ∷ cs) =
    name_stays prefix (prefixed prefix (c ∷ cs)) (begins_with_prefix prefix (c ∷ cs))

pub prefixed_name_passes : PrefixedNamePasses
prefixed_name_passes is prefix [] front back = refl
prefixed_name_passes is prefix (c ∷ cs) front back =
    prefixed_passes is prefix (c ∷ cs) front back

-- an `href`

fragment_changes : (prefix : List ℕ) (c : ℕ) (cs : List ℕ) → eqb c 35 ≡ true →
    prefixed_href prefix (c ∷ cs) ≡ c ∷ prefixed_name prefix cs
fragment_changes prefix c cs is = ap (λ b. cond b (c ∷ prefixed_name prefix cs) (c ∷ cs)) is

other_stays : (prefix : List ℕ) (c : ℕ) (cs : List ℕ) → eqb c 35 ≡ false →
    prefixed_href prefix (c ∷ cs) ≡ c ∷ cs
other_stays prefix c cs is = ap (λ b. cond b (c ∷ prefixed_name prefix cs) (c ∷ cs)) is

href_once : (prefix : List ℕ) (c : ℕ) (cs : List ℕ) (b : Bool) → eqb c 35 ≡ b →
    prefixed_href prefix (prefixed_href prefix (c ∷ cs)) ≡ prefixed_href prefix (c ∷ cs)
href_once prefix c cs true is =
    ap (prefixed_href prefix) (fragment_changes prefix c cs is)
    ∙ (fragment_changes prefix c (prefixed_name prefix cs) is
    ∙ (ap (λ l. c ∷ l) (prefixed_name_once prefix cs) ∙ sym (fragment_changes prefix c cs is)))
href_once prefix c cs false is = ap (prefixed_href prefix) (other_stays prefix c cs is)

pub prefixed_href_once : PrefixedHrefOnce
prefixed_href_once prefix [] = refl
prefixed_href_once prefix (c ∷ cs) = href_once prefix c cs (eqb c 35) refl

href_passes : (is : ℕ → Bool) (prefix : List ℕ) (c : ℕ) (cs : List ℕ) (b : Bool) →
    eqb c 35 ≡ b → all is prefix ≡ true → all is (c ∷ cs) ≡ true →
    all is (prefixed_href prefix (c ∷ cs)) ≡ true
href_passes is prefix c cs true hash front back =
    let both = and_parts (is c) (all is cs) back in
    ap (all is) (fragment_changes prefix c cs hash)
    ∙ and_from (is c) (all is (prefixed_name prefix cs)) both.0
    (prefixed_name_passes is prefix cs front both.1)
href_passes is prefix c cs false hash front back =
    ap (all is) (other_stays prefix c cs hash) ∙ back

pub prefixed_href_passes : PrefixedHrefPasses
prefixed_href_passes is prefix [] front back = refl
prefixed_href_passes is prefix (c ∷ cs) front back =
    href_passes is prefix c cs (eqb c 35) refl front back

-- no URL that begins with `#` has a scheme

no_scheme : (c : ℕ) (cs : List ℕ) → eqb c 35 ≡ true → scheme_at (url_begin (c ∷ cs)) ≡ None
no_scheme c cs is = ap (λ d. scheme_at (url_begin (d ∷ cs))) (eqb-true c 35 is)

same_scheme : (prefix : List ℕ) (c : ℕ) (cs : List ℕ) (b : Bool) → eqb c 35 ≡ b →
    scheme_at (url_begin (prefixed_href prefix (c ∷ cs))) ≡ scheme_at (url_begin (c ∷ cs))
same_scheme prefix c cs true is =
    ap (λ u. scheme_at (url_begin u)) (fragment_changes prefix c cs is)
    ∙ (no_scheme c (prefixed_name prefix cs) is ∙ sym (no_scheme c cs is))
same_scheme prefix c cs false is = ap (λ u. scheme_at (url_begin u)) (other_stays prefix c cs is)

pub prefixed_href_is_allowed : PrefixedHrefIsAllowed
unfolding url_is_allowed url_scheme
prefixed_href_is_allowed schemes relative prefix [] = refl
prefixed_href_is_allowed schemes relative prefix (c ∷ cs) =
    ap (scheme_is_allowed schemes relative) (same_scheme prefix c cs (eqb c 35) refl)
