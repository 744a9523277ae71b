-- A known name's text, and that it is valid.
use Rattle.std.proofs.Common.{OnErr, Result, Ok, Err, ◌≡◌, ℕ, zero, suc, ◌<◌, Bool, true, false, ◌&&◌, List, [], ◌∷◌, refl, ap, ◌∙◌, chars, length, get_or, arith, map, Option, Some, None}
use Rattle.std.{proofs.lemmas.Bool.{and_parts}, specs.Borrow.{Bor}, specs.List.{list_all}}
use Rattle.html_names_core.proofs.{Ascending.{all_at}, Lists.{chars_ascii}}
use Rattle.html_names_core.specs.{Characters.{all, IsOf, is_tag_char, is_attr_char}, Held.{held_text, IsHeld, IsLookup, IsMade}}
use Rattle.html_names_core.specs.{Names.{texts, are_ascii, stands_in}, Tables.{known_tags, known_attrs, tag_count, attr_count}}
use Rattle.html_names_core.specs.declared.{name.Name.{Name}, name.Name.TheVariants.{Known, Own}, table.TheConstants.{TAGS, ATTRS}}

pub known_text : (table : List (Bor (List ℕ))) (n : ℕ) (d : Bor (List ℕ)) → n < length table →
    are_ascii (texts table) ≡ true → chars (get_or table n d).now ≡ get_or (texts table) n []
known_text [] n d h a = absurd (omega arith)
known_text (t ∷ ts) zero d h a = chars_ascii t.now (and_parts _ _ a).0
known_text (t ∷ ts) (suc n) d h a = known_text ts n d (omega arith) (and_parts _ _ a).1

abbrev is_of : (ℕ → Bool) → List ℕ → Bool
is_of p [] = false
is_of p (c ∷ cs) = p c && all p cs

of_test : (p : ℕ → Bool) (t : List ℕ) → is_of p t ≡ true → IsOf p t
of_test p [] h = cc
of_test p (c ∷ cs) h = and_parts _ _ h

held_valid : (p : ℕ → Bool) (table : List (List ℕ)) (name : Name) → list_all (is_of p) table ≡ true →
    IsHeld (length table) table p name → IsOf p (held_text table name)
held_valid p table (Known n) a h = of_test p _ (all_at (is_of p) table n [] h a)
held_valid p table (Own s) a h = h.0

pub tag_texts : map (λ n. n.now) TAGS ≡ known_tags
unfolding known_tags
tag_texts = refl

pub attr_texts : map (λ n. n.now) ATTRS ≡ known_attrs
unfolding known_attrs
attr_texts = refl

pub tag_valid : (name : Name) → IsHeld tag_count known_tags is_tag_char name →
    IsOf is_tag_char (held_text known_tags name)
unfolding known_tags
tag_valid name h = held_valid is_tag_char known_tags name refl h

pub attr_valid : (name : Name) → IsHeld attr_count known_attrs is_attr_char name →
    IsOf is_attr_char (held_text known_attrs name)
unfolding known_attrs
attr_valid name h = held_valid is_attr_char known_attrs name refl h

pub tag_long : length known_tags ≡ tag_count
unfolding known_tags
tag_long = refl

pub attr_long : length known_attrs ≡ attr_count
unfolding known_attrs
attr_long = refl

-- the name that is made of a valid text and of its place is held as names are, and has that text
pub made : (count : ℕ) (table : List (List ℕ)) (p : ℕ → Bool) → length table ≡ count →
    (place : Option ℕ) (text : List ℕ) (name : Name) → IsOf p text → IsLookup table text place →
    IsMade place text name → IsHeld count table p name × (held_text table name ≡ text)
made count table p long (Some m) text (Known n) v at e =
    (omega (arith, long, at.0, e), ap (λ k. get_or table k []) e ∙ at.1)
made count table p long (Some m) text (Own s) v at e = absurd e
made count table p long None text (Known n) v at e = absurd e
made count table p long None text (Own s) v at e = (rw e (v, at), e)

pub unknown : (table : List (List ℕ)) (text : List ℕ) (place : Option ℕ) → place ≡ None →
    IsLookup table text place → stands_in table text ≡ false
unknown table text (Some n) e at = cc
unknown table text None e at = at

pub on_err : {A E : Type 0} (result : Result A E) (P : Type 0) → P → OnErr result P
on_err (Ok value) P h = tt
on_err (Err error) P h = h
