-- What is wrong with a text, from its bytes; a text with which nothing is wrong is a valid name.
use Rattle.std.proofs.Common.{◌≡◌, ℕ, Bool, true, false, not, eqb, List, [], ◌∷◌, length, chars, refl, sym, ap, ◌∙◌, Option, Some, None, option_to_list, arith}
use Rattle.std.proofs.lemmas.{Bool.{false≢true, eqb-true, and_parts, and_from}, List.{nil_from_length}, Str.{encodes-chars, chars-nil}}
use Rattle.std.{proofs.lemmas.Bool.Decides.{nat_tests}, specs.List.{find}, specs.Prelude.{nat_lt}, specs.Str.{IsUtf8}}
use lib.Utf8.{encodes}
use Rattle.html_names_core.{proofs.Lists.{chars_ascii}, specs.Characters.{all, IsOf, is_tag_char, is_attr_char}}
use Rattle.html_names_core.specs.{Names.{is_ascii, tag_fault, fault_after, attr_fault, bad_attr_char}, declared.fault.NameFault.{NameFault}}
use Rattle.html_names_core.specs.declared.fault.NameFault.TheVariants.{EmptyTag, EmptyAttr}

length_zero : (t : List ℕ) → eqb (length t) 0 ≡ true → t ≡ []
length_zero t h = nil_from_length t (eqb-true (length t) 0 h)

pub tag_fault-empty : (t : List ℕ) → eqb (length t) 0 ≡ true → tag_fault (chars t) ≡ Some EmptyTag
tag_fault-empty t h = ap (λ b. tag_fault (chars b)) (length_zero t h) ∙ ap tag_fault chars-nil

pub attr_fault-empty : (t : List ℕ) → eqb (length t) 0 ≡ true →
    attr_fault (chars t) ≡ Some EmptyAttr
attr_fault-empty t h = ap (λ b. attr_fault (chars b)) (length_zero t h) ∙ ap attr_fault chars-nil

tag_by : (cs t : List ℕ) → encodes cs ≡ t → eqb (length t) 0 ≡ false →
    tag_fault cs ≡ fault_after cs (find (λ c. not (is_tag_char c)) cs)
tag_by [] t e h = absurd (false≢true (sym h ∙ ap (λ l. eqb (length l) 0) (sym e)))
tag_by (c ∷ cs) t e h = refl

pub tag_fault-more : (t : List ℕ) → IsUtf8 t → eqb (length t) 0 ≡ false →
    tag_fault (chars t) ≡ fault_after (chars t) (find (λ c. not (is_tag_char c)) (chars t))
tag_fault-more t u h = tag_by (chars t) t (encodes-chars t u) h

attr_by : (cs t : List ℕ) → encodes cs ≡ t → eqb (length t) 0 ≡ false →
    attr_fault cs ≡ bad_attr_char (find (λ c. not (is_attr_char c)) cs)
attr_by [] t e h = absurd (false≢true (sym h ∙ ap (λ l. eqb (length l) 0) (sym e)))
attr_by (c ∷ cs) t e h = refl

pub attr_fault-more : (t : List ℕ) → IsUtf8 t → eqb (length t) 0 ≡ false →
    attr_fault (chars t) ≡ bad_attr_char (find (λ c. not (is_attr_char c)) (chars t))
attr_fault-more t u h = attr_by (chars t) t (encodes-chars t u) h

all_valid : (p : ℕ → Bool) (cs : List ℕ) → find (λ c. not (p c)) cs ≡ None → all p cs ≡ true
all_valid p [] h = refl
all_valid p (c ∷ cs) h = grind (arith, all_valid p cs)

valid : (p : ℕ → Bool) (c : ℕ) (cs : List ℕ) → find (λ d. not (p d)) (c ∷ cs) ≡ None →
    IsOf p (c ∷ cs)
valid p c cs h = and_parts (p c) (all p cs) (all_valid p (c ∷ cs) h)

none_bad : (name : List ℕ) (o : Option ℕ) → fault_after name o ≡ None → o ≡ None
none_bad name (Some c) h = cc
none_bad name None h = refl

none_bad_attr : (o : Option ℕ) → bad_attr_char o ≡ None → o ≡ None
none_bad_attr (Some c) h = cc
none_bad_attr None h = refl

pub valid_tag : (name : List ℕ) → tag_fault name ≡ None → IsOf is_tag_char name
valid_tag [] h = cc
valid_tag (c ∷ cs) h = valid is_tag_char c cs (none_bad (c ∷ cs) _ h)

pub valid_attr : (name : List ℕ) → attr_fault name ≡ None → IsOf is_attr_char name
valid_attr [] h = cc
valid_attr (c ∷ cs) h = valid is_attr_char c cs (none_bad_attr _ h)

-- for the calls that test a text
pub ruleset tag_tests = (tag_fault-empty, tag_fault-more)

pub ruleset attr_tests = (attr_fault-empty, attr_fault-more)

tag_char_ascii : (c : ℕ) → is_tag_char c ≡ true → nat_lt c 128 ≡ true
tag_char_ascii c h = grind (arith, nat_tests)

all_tag_ascii : (cs : List ℕ) → all is_tag_char cs ≡ true → is_ascii cs ≡ true
all_tag_ascii [] h = refl
all_tag_ascii (c ∷ cs) h = grind (arith, tag_char_ascii c, all_tag_ascii cs)

pub tag_ascii : (t : List ℕ) → IsOf is_tag_char t → is_ascii t ≡ true
tag_ascii [] h = absurd h
tag_ascii (c ∷ cs) h =
    and_from (nat_lt c 128) (is_ascii cs) (tag_char_ascii c h.0) (all_tag_ascii cs h.1)

pub chars-tag : (t : List ℕ) → IsOf is_tag_char t → chars t ≡ t
chars-tag t h = chars_ascii t (tag_ascii t h)

pub ruleset constants = (chars-tag, chars_ascii)

pub some_first : (o : Option NameFault) (f : NameFault) (rest : List NameFault) →
    option_to_list o ≡ f ∷ rest → o ≡ Some f
some_first None f rest e = cc
some_first (Some g) f rest e = cc
