-- Names of tags, which are ASCII.
use Rattle.std.proofs.Common.{◌≡◌, ℕ, Bool, true, List, [], ◌∷◌, chars, refl, sym, ◌∙◌, arith}
use Rattle.std.proofs.lemmas.{Bool.{and_from}, Str.{encodes-chars, encodes-IsAscii}}
use Rattle.std.specs.{List.{list_all}, Str.{IsUtf8, IsAscii}}
use Rattle.html_names_core.{proofs.Basics.{is_ascii_is}, proofs.Faults.{tag_ascii}, specs.Characters.{IsOf, all, is_tag_char}}

pub name_ascii : (n : List ℕ) → IsOf is_tag_char n → IsAscii n
name_ascii n h = is_ascii_is n (tag_ascii n h)

pub name_is : (n : List ℕ) → IsUtf8 n → IsOf is_tag_char (chars n) → n ≡ chars n
name_is n u h = sym (encodes-chars n u) ∙ encodes-IsAscii (chars n) (name_ascii (chars n) h)

pub all_listed : (p : ℕ → Bool) (cs : List ℕ) → all p cs ≡ true → list_all p cs ≡ true
all_listed p [] h = refl
all_listed p (c ∷ cs) h = grind (arith, all_listed p cs)

pub name_listed : (name : List ℕ) → IsOf is_tag_char name → list_all is_tag_char name ≡ true
name_listed [] h = elim h [ ]
name_listed (c ∷ cs) h = and_from _ _ h.0 (all_listed is_tag_char cs h.1)
