-- Names of tags, by their bytes and by their characters.
use Rattle.std.proofs.Common.{◌≡◌, ℕ, Bool, true, false, not, List, [], ◌∷◌, chars, eqb, length, sym, ap, subst, arith}
use Rattle.std.proofs.lemmas.{Bool.{and_from, and_parts, not-true}, Bool.Decides.{nat_tests}}
use Rattle.std.specs.{List.{list_all}, Str.{IsUtf8}}
use Rattle.html_names_core.specs.Characters.{IsOf, is_tag_char}
use Rattle.html_text.proofs.{Fronts.{all_of}, TagNames.{name_is, name_listed}}
use Rattle.html_page_read.specs.PageTokens.{is_name}

of_chars : (p : ℕ → Bool) (cs : List ℕ) → eqb (length cs) 0 ≡ false → list_all p cs ≡ true →
    IsOf p cs
of_chars p [] k h = cc
of_chars p (c ∷ cs) k h =
    let both = and_parts (p c) (list_all p cs) h in (both.0, all_of p cs both.1)

pub tag_bytes : (t : List ℕ) → IsUtf8 t → is_name (chars t) ≡ true → IsOf is_tag_char t
tag_bytes t u h =
    let both = and_parts (not (eqb (length (chars t)) 0)) (list_all is_tag_char (chars t)) h in
    let is : IsOf is_tag_char (chars t) =
    of_chars is_tag_char (chars t) (not-true _ both.0) both.1 in
    subst (IsOf is_tag_char) (sym (name_is t u is)) is

pub name_from : (c : ℕ) (cs : List ℕ) → list_all is_tag_char (c ∷ cs) ≡ true →
    is_name (c ∷ cs) ≡ true
name_from c cs h =
    let some : eqb (length (c ∷ cs)) 0 ≡ false = grind (arith, nat_tests) in
    and_from (not (eqb (length (c ∷ cs)) 0)) (list_all is_tag_char (c ∷ cs)) (ap not some) h

pub name_of_tag : (cs : List ℕ) → IsOf is_tag_char cs → is_name cs ≡ true
name_of_tag [] h = absurd h
name_of_tag (c ∷ cs) h = name_from c cs (name_listed (c ∷ cs) h)
