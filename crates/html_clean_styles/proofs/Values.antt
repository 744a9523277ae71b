-- The values of declarations, character by character.
use Rattle.std.proofs.Common.{◌≡◌, ℕ, ◌+◌, ◌≤◌, true, false, ◌==◌, List, [], ◌∷◌, Some, None, length, chars, IsUtf8, refl, sym, ap, ◌∙◌, length-append, arith}
use Rattle.std.proofs.lemmas.Str.{encodes-chars, length-encode, len_utf8_bounds}
use lib.Utf8.{encode, encodes}
use Rattle.html_clean_styles.specs.Styles.{depth_behind, holds_in, is_plain_from, is_word_char}

few_encoded : (cs : List ℕ) → length cs ≤ length (encodes cs)
few_encoded [] = omega arith
few_encoded (c ∷ cs) =
    let long = length-append (encode c) (encodes cs) in
    omega (arith, few_encoded cs, long, length-encode c, (len_utf8_bounds c).0)

-- a text has no more characters than bytes
pub few_chars : (bs : List ℕ) → IsUtf8 bs → length (chars bs) ≤ length bs
few_chars bs u = omega (arith, few_encoded (chars bs), ap length (encodes-chars bs u))

pub at_word : (word : List ℕ) (depth c : ℕ) (cs : List ℕ) → is_word_char c ≡ true →
    is_plain_from word depth (c ∷ cs) ≡ is_plain_from word depth cs
unfolding is_plain_from
at_word word depth c cs h = rw h refl

pub at_other : (word : List ℕ) (depth c : ℕ) (cs : List ℕ) → is_word_char c ≡ false →
    is_plain_from word depth (c ∷ cs)
    ≡ holds_in (λ d. is_plain_from cs d cs) (depth_behind c word depth)
unfolding is_plain_from
at_other word depth c cs h = rw h refl

pub at_none : (word : List ℕ) (depth c : ℕ) (cs : List ℕ) → is_word_char c ≡ false →
    None ≡ depth_behind c word depth → is_plain_from word depth (c ∷ cs) ≡ false
at_none word depth c cs h e =
    at_other word depth c cs h ∙ ap (λ o. holds_in (λ d. is_plain_from cs d cs) o) (sym e)

pub at_some : (word : List ℕ) (depth c behind : ℕ) (cs : List ℕ) → is_word_char c ≡ false →
    Some behind ≡ depth_behind c word depth →
    is_plain_from word depth (c ∷ cs) ≡ is_plain_from cs behind cs
at_some word depth c behind cs h e =
    at_other word depth c cs h ∙ ap (λ o. holds_in (λ d. is_plain_from cs d cs) o) (sym e)

pub at_end : (word : List ℕ) (depth : ℕ) → is_plain_from word depth [] ≡ (depth == 0)
unfolding is_plain_from
at_end word depth = refl

-- at most one call more is open
pub one_deeper : (word : List ℕ) (depth c behind : ℕ) → Some behind ≡ depth_behind c word depth →
    behind ≤ depth + 1
unfolding depth_behind
one_deeper word depth c behind e = grind arith
