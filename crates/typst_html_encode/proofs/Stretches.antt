-- Stretches of a text that are written as they are.
use Rattle.std.proofs.Common.{◌≡◌, ℕ, ◌+◌, ◌<◌, ◌≤◌, length, get_or, Bool, true, false, not, ◌&&◌, List, [], ◌∷◌, ◌++◌, arith, refl, ap, ◌∙◌, sym, chars, append_assoc}
use Rattle.std.proofs.lemmas.{Bool.{and_from, and_parts, not-true}, Str.{chars-IsAscii, IsUtf8-append, IsUtf8-encode, chars-append}}
use Rattle.std.{proofs.lemmas.Str.Ascii.{IsAscii-nil, IsAscii-cons}, specs.Str.{IsUtf8}}
use Rattle.html_names_core.{proofs.Basics.{all_append, chars-encode, first_scalar}, specs.Characters.{all}}
use Rattle.typst_html_encode.specs.{ExportFaults.{is_bad, text_faults}, PlainStretches.{is_plain, PassesPlain}}
use Rattle.typst_html_encode.specs.{Text.{stands_as_is, escaped_text}, declared.escape.Escaping.{Escaping}}
use lib.Utf8.{encode}

-- a character that is plain, and one that is not
pub plain_stands : (e : Escaping) (c : ℕ) → is_plain e c ≡ true → stands_as_is e c ≡ true
plain_stands e c h = (and_parts (stands_as_is e c) (not (is_bad e c)) h).0

pub plain_good : (e : Escaping) (c : ℕ) → is_plain e c ≡ true → is_bad e c ≡ false
plain_good e c h = not-true (is_bad e c) (and_parts (stands_as_is e c) (not (is_bad e c)) h).1

pub good_stands : (e : Escaping) (c : ℕ) → is_bad e c ≡ false →
    stands_as_is e c ≡ is_plain e c
good_stands e c good = rw good (stands_alone (stands_as_is e c)) where
  stands_alone : (b : Bool) → b ≡ (b && true)
  stands_alone true = refl
  stands_alone false = refl

pub ruleset plain_chars = (plain_stands, good_stands)

pub escaped_plain : (e : Escaping) (cs ds : List ℕ) → all (is_plain e) cs ≡ true →
    escaped_text e (cs ++ ds) ≡ cs ++ escaped_text e ds
escaped_plain e [] ds h = refl
escaped_plain e (c ∷ cs) ds h =
    let both = and_parts (is_plain e c) (all (is_plain e) cs) h in
    rw (plain_stands e c both.0, escaped_plain e cs ds both.1) refl

pub faults_plain : (e : Escaping) (span : ℕ) (cs ds : List ℕ) → all (is_plain e) cs ≡ true →
    text_faults e span (cs ++ ds) ≡ text_faults e span ds
faults_plain e span [] ds h = refl
faults_plain e span (c ∷ cs) ds h =
    let both = and_parts (is_plain e c) (all (is_plain e) cs) h in
    rw (plain_good e c both.0, faults_plain e span cs ds both.1) refl

-- a text of one byte, which is ASCII
pub lone_char : (text bytes : List ℕ) → bytes ≡ text → 1 ≤ length bytes → length bytes < 2 →
    get_or bytes 0 0 < 128 → chars text ≡ get_or bytes 0 0 ∷ []
lone_char text [] same some few small = absurd (omega (arith, some))
lone_char text (b ∷ []) same some few small =
    ap chars (sym same) ∙ chars-IsAscii (b ∷ []) (IsAscii-cons b [] small IsAscii-nil)
lone_char text (b ∷ c ∷ bs) same some few small = absurd (omega (arith, few))

pub lone_text : (e : Escaping) (c : ℕ) → is_plain e c ≡ true → escaped_text e (c ∷ []) ≡ c ∷ []
lone_text e c h = escaped_plain e (c ∷ []) [] (and_from (is_plain e c) true h refl)

pub lone_faults : (e : Escaping) (span c : ℕ) → is_plain e c ≡ true →
    text_faults e span (c ∷ []) ≡ []
lone_faults e span c h = faults_plain e span (c ∷ []) [] (and_from (is_plain e c) true h refl)

passes_more : (e : Escaping) (text rest front left : List ℕ) → PassesPlain e text rest →
    rest ≡ front ++ left → IsUtf8 front → IsUtf8 left → all (is_plain e) (chars front) ≡ true →
    PassesPlain e text left
passes_more e text rest front left h split u v plain = record {
  front = h.front ++ front;
  split = h.split ∙ (ap (λ l. h.front ++ l) split ∙ sym (append_assoc h.front front left));
  front_utf8 = IsUtf8-append h.front front h.front_utf8 u;
  rest_utf8 = v;
  plain = ap (all (is_plain e)) (chars-append h.front front h.front_utf8)
      ∙ all_append (is_plain e) (chars h.front) (chars front) h.plain plain;
}

pub passes_char : (e : Escaping) (text rest left : List ℕ) (c : ℕ) → PassesPlain e text rest →
    rest ≡ encode c ++ left → is_plain e c ≡ true → IsUtf8 left → PassesPlain e text left
passes_char e text rest left c h split plain u =
    let valid = first_scalar rest left c h.rest_utf8 split in
    passes_more e text rest (encode c) left h split (IsUtf8-encode c valid) u
    (ap (all (is_plain e)) (chars-encode c valid) ∙ and_from (is_plain e c) true plain refl)

pub passes_on : (e : Escaping) (text rest left : List ℕ) → PassesPlain e text rest →
    PassesPlain e rest left → PassesPlain e text left
passes_on e text rest left h more = passes_more e text rest more.front left h more.split
    more.front_utf8 more.rest_utf8 more.plain
