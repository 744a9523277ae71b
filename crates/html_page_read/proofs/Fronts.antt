-- What it takes that the front of a text is read at once.
use Rattle.std.proofs.Common.{◌≡◌, ℕ, ◌+◌, ◌<◌, true, List, [], ◌∷◌, ◌++◌, chars, eqb, false, length, refl, sym, ap, subst, ◌∙◌, arith, append_assoc, length-append}
use Rattle.std.proofs.lemmas.{Bool.{and_parts, false≢true, ltb-true}, Str.{IsUtf8-past_char, encode_ascii}, Bool.Decides.{nat_tests}}
use Rattle.std.specs.{Prelude.{nat_lt}, Str.{IsUtf8}}
use Rattle.html_names_core.specs.Names.{is_ascii}
use Rattle.html_text.specs.Fronts.{BeginsWith}
use Rattle.html_page_read.specs.{Fronts.{begins_small}, PageReading.{run}, PageStretches.{ReadsFront}, PageTokens.{PageReader}}

pub small_some : (cs : List ℕ) → begins_small cs ≡ true → eqb (length cs) 0 ≡ false
small_some [] h = absurd (false≢true h)
small_some (c ∷ cs) h = grind (arith, nat_tests)

-- behind ASCII the rest of a text is a text
pub rest_utf8 : (front rest text : List ℕ) → is_ascii front ≡ true → IsUtf8 text →
    text ≡ front ++ rest → IsUtf8 rest
rest_utf8 [] rest text a u e = subst IsUtf8 e u
rest_utf8 (c ∷ cs) rest text a u e =
    let both = and_parts (nat_lt c 128) (is_ascii cs) a in
    let small : c < 128 = ltb-true c 128 both.0 in
    rest_utf8 cs rest (cs ++ rest) both.1 (IsUtf8-past_char text (cs ++ rest) c u
    (e ∙ ap (λ l. l ++ (cs ++ rest)) (sym (encode_ascii c small)))) refl

pub begins_on : (text front mid more rest : List ℕ) → BeginsWith front text mid →
    BeginsWith more mid rest → BeginsWith (front ++ more) text rest
begins_on text front mid more rest first next = record {
  characters = first.characters
      ∙ (ap (λ l. front ++ l) next.characters ∙ sym (append_assoc front more (chars rest)));
  long = omega (arith, first.long, next.long, length-append front more);
  rest_utf8 = next.rest_utf8;
}

pub front_read : (old new : PageReader) (text front rest : List ℕ) → BeginsWith front text rest →
    run old (front ++ chars rest) ≡ run new (chars rest) →
    new.reading.place ≡ old.reading.place + length front → ReadsFront old new text rest
front_read old new text front rest h same place = record {
  same = ap (run old) h.characters ∙ same;
  place = omega (arith, place, h.long);
  fewer = omega (arith, h.long);
  rest_utf8 = h.rest_utf8;
}

pub none_read : (q : PageReader) (text : List ℕ) → IsUtf8 text → ReadsFront q q text text
none_read q text u = record {
  same = refl;
  place = refl;
  fewer = omega arith;
  rest_utf8 = u;
}

pub read_on : (p q r : PageReader) (text mid rest : List ℕ) → ReadsFront p q text mid →
    ReadsFront q r mid rest → ReadsFront p r text rest
read_on p q r text mid rest first more = record {
  same = first.same ∙ more.same;
  place = omega (arith, first.place, more.place);
  fewer = omega (arith, first.fewer, more.fewer);
  rest_utf8 = more.rest_utf8;
}
