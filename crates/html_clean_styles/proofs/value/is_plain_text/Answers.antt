use Rattle.std.proofs.Common.{◌≡◌, true, false, chars, length, refl, sym, ap, ◌∙◌, arith, rules}
use Rattle.html_clean_styles.proofs.Values.{at_end, at_none, at_some, at_word, few_chars, one_deeper}
use Rattle.html_clean_styles.specs.Styles.{is_plain_from, is_word_char}
use Rattle.html_clean_styles.proofs.value.is_plain_text.Goals as goal

pub loop-c-init : goal.loop-c-init
loop-c-init c = record {
  word_is_text = c.utf8.text;
  is_text = c.utf8.text;
  same = refl;
  few = omega (arith, few_chars c.args.text.now c.utf8.text);
}

pub loop-c-preserved-then-is_word_char : goal.loop-c-preserved-then-is_word_char
loop-c-preserved-then-is_word_char c =
    let at = c.loop-c in
    let held = at.invariant in
    let is : is_word_char c.in-Some.c ≡ true = sym c.is_word_char.ensures ∙ c.if-is_word_char.true in
    record {
      word_is_text = held.word_is_text;
      is_text = search rules;
      same = sym (ap (is_plain_from (chars at.word.now) at.depth) c.in-Some.ensures
          ∙ at_word (chars at.word.now) at.depth c.in-Some.c (chars c.in-Some.rest.now) is)
          ∙ held.same;
      few = omega (arith, held.few, ap length c.in-Some.ensures);
    }

pub returns-in_default-depth_behind : goal.returns-in_default-depth_behind
returns-in_default-depth_behind c =
    let at = c.loop-c in
    let other : is_word_char c.in-Some.c ≡ false = sym c.is_word_char.ensures ∙ c.if-is_word_char.false in
    sym (ap (is_plain_from (chars at.word.now) at.depth) c.in-Some.ensures
    ∙ at_none (chars at.word.now) at.depth c.in-Some.c (chars c.in-Some.rest.now) other
    c.in_default-depth_behind.ensures)
    ∙ at.invariant.same

pub loop-c-preserved : goal.loop-c-preserved
loop-c-preserved c =
    let at = c.loop-c in
    let held = at.invariant in
    let other : is_word_char c.in-Some.c ≡ false = sym c.is_word_char.ensures ∙ c.if-is_word_char.false in
    let deeper = one_deeper (chars at.word.now) at.depth c.in-Some.c c.in-Some-depth_behind.behind
    c.in-Some-depth_behind.ensures in
    record {
      word_is_text = search rules;
      is_text = search rules;
      same = sym (ap (is_plain_from (chars at.word.now) at.depth) c.in-Some.ensures
          ∙ at_some (chars at.word.now) at.depth c.in-Some.c c.in-Some-depth_behind.behind
          (chars c.in-Some.rest.now) other c.in-Some-depth_behind.ensures)
          ∙ held.same;
      few = omega (arith, held.few, deeper, ap length c.in-Some.ensures);
    }

pub returns : goal.returns
returns c =
    let at = c.loop-c in
    sym (at_end (chars at.word.now) at.depth)
    ∙ (ap (is_plain_from (chars at.word.now) at.depth) (sym c.in_default.ensures) ∙ at.invariant.same)
