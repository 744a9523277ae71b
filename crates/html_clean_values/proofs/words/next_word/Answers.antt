use Rattle.std.proofs.Common.{rules, chars, length, sym, ap, ◌∙◌, arith}
use Rattle.html_clean_values.proofs.WordSteps.{takes_word, words_blank, words_nil}
use Rattle.html_clean_values.specs.Words.{words}
use Rattle.html_clean_values.proofs.words.next_word.Goals as goal

pub returns-then-not-is_ascii_whitespace : goal.returns-then-not-is_ascii_whitespace
returns-then-not-is_ascii_whitespace c =
    let held = c.loop-c.invariant in
    takes_word (chars c.args.text.now) (chars c.loop-c.left.now) c.in-Some.c
    (chars c.in-Some.rest.now)
    (chars c.cut_word.result.0.now) (chars c.cut_word.result.1.now) held.same held.long
    c.in-Some.ensures (search rules) c.cut_word.ensures.word c.cut_word.ensures.rest

pub loop-c-preserved : goal.loop-c-preserved
loop-c-preserved c =
    let held = c.loop-c.invariant in
    record {
      is_text = search rules;
      same = sym (words_blank c.in-Some.c (chars c.in-Some.rest.now) (search rules))
          ∙ (ap words (sym c.in-Some.ensures) ∙ held.same);
      long = omega (arith, ap length c.in-Some.ensures, held.long);
    }

pub returns : goal.returns
returns c = sym c.loop-c.invariant.same ∙ (ap words c.in_default.ensures ∙ words_nil)
