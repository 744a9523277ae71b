use Rattle.std.proofs.Common.{◌||◌, chars, sym, ap, ◌∙◌}
use Rattle.html_text.specs.ClosingTags as ending
use Rattle.html_text.proofs.ClosingTags.{after_utf8, holds_at, holds_none}
use Rattle.html_text.proofs.closing.holds_closing.Goals as goal

pub returns-then-closes : goal.returns-then-closes
returns-then-closes c =
    let name = chars c.args.name.now in
    let held = c.loop-after.invariant in
    let after = c.in-Some.after.now in
    let found = c.in-Some.ensures.cases in
    let left = c.loop-after.left.now in
    let at = holds_at left after found.0 found.1 held.is_text found.2 found.4 found.7 name in
    let closes = sym c.closes.ensures ∙ c.if-closes.true in
    sym (sym held.same ∙ (at ∙ ap (λ b. b || ending.holds_closing name (chars after)) closes))

pub loop-after-preserved : goal.loop-after-preserved
loop-after-preserved c =
    let name = chars c.args.name.now in
    let left = c.loop-after.left.now in
    let held = c.loop-after.invariant in
    let after = c.in-Some.after.now in
    let found = c.in-Some.ensures.cases in
    let at = holds_at left after found.0 found.1 held.is_text found.2 found.4 found.7 name in
    let closes = sym c.closes.ensures ∙ c.if-closes.false in
    record {
      is_text = after_utf8 left after found.0 found.1 held.is_text found.2 found.4 found.7;
      same = sym (at ∙ ap (λ b. b || ending.holds_closing name (chars after)) closes) ∙ held.same;
    }

pub returns : goal.returns
returns c = sym (sym c.loop-after.invariant.same
    ∙ holds_none (chars c.args.name.now) c.loop-after.left.now c.loop-after.invariant.is_text
    c.in_default.ensures.cases)
