use Rattle.std.proofs.Common.{◌≡◌, ◌++◌, [], ◌∷◌, true, false, chars, sym, ap, subst, ◌∙◌, rules}
use Rattle.std.{proofs.lemmas.List.{nil_from_length}, proofs.lemmas.Str.{IsUtf8-past_char}, specs.Str.Iter.{chars_rest}}
use Rattle.html_links.proofs.TakenFragments.{IsTaken, all_taken, dropped, held, written}
use Rattle.html_links.specs.Indicated.{is_control_or_space, is_dropped}
use Rattle.html_links.proofs.indicated.url_end.Goals as goal

pub loop-c-preserved-then-is_dropped : goal.loop-c-preserved-then-is_dropped
loop-c-preserved-then-is_dropped c =
    let at = c.loop-c in
    let rest = chars_rest at.c-iterator in
    let later = chars_rest c.next.new.self in
    let parts = c.in-Some.ensures.steps.0 in
    let is : is_dropped c.in-Some.c ≡ true = search rules in
    dropped at.end at.blanks rest later _ c.in-Some.c at.invariant parts
    (IsUtf8-past_char rest later c.in-Some.c at.invariant.utf8 parts) is

pub loop-c-preserved-in-Continue-1 : goal.loop-c-preserved-in-Continue-1
loop-c-preserved-in-Continue-1 c =
    let at = c.loop-c in
    let rest = chars_rest at.c-iterator in
    let later = chars_rest c.next.new.self in
    let parts = c.in-Some.ensures.steps.0 in
    let kept : is_dropped c.in-Some.c ≡ false = search rules in
    let blank : is_control_or_space c.in-Some.c ≡ true = search rules in
    subst (λ blanks. IsTaken at.end blanks later (chars c.args.text.now)) (sym c.in_ok-push.ensures.added)
    (held at.end at.blanks rest later (chars c.args.text.now) c.in-Some.c at.invariant parts
    (IsUtf8-past_char rest later c.in-Some.c at.invariant.utf8 parts) kept blank)

pub loop-c-preserved : goal.loop-c-preserved
loop-c-preserved c =
    let at = c.loop-c in
    let rest = chars_rest at.c-iterator in
    let later = chars_rest c.next.new.self in
    let parts = c.in-Some.ensures.steps.0 in
    let shown : is_control_or_space c.in-Some.c ≡ false = search rules in
    let end : c.push-else-is_control_or_space.new.self ≡ (at.end ++ at.blanks) ++ c.in-Some.c ∷ [] =
    c.in_ok-push-2.ensures.added
    ∙ ap (λ l. l ++ c.in-Some.c ∷ [])
    (c.in_ok-push_str.ensures.added ∙ ap (λ l. at.end ++ l) c.as_str.ensures) in
    subst (λ l. IsTaken l c.new-blanks-else-is_control_or_space.result later
    (chars c.args.text.now)) (sym end)
    (subst (λ l. IsTaken ((at.end ++ at.blanks) ++ c.in-Some.c ∷ []) l later (chars c.args.text.now))
    (sym c.new-blanks-else-is_control_or_space.ensures)
    (written at.end at.blanks rest later (chars c.args.text.now) c.in-Some.c at.invariant parts
    (IsUtf8-past_char rest later c.in-Some.c at.invariant.utf8 parts) shown))

pub returns : goal.returns
returns c =
    let at = c.loop-c in
    all_taken at.end at.blanks (chars_rest at.c-iterator) _ at.invariant (nil_from_length _ c.in-None.ensures.steps.0.0)
