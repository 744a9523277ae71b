use Rattle.std.proofs.Common.{◌≡◌, [], ◌++◌, chars, sym, ap, ◌∙◌}
use Rattle.std.{proofs.lemmas.Bool.{true≢false}}
use Rattle.html_clean_styles.proofs.Joined.{both, none_before, none_follow}
use Rattle.html_clean_styles.proofs.style.join.Goals as goal

pub returns-then-is_empty : goal.returns-then-is_empty
returns-then-is_empty c =
    sym (none_follow c.args.made.now (chars c.args.more.now) (c.is_empty.ensures.0 c.if-is_empty.true))

pub returns-then-is_empty-2 : goal.returns-then-is_empty-2
returns-then-is_empty-2 c =
    let none : c.args.made.now ≡ [] =
    sym c.as_str.ensures ∙ c.is_empty-2.ensures.0 c.if-is_empty-2.true in
    c.in_ok-push_str.ensures.added
    ∙ (ap (λ l. l ++ chars c.args.more.now) none
    ∙ sym (none_before c.args.made.now (chars c.args.more.now) none))

pub returns : goal.returns
returns c =
    let more = chars c.args.more.now in
    c.in_ok-push_str-2.ensures.added
    ∙ (ap (λ l. l ++ more) c.in_ok-push_ascii.ensures.added
    ∙ sym (both c.args.made.now more
    (λ e. true≢false (sym (c.is_empty-2.ensures.1 (c.as_str.ensures ∙ e)) ∙ c.if-is_empty-2.false))
    (λ e. true≢false (sym (c.is_empty.ensures.1 e) ∙ c.if-is_empty.false))))
