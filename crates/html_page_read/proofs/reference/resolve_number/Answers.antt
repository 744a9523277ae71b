use Rattle.std.{proofs.Common.{◌≡◌, chars, ap, ◌∙◌, subst}, specs.Result.{IfOk}}
use Rattle.html_page_read.{proofs.References.{by_number}, specs.PageReaderViews.{resolved_of}, specs.PageReferences.{numbered}}
use Rattle.html_page_read.proofs.reference.resolve_number.Goals as goal

pub returns-in-Some : goal.returns-in-Some
returns-in-Some c =
    let behind = c.args.behind in
    let whole = ap (λ n. numbered n behind) c.number_of.ensures
    ∙ by_number c.args.base (chars c.args.since.now) (chars c.args.digits.now) c.in-Some.field-0.0
    (chars c.in-Some.field-0.1.now) behind c.in-Some.ensures in
    subst (λ x. IfOk c.numbered.result (λ found. resolved_of found ≡ x)) whole c.numbered.ensures
