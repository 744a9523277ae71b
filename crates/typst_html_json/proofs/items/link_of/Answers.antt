use Rattle.std.proofs.{Common.{chars, None, Some}, lemmas.Result.{err_from_is_err_and}}
use Rattle.html_dom_tree.specs.Tree.{starts}
use Rattle.typst_html_json.proofs.{ItemForms.{item_view-Tag}, Tags.{named_item_read, named_item_wrong}}
use Rattle.typst_html_json.proofs.items.link_of.Goals as goal

pub returns-in_err-destination : goal.returns-in_err-destination
returns-in_err-destination c =
    let failed = err_from_is_err_and c.from_residual.result c.from_residual.ensures.1 in
    rw (failed.1, failed.2, ← c.text_in.ensures, c.in-Some.is, ← c.deref.ensures)
    (named_item_wrong (λ l t. starts 0 None (Some l)) (chars c.deref.result.now) c.args.reader.now
    c.in_err-destination.field-0.0 c.in_err-destination.ensures)

pub returns : goal.returns
returns c =
    rw (← c.text_in.ensures, c.in-Some.is, item_view-Tag, ← c.deref.ensures)
    (named_item_read (λ l t. starts 0 None (Some l)) (chars c.deref.result.now)
    c.in_ok-destination.destination.0 c.args.reader.now c.named.new.self
    c.in_ok-destination.ensures.0 c.in_ok-destination.ensures.1 c.in_ok-destination.ensures.2)
