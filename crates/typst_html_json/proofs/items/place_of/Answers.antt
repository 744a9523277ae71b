use Rattle.std.proofs.{Common.{chars, None, Some}, lemmas.Result.{err_from_is_err_and}}
use Rattle.html_dom_tree.specs.Tree.{starts}
use Rattle.typst_html_json.proofs.{ItemForms.{item_view-Tag}, Tags.{named_item_read, named_item_wrong}}
use Rattle.typst_html_json.proofs.items.place_of.Goals as goal

pub returns-in_err-location : goal.returns-in_err-location
returns-in_err-location c =
    let failed = err_from_is_err_and c.from_residual.result c.from_residual.ensures.1 in
    rw (failed.1, failed.2, ← c.text_in.ensures, c.in-Some.is, ← c.deref.ensures)
    (named_item_wrong (λ l t. starts l (Some t) None) (chars c.deref.result.now) c.args.reader.now
    c.in_err-location.field-0.0 c.in_err-location.ensures)

pub returns : goal.returns
returns c =
    rw (← c.text_in.ensures, c.in-Some.is, item_view-Tag, ← c.deref.ensures)
    (named_item_read (λ l t. starts l (Some t) None) (chars c.deref.result.now)
    c.in_ok-location.location.0 c.args.reader.now c.named.new.self
    c.in_ok-location.ensures.0 c.in_ok-location.ensures.1 c.in_ok-location.ensures.2)
