use Rattle.std.proofs.{Common.{◌≡◌, [], false, true, eqb, length, ◌++◌, map, sym, ap, ◌∙◌}, StrCases.{chars_of_empty}}
use Rattle.std.proofs.lemmas.Bool.{eqb-true}
use Rattle.html_dom_shown.specs.Collapsing.{char}
use Rattle.html_page_text.{proofs.Gathering.{page_of, text_added}, specs.Gathering.{with_pieces}, specs.PageViews.{page_view}}
use Rattle.html_page_text.proofs.page.GatheredPage.push_text.Goals as goal

pub returns-then-is_empty : goal.returns-then-is_empty
unfolding with_pieces
returns-then-is_empty c =
    let long : eqb (length c.as_str.result.now) 0 ≡ true =
    sym c.is_empty.ensures ∙ c.if-is_empty.true in
    let none : c.args.text.now ≡ [] =
    sym c.as_str.ensures ∙ chars_of_empty _ (eqb-true _ 0 long) in
    ap (λ l. with_pieces (page_view c.args.self.now) (map char l)) (sym none)

pub returns : goal.returns
returns c =
    let p = page_view c.args.self.now in
    let long : eqb (length c.as_str.result.now) 0 ≡ false =
    sym c.is_empty.ensures ∙ c.if-is_empty.false in
    ap (λ l. page_of p.parts l false)
    (c.in_ok-push_str.ensures.added ∙ ap (λ l. p.text ++ l) c.as_str-2.ensures)
    ∙ sym (text_added p c.as_str.result.now c.args.text.now c.as_str.ensures c.as_str.utf8 long)
