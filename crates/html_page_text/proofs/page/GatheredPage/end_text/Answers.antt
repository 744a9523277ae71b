use Rattle.std.proofs.{Common.{◌≡◌, [], true, false, ◌++◌, eqb, length, refl, sym, ap, ◌∙◌}, StrCases.{chars_of_empty}}
use Rattle.std.proofs.lemmas.Bool.{eqb-true}
use Rattle.html_page_text.{proofs.Parts.{one_part, no_text, one_text}, specs.PageViews.{parts_view}, specs.Parts.{text_part}}
use Rattle.html_page_text.proofs.page.GatheredPage.end_text.Goals as goal

pub returns-then-is_empty : goal.returns-then-is_empty
returns-then-is_empty c =
    let long : eqb (length c.as_str.result.now) 0 ≡ true =
    sym c.is_empty.ensures ∙ c.if-is_empty.true in
    let none : c.args.self.now.text ≡ [] =
    sym c.as_str.ensures ∙ chars_of_empty _ (eqb-true _ 0 long) in
    record {
      ended = none;
      parts = no_text (parts_view c.args.self.now.parts.items) c.args.self.now.text none;
      same = refl;
    }

pub returns : goal.returns
returns c =
    let parts = c.args.self.now.parts.items in
    let text = c.args.self.now.text in
    let long : eqb (length c.as_str.result.now) 0 ≡ false =
    sym c.is_empty.ensures ∙ c.if-is_empty.false in
    record {
      ended = c.replace-text.ensures.after ∙ c.new.ensures;
      parts = one_part parts c.push.new.self.items _ (text_part text) c.in_ok-push.ensures.items
          (ap text_part (c.into_string.ensures ∙ c.replace-text.ensures.value))
          ∙ ap (λ l. parts_view parts ++ l)
          (one_text c.as_str.result.now text c.as_str.ensures c.as_str.utf8 long);
      same = refl;
    }
