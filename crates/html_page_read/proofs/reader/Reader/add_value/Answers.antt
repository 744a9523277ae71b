use Rattle.std.proofs.{Common.{◌≡◌, ◌++◌, false, eqb, length, sym, ap, ◌∙◌}, lemmas.Str.{chars-IsAscii}}
use Rattle.html_dom_tree.specs.Views.{text_view}
use Rattle.html_text.proofs.Fronts.{common_ascii}
use Rattle.html_page_read.{proofs.PageStretches.{chars_some}, specs.PageReaderViews.{draft_of, reading_of}, specs.PageStretches.{in_quotes}}
use Rattle.html_page_read.proofs.reader.Reader.add_value.Goals as goal

pub returns : goal.returns
returns c =
    let self = c.args.self.now in
    let r = reading_of self.reading in
    let front = c.args.front.now in
    let value = text_view self.draft.value in
    let some : eqb (length front) 0 ≡ false = sym c.is_empty.ensures ∙ c.if-is_empty.false in
    let text : text_view c.add_text.new.text ≡ value ++ front =
    c.in_ok-add_text.ensures ∙ ap (λ l. value ++ l) (chars-IsAscii front (common_ascii front c.requires.common)) in
    rw (c.requires.quoted.state, c.requires.quoted.quote)
    (ap (λ v. in_quotes (draft_of self.draft) (text_view self.draft.attr) v
    (reading_of c.pass.new.self)) text
    ∙ ap (in_quotes (draft_of self.draft) (text_view self.draft.attr) (value ++ front))
    (c.pass.ensures ∙ sym (chars_some front r some)))
