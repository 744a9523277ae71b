use Rattle.std.{proofs.Common.{◌≡◌, subst}, specs.Prelude.{OnOk}}
use Rattle.html_dom_tree.specs.Views.{text_view}
use Rattle.html_page_read.specs.PageTokens as tokens
use Rattle.html_page_read.specs.PageReaderViews.{draft_of, reading_of}
use Rattle.html_page_read.proofs.draft.Draft.end_bare_attr.Goals as goal

pub returns : goal.returns
returns c =
    let draft = c.args.self.now in
    subst (λ v. OnOk c.end_attr.result ((draft_of c.end_attr.new.self, reading_of c.end_attr.new.reading)
    ≡ tokens.attr_added (text_view draft.attr) v (draft_of draft) (reading_of c.args.reading.now)))
    c.empty.ensures
    c.end_attr.ensures
