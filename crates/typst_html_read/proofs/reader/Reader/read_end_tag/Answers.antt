use Rattle.std.proofs.Common.{chars, sym, ap, ◌∙◌, subst}
use Rattle.html_dom_tree.specs.Views.{text_view}
use Rattle.typst_html_encode.specs.Reader.{Content}
use Rattle.typst_html_read.proofs.EndTags.{end_tag_fewer, end_tag_read}
use Rattle.typst_html_read.specs.{EndTags.{Leaves}, OpenViews.{stack_of}, ReaderViews.{reader_state, state_at}, Stretches.{ReadsOn}}
use Rattle.typst_html_read.proofs.reader.Reader.read_end_tag.Goals as goal

pub returns : goal.returns
returns c =
    let self = c.args.self.now in
    let text = chars c.args.text.now in
    let rest = chars c.in-Some.rest.now in
    let end = c.in-Some.ensures in
    let words = text_view self.text in
    let new = reader_state c.leave.new.self in
    let made = subst (λ s. Leaves words s new) end.stands c.in_ok-leave.ensures in (
      subst (λ s. ReadsOn s new text rest)
          (ap (Content words) (sym end.stands) ∙ ap (λ m. state_at m self) (sym c.in-Content.is))
          (end_tag_read words end.top end.others text rest new end.named end.parts made),
      end_tag_fewer (stack_of self.stack) text rest end,
    )
