use Rattle.std.{proofs.Common.{◌≡◌, sym, ap, ◌∙◌, subst}, specs.Result.{OnOk}}
use Rattle.typst_html_encode.specs.Reader.{EndName}
use Rattle.typst_html_read.proofs.Steps.{end_stops, end_more, end_closes}
use Rattle.typst_html_read.specs.{LimitedReading.{next_state}, OpenViews.{stack_of}, ReaderViews.{reader_state, state_at}}
use Rattle.typst_html_read.proofs.reader.Reader.end_name.Goals as goal

pub returns-then-not-ends_at : goal.returns-then-not-ends_at
returns-then-not-ends_at c =
    let self = c.args.self.now in
    let d = c.args.c in
    end_stops self.word (stack_of self.stack) c.as_str.result.now d c.as_str.ensures.value
    (sym c.ends_at.ensures ∙ c.if-not-ends_at.true)
    ∙ ap (λ m. next_state (state_at m self) d) (sym c.requires)

pub returns-then-is_valid_in_tag_name : goal.returns-then-is_valid_in_tag_name
returns-then-is_valid_in_tag_name c =
    let self = c.args.self.now in
    let d = c.args.c in
    let stack = stack_of self.stack in
    let grown = record self { word = c.add.new.text } in
    let more = end_more self.word stack c.as_str.result.now d c.as_str.ensures.value
    (sym c.ends_at.ensures ∙ c.if-not-ends_at.false)
    (sym c.is_valid_in_tag_name.ensures ∙ c.if-is_valid_in_tag_name.true) in
    ap (λ m. state_at m grown) c.requires
    ∙ (ap (λ w. EndName w stack) c.in_ok-add.ensures
    ∙ (more ∙ ap (λ m. next_state (state_at m self) d) (sym c.requires)))

pub returns : goal.returns
returns c =
    let self = c.args.self.now in
    let d = c.args.c in
    let closes = end_closes self.word (stack_of self.stack) c.as_str.result.now d
    c.as_str.ensures.value (sym c.ends_at.ensures ∙ c.if-not-ends_at.false)
    (sym c.is_valid_in_tag_name.ensures ∙ c.if-is_valid_in_tag_name.false) c.if-c-ne62.false in
    subst (λ s. OnOk c.close.result (reader_state c.close.new.self ≡ s))
    (closes ∙ ap (λ m. next_state (state_at m self) d) (sym c.requires)) c.close.ensures
