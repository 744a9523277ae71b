use Rattle.std.proofs.lemmas.Result.{on_ok_weaker}
use Rattle.html_dom_tree.specs.Views.{text_view}
use Rattle.typst_html_read.{proofs.EndTags.{left, left_none}, specs.OpenViews.{open_of, stack_of}, specs.ReaderViews.{reader_state}}
use Rattle.typst_html_read.proofs.reader.Reader.leave.Goals as goal

pub returns-in-Some : goal.returns-in-Some
returns-in-Some c =
    let self = c.args.self.now in
    on_ok_weaker c.complete.result
    (left (text_view self.text) (stack_of self.stack) (stack_of c.end_text.new.self.stack)
    (stack_of c.pop.new.self) (open_of c.in-Some.element) (reader_state c.complete.new.self)
    c.in_ok-end_text.ensures c.in-Some.ensures.some)
    c.complete.ensures

pub returns-in-None : goal.returns-in-None
returns-in-None c =
    let self = c.args.self.now in
    left_none (text_view self.text) (stack_of self.stack) (stack_of c.end_text.new.self.stack) _
    c.in_ok-end_text.ensures c.in-None.ensures.none
