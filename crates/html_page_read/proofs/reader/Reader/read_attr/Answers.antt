use Rattle.std.proofs.Common.{◌≡◌, false, eqb, length, sym, ap, ◌∙◌, arith}
use Rattle.html_page_read.{proofs.TagFronts.{attr_read}, specs.PageReaderViews.{draft_of, reader_of, state_at}}
use Rattle.html_page_read.proofs.reader.Reader.read_attr.Goals as goal

pub begin_value-requires : goal.begin_value-requires
begin_value-requires c =
    omega (arith, c.requires.room, c.cut_name.ensures.begins.long, c.in-Some.ensures.long)

pub returns : goal.returns
returns c =
    let self = c.args.self.now in
    let attr = c.cut_name.result.0.now in
    let some : eqb (length attr) 0 ≡ false = sym c.is_empty.ensures ∙ c.if-is_empty.false in
    attr_read (reader_of self) (reader_of c.begin_value.new.self) (draft_of self.draft)
    c.args.text.now attr c.cut_name.result.1.now c.in-Some.rest.now
    (ap (λ s. state_at s self) c.requires.before) c.cut_name.ensures some c.in-Some.ensures
    c.in_ok-begin_value.ensures
