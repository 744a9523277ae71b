use Rattle.std.proofs.Common.{refl}
use Rattle.html_dom_tree.specs.Views.{text_view}
use Rattle.html_page_read.{proofs.PageStretches.{value_read}, specs.PageReaderViews.{draft_of, reader_of, reading_of}}
use Rattle.html_page_read.proofs.reader.Reader.read_value.Goals as goal

pub returns : goal.returns
returns c =
    let self = c.args.self.now in
    value_read (reader_of self) (reader_of c.add_value.new.self) (draft_of self.draft)
    (text_view self.draft.attr) (text_view self.draft.value) (reading_of self.reading)
    c.args.text.now c.cut_common.result.0.now c.cut_common.result.1.now
    (rw (c.requires.quoted.state, c.requires.quoted.quote) refl) c.cut_common.ensures
    c.in_ok-add_value.ensures
