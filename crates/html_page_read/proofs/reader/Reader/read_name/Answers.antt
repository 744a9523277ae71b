use Rattle.std.proofs.Common.{sym, ◌∙◌}
use Rattle.html_page_read.{proofs.TagFronts.{name_read}, specs.PageReaderViews.{reader_of}}
use Rattle.html_page_read.proofs.reader.Reader.read_name.Goals as goal

pub returns : goal.returns
returns c =
    name_read c.args.is_end (reader_of c.args.self.now) (reader_of c.begin_tag.new.self) c.args.text.now
    c.cut_name.result.0.now c.cut_name.result.1.now c.requires.open c.cut_name.ensures
    (sym c.begins_small.ensures ∙ c.if-not-begins_small.false) c.in_ok-begin_tag.ensures
