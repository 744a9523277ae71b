use Rattle.html_page_read.{proofs.TagFronts.{own_end_read}, specs.PageReaderViews.{reader_of}}
use Rattle.html_page_read.proofs.reader.Reader.read_end.Goals as goal

pub returns-in_ok-close_own-in-Some : goal.returns-in_ok-close_own-in-Some
returns-in_ok-close_own-in-Some c =
    own_end_read (reader_of c.args.self.now) (reader_of c.close_own.new.self) c.args.text.now
    c.in-Some.rest.now c.requires.open c.in-Some.ensures c.in_ok-close_own-in-Some.ensures
