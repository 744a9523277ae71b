use Rattle.typst_html_read.proofs.ReadLaws.{read_is_written}
use Rattle.typst_html_read.proofs.laws.read_is_written.Goals as goal

pub returns : goal.returns
returns c = read_is_written
