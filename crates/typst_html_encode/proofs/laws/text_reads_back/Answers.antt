use Rattle.typst_html_encode.proofs.ReadingBack.{reads_back}
use Rattle.typst_html_encode.proofs.laws.text_reads_back.Goals as goal

pub returns : goal.returns
returns c = reads_back
