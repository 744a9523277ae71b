use Rattle.typst_html_ffi.proofs.TextPieces.{appended}
use Rattle.typst_html_ffi.proofs.misnested.ended.Goals as goal

pub returns : goal.returns
returns c = appended c.args.list.text c.push_str.new.self _ c.in_ok-push_str.ensures.bytes
