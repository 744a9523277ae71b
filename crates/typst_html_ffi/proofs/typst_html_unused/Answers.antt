use Rattle.typst_html_ffi.proofs.typst_html_unused.Goals as goal

pub returns : goal.returns
returns c = let reply = c.reply_with.ensures in (reply.answered _ c.unused_of.ensures, reply.kept)
