use Rattle.typst_html_ffi.proofs.typst_html_dead_links.Goals as goal

pub returns : goal.returns
returns c = let reply = c.reply_with.ensures in (reply.answered _ c.dead_links_of.ensures, reply.kept)
