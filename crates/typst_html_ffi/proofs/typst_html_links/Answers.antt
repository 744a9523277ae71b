use Rattle.typst_html_ffi.proofs.typst_html_links.Goals as goal

pub returns : goal.returns
returns c = let reply = c.reply_to_page.ensures in (reply.answered, reply.kept)
