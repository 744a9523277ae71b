use Rattle.typst_html_ffi.proofs.typst_html_document.Goals as goal

pub returns : goal.returns
returns c =
    let made = c.text_of_settings-made.ensures in
    let reply = c.reply_with_document.ensures in
    (reply.answered _ _ made.text made.dead, reply.kept)
