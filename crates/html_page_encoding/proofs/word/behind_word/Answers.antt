use Rattle.std.proofs.Common.{sym, ap, ◌∙◌, Some}
use Rattle.html_page_encoding.proofs.Words.{behind_found, behind_lost, behind_short}
use Rattle.html_page_encoding.specs.Classes.{is_word}
use Rattle.html_page_encoding.proofs.word.behind_word.Goals as goal

pub returns-then-bytes-word : goal.returns-then-bytes-word
returns-then-bytes-word c =
    sym (behind_short c.args.word.now c.args.bytes.now c.if-bytes-word.true)

pub returns-then-is_word : goal.returns-then-is_word
returns-then-is_word c =
    let word = c.args.word.now in
    let bytes = c.args.bytes.now in
    ap Some c.split_at.ensures.back ∙ sym (behind_found word bytes
    (ap (is_word word) (sym c.split_at.ensures.front)
    ∙ (sym c.is_word.ensures ∙ c.if-is_word.true)))

pub returns-else-is_word : goal.returns-else-is_word
returns-else-is_word c =
    let word = c.args.word.now in
    let bytes = c.args.bytes.now in
    sym (behind_lost word bytes (ap (is_word word) (sym c.split_at.ensures.front)
    ∙ (sym c.is_word.ensures ∙ c.if-is_word.false)))
