use Rattle.std.{proofs.Common.{not, ◌&&◌, chars, sym, ap, ◌∙◌}, specs.List.{list_all}}
use Rattle.html_names_core.specs.Characters.{is_tag_char}
use Rattle.html_page_read.proofs.Words.{empty_chars}
use Rattle.html_page_read.proofs.draft.is_tag_name.Goals as goal

pub returns-then-not-is_empty : goal.returns-then-not-is_empty
returns-then-not-is_empty c =
    let t = c.args.name.now in
    c.are_tag_chars.ensures ∙ sym (ap (λ b. not b && list_all is_tag_char (chars t))
    (empty_chars t c.utf8.name ∙ sym c.if-not-is_empty.ensures))

pub returns-else-not-is_empty : goal.returns-else-not-is_empty
returns-else-not-is_empty c =
    let t = c.args.name.now in
    ap not c.if-not-is_empty.false ∙ sym (ap (λ b. not b && list_all is_tag_char (chars t))
    (empty_chars t c.utf8.name ∙ sym c.if-not-is_empty.ensures))
