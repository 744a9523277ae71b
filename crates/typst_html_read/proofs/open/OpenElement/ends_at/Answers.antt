use Rattle.std.proofs.{Common.{◌≡◌, ◌≤◌, eqb, get_or, length, sym, ap, ◌∙◌, subst, arith}, lemmas.List.{get_or_default, get_or_past}}
use Rattle.html_names_core.specs.Characters.{IsOf, is_tag_char}
use Rattle.html_text.proofs.TagNames.{name_is}
use Rattle.typst_html_read.proofs.open.OpenElement.ends_at.Goals as goal

pub returns-then-place-name : goal.returns-then-place-name
returns-then-place-name c =
    let bytes = c.as_bytes-name.result.now in
    let tag = c.args.self.now.element.tag in
    let own : bytes ≡ tag = c.as_bytes-name.ensures.value
    ∙ (name_is c.resolve.result.now c.resolve.utf8
    (subst (IsOf is_tag_char) (sym c.resolve.ensures.text) c.resolve.ensures.valid)
    ∙ c.resolve.ensures.text) in
    ap (eqb c.args.c) (c.from.ensures
    ∙ (get_or_default bytes c.args.place 0 62 (omega (arith, c.if-place-name.true))
    ∙ ap (λ l. get_or l c.args.place 62) own))

pub returns-else-place-name : goal.returns-else-place-name
returns-else-place-name c =
    let bytes = c.as_bytes-name.result.now in
    let tag = c.args.self.now.element.tag in
    let own : bytes ≡ tag = c.as_bytes-name.ensures.value
    ∙ (name_is c.resolve.result.now c.resolve.utf8
    (subst (IsOf is_tag_char) (sym c.resolve.ensures.text) c.resolve.ensures.valid)
    ∙ c.resolve.ensures.text) in
    let past : length tag ≤ c.args.place = omega (arith, ap length own, c.if-place-name.false) in
    ap (eqb c.args.c) (sym (get_or_past tag c.args.place 62 past))
