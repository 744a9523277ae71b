use Rattle.std.proofs.{Common.{◌≡◌, [], ◌∷◌, ◌++◌, sym, ap, ◌∙◌, length, map, rules}, lemmas.List.{length-map, map_push}}
use Rattle.html_names_table.proofs.NameTables.{adds}
use Rattle.html_names_table.proofs.name_table.numbering.Numbering.add.Goals as goal

pub returns-in-Ok-clause-number : goal.returns-in-Ok-clause-number
returns-in-Ok-clause-number g c =
    let text = g.N.Numbered.text in
    let items = c.self.inside.kept.items in
    let count : c.len-number.result ≡ length items = search (rules, c.len-number.ensures) in
    adds _ _ _ _
    (ap (map text) (c.push_reserved.ensures.items
    ∙ ap (λ names. names ++ c.args.name ∷ []) c.reserve.ensures.items)
    ∙ (map_push text items c.args.name
    ∙ ap (λ names. names ++ text c.args.name ∷ []) c.self.view_is))
    (count ∙ (sym (length-map items text) ∙ ap length c.self.view_is)) c.requires
