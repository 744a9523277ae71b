use Rattle.std.proofs.{Common.{◌++◌, map, refl, sym, ap, ◌∙◌, append-nil}, StrCases.{chars_of_empty}, lemmas.Result.{on_ok_weaker}}
use Rattle.html_dom_tree.specs.Views.{node_view}
use Rattle.html_flow_convert.{proofs.Stretching.{stretch_of_text, no_length}, specs.Pieces.{piece_node}}
use Rattle.html_flow_convert.proofs.pieces.push_stretch.Goals as goal

pub returns-then-is_empty-clause-added : goal.returns-then-is_empty-clause-added
returns-then-is_empty-clause-added c =
    let none = no_length c.args.text.now (sym c.is_empty.ensures ∙ c.if-is_empty.true) in
    rw (chars_of_empty c.args.text.now none, append-nil) refl

pub returns-clause-added : goal.returns-clause-added
returns-clause-added c =
    let text = c.args.text.now in
    let old = map node_view c.args.nodes.now.items in
    let filled = sym c.is_empty.ensures ∙ c.if-is_empty.false in
    on_ok_weaker c.push_copy.result
    (λ e. e ∙ ap (λ ps. old ++ map (piece_node c.args.span.0) ps)
    (sym (stretch_of_text text c.utf8.text filled)))
    c.push_copy.ensures.added
