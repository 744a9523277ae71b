use Rattle.std.proofs.Common.{◌≡◌, ◌++◌, [], ◌∷◌, OnOk, ap, ◌∙◌, chars, map, subst}
use Rattle.html_names_core.proofs.Lists.{chars_ascii}
use Rattle.html_dom_tree.specs.{Tree.{text_node}, Views.{node_view}}
use Rattle.html_flow_convert.proofs.convert.push_literal.Goals as goal

pub returns : goal.returns
returns c =
    let kept = ap chars c.in_ok-from_str.ensures.ok ∙ chars_ascii c.args.text.now c.requires in
    subst (λ t. OnOk c.push_string.result (map node_view c.push_string.new.nodes.items
    ≡ map node_view c.args.nodes.now.items ++ text_node t c.args.span.0 ∷ []))
    kept c.push_string.ensures
