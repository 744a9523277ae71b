use Rattle.std.proofs.Common.{[], ◌∷◌, ap, chars, refl, ◌∙◌}
use Rattle.html_names_core.proofs.Lists.{chars_ascii}
use Rattle.html_dom_tree.specs.Tree.{text_node}
use Rattle.html_clean_nodes.proofs.made.line_feed.Goals as goal

pub returns : goal.returns
returns c = c.text.ensures ∙ ap (λ t. text_node t 0)
    (ap chars c.in_ok-from_str.ensures.ok ∙ chars_ascii (10 ∷ []) refl)
