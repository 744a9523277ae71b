-- The first `body` of a normal form.
use Rattle.std.proofs.Common.{◌≡◌, ℕ, Bool, true, false, List, [], ◌∷◌, bytes_eq, codes, Some, refl, ◌∙◌}
use Rattle.std.specs.Prelude.{if◌then◌else◌, option_map}
use Rattle.html_dom_tree.specs.PlainTree.{words, branch, Plains, no_plains, plain, put_words, nodes_normal}
use Rattle.html_dom_tree.specs.Tree.{NodesView, tag_node, text_node, element_node, frame_node, none, node}
use Rattle.html_dom_shown.specs.Bodies.{body_children, body_in}

pub past_words : (s : List ℕ) (ps : Plains) → body_in (put_words s ps) ≡ body_in ps
past_words [] ps = refl
past_words (c ∷ cs) no_plains = refl
past_words (c ∷ cs) (plain (words t) ps) = refl
past_words (c ∷ cs) (plain (branch name attrs kids) ps) = refl

normal_by_name : (b : Bool) (kids ns : NodesView) →
    body_in (nodes_normal ns) ≡ option_map nodes_normal (body_children ns) →
    (if b then Some (nodes_normal kids) else body_in (nodes_normal ns))
    ≡ option_map nodes_normal (if b then Some kids else body_children ns)
normal_by_name true kids ns e = refl
normal_by_name false kids ns e = e

pub body_in_normal : (ns : NodesView) →
    body_in (nodes_normal ns) ≡ option_map nodes_normal (body_children ns)
unfolding nodes_normal
body_in_normal none = refl
body_in_normal (node (tag_node t) ns) = body_in_normal ns
body_in_normal (node (text_node s span) ns) = past_words s (nodes_normal ns) ∙ body_in_normal ns
body_in_normal (node (element_node h kids) ns) =
    normal_by_name (bytes_eq h.name (codes "body")) kids ns (body_in_normal ns)
body_in_normal (node (frame_node b) ns) = body_in_normal ns
