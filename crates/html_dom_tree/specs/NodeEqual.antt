-- Equality of trees, decided by their views.
use Rattle.std.specs.Prelude.{ℕ, List, Option, Bool}
use native.Mathlib.Decide.{ℕ_discrete}
use mathlib.Core.Bool.{Bool-discrete}
use mathlib.Core.HLevel.{×_discrete}
use Rattle.std.proofs.Common.{ap}
pub use Rattle.html_names_core.specs.Equal.{same, same_decides, same_equiv, option_discrete, text_discrete, pairs_discrete}
pub use Rattle.html_dom_tree.specs.FrameEqual.{tag_discrete, html_frame_discrete}
use Rattle.html_dom_tree.specs.Tree.{TextPair, Head, NodeView, NodeView-discrete, NodesView, NodesView-discrete, ElementView}

-- an element without its children, as a tuple
abbrev Parts : Type 0
Parts = List ℕ × (List TextPair × (List TextPair × (Option ℕ × (ℕ × Bool))))

abbrev parts : Head → Parts
parts h = (h.name, (h.attrs, (h.css, (h.parent, (h.span, h.pre_span)))))

abbrev of_parts : Parts → Head
of_parts p = record {
  name = p.0;
  attrs = p.1.0;
  css = p.1.1.0;
  parent = p.1.1.1.0;
  span = p.1.1.1.1.0;
  pre_span = p.1.1.1.1.1;
}

parts_discrete : Discrete Parts
parts_discrete =
    ×_discrete text_discrete (×_discrete pairs_discrete (×_discrete pairs_discrete
    (×_discrete (option_discrete ℕ_discrete) (×_discrete ℕ_discrete Bool-discrete))))

head_discrete : Discrete Head
head_discrete g h = elim (parts_discrete (parts g) (parts h))
    [ yes same_parts ↦ yes (ap of_parts same_parts) | no other ↦ no (λ e. other (ap parts e)) ]

pub node_discrete : Discrete NodeView
node_discrete =
    NodeView-discrete tag_discrete text_discrete ℕ_discrete head_discrete html_frame_discrete

nodes_discrete : Discrete NodesView
nodes_discrete =
    NodesView-discrete tag_discrete text_discrete ℕ_discrete head_discrete html_frame_discrete

pub element_discrete : Discrete ElementView
element_discrete = ×_discrete head_discrete nodes_discrete
