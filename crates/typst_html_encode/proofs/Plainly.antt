-- Plain writing puts no indent: the tree stays as it is.
use Rattle.std.proofs.{Common.{◌≡◌, ℕ, ◌+◌, Bool, true, false, refl, ap, ◌∙◌}, lemmas.Bool.{false≢true}}
use Rattle.std.specs.Prelude.{if◌then◌else◌}
use Rattle.html_names_core.specs.Kinds.{is_raw, is_escapable_raw}
use Rattle.html_dom_tree.specs.Tree.{Head, tag_node, text_node, element_node, frame_node, NodesView, none, node, ElementView}
use Rattle.typst_html_encode.specs.Content.{by_kind}
use Rattle.typst_html_encode.specs.Indented.{node_layout, nodes_layout, content_layout, NodeEndsWell, NodesEndWell, ElementEndsWell}
use Rattle.typst_html_encode.specs.{Layout.{wants_pretty_around}, Text.{ends_at_once}}
use Rattle.typst_html_encode.specs.declared.{content.ContentKind.TheVariants.{Raw, EscapableRaw, Nodes}, layout.Margin.{Margin}}

-- the margin of plain writing on a level
abbrev pub shut : (level : ℕ) → Margin
shut level = record { pretty = false; level = level }

stays_by : (ends raw escapable : Bool) (ns ms : NodesView) → ms ≡ ns →
    (if ends then ns else by_kind (if raw then Raw
    else (if escapable then EscapableRaw else Nodes)) ns ns ms) ≡ ns
stays_by true raw escapable ns ms same = refl
stays_by false true escapable ns ms same = refl
stays_by false false true ns ms same = refl
stays_by false false false ns ms same = same

pub children_stay : (ns : NodesView) (due : Bool) (level : ℕ) →
    nodes_layout due (shut level) ns ≡ ns
unfolding node_layout nodes_layout
children_stay none due level = refl
children_stay (node (tag_node t) ns) due level = ap (node (tag_node t)) (children_stay ns due level)
children_stay (node (text_node s span) ns) due level =
    ap (node (text_node s span)) (children_stay ns false level)
children_stay (node (element_node h kids) ns) due level =
    let below = stays_by (ends_at_once h) (is_raw h.name) (is_escapable_raw h.name) kids
    (nodes_layout true (shut (level + 1)) kids) (children_stay kids true (level + 1)) in
    ap (λ ks. node (element_node h ks) (nodes_layout (wants_pretty_around h) (shut level) ns)) below
    ∙ ap (node (element_node h kids)) (children_stay ns (wants_pretty_around h) level)
children_stay (node (frame_node b) ns) due level =
    ap (node (frame_node b)) (children_stay ns false level)

pub plain_stays : (h : Head) (ns : NodesView) → content_layout (shut 0) h ns ≡ ns
plain_stays h ns =
    stays_by (ends_at_once h) (is_raw h.name) (is_escapable_raw h.name) ns
    (nodes_layout true (shut 0) ns) (children_stay ns true 0)

all_end_plainly : (ns : NodesView) → NodesEndWell false ns
unfolding NodeEndsWell NodesEndWell
all_end_plainly none = tt
all_end_plainly (node (tag_node t) ns) = (tt, all_end_plainly ns)
all_end_plainly (node (text_node s span) ns) = (tt, all_end_plainly ns)
all_end_plainly (node (element_node h kids) ns) =
    ((λ r e. absurd (false≢true e), all_end_plainly kids), all_end_plainly ns)
all_end_plainly (node (frame_node b) ns) = (tt, all_end_plainly ns)

pub ends_plainly : (e : ElementView) → ElementEndsWell false e
unfolding NodeEndsWell
ends_plainly e = (λ r f. absurd (false≢true f), all_end_plainly e.1)
