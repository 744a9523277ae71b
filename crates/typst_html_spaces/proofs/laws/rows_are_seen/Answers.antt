use Rattle.std.proofs.Common.{refl}
use lib.Utf8.{encode}
use Rattle.html_names_core.specs.{Characters.{is_ignorable}, Displays.{default_display}, Kinds.{is_replaced, is_raw, is_escapable_raw}}
use Rattle.html_names_core.specs.Names.{stands_in}
use Rattle.html_dom_tree.specs.{PlainTree.{nodes_normal}, Styled.{styled_node}}
use Rattle.html_dom_shown.specs.Collapsing.{preserves, has_border}
use Rattle.html_flow_convert.specs.{BareSpaces.{is_border_element, is_entered, node_things, bare_after}, Converted.{item_nodes}}
use Rattle.html_flow_convert.specs.{LoneNode.{lone_node, node_list}, Pieces.{pieces_after}, Protected.{node_by_answers}}
use Rattle.html_flow_convert.specs.Runs.{blank_front, after_front}
use Rattle.typst_html_spaces.specs.{ItemText.{item_pieces}, PlainFlow.{is_plain_name, is_plain_item}}
use Rattle.typst_html_spaces.proofs.laws.rows_are_seen.Goals as goal

pub returns : goal.returns
unfolding is_ignorable default_display is_replaced is_raw is_escapable_raw stands_in nodes_normal
    styled_node preserves has_border is_border_element is_entered node_things bare_after pieces_after
    node_by_answers blank_front after_front item_nodes lone_node node_list item_pieces is_plain_name
    is_plain_item lib.Utf8.encode
returns c = record { lines = refl; blocks = refl; lists_and_tables = refl; others = refl }
