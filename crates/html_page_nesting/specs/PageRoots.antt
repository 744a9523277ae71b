-- The root of a page, which a parser would complete or reorder (HTML Standard 13.2.6.4.2 to
-- 13.2.6.4.6 and 13.2.6.4.19 to 13.2.6.4.23).
use Rattle.std.specs.Prelude.{ℕ, Bool, true, false, ◌&&◌, List, if◌then◌else◌}
use Rattle.html_dom_tree.specs.Tree.{NodeView, tag_node, text_node, element_node, frame_node, NodesView, none, node, ElementView}
use Rattle.html_page_names.specs.PageNames.{of}
use Rattle.html_page_names.specs.declared.kind.Kind.TheVariants as kind
use Rattle.html_page_nesting.specs.{WrittenTexts.{is_empty, is_white}, declared.page.Stage.{Stage}}
use Rattle.html_page_nesting.specs.declared.page.Stage.TheVariants as stage

-- whether a node is not written
abbrev pub is_unwritten : NodeView → Bool
is_unwritten (tag_node t) = true
is_unwritten (text_node s span) = is_empty s
is_unwritten (element_node h kids) = false
is_unwritten (frame_node f) = false

abbrev pub is_white_node : NodeView → Bool
is_white_node (tag_node t) = true
is_white_node (text_node s span) = is_white s
is_white_node (element_node h kids) = false
is_white_node (frame_node f) = false

abbrev pub is_element_of : (test : List ℕ → Bool) → NodeView → Bool
is_element_of test (tag_node t) = false
is_element_of test (text_node s span) = false
is_element_of test (element_node h kids) = test h.name
is_element_of test (frame_node f) = false

-- the stage of a page behind a node: a page has one `head`, optional white space, and one `body`
abbrev pub stage_behind : Stage → NodeView → Stage
stage_behind stage.First n = if is_element_of (of kind.Head) n then stage.BehindHead
    else (if is_unwritten n then stage.First else stage.Other)
stage_behind stage.BehindHead n = if is_element_of (of kind.Body) n then stage.BehindBody
    else (if is_white_node n then stage.BehindHead else stage.Other)
stage_behind stage.BehindBody n = if is_unwritten n then stage.BehindBody else stage.Other
stage_behind stage.Other n = stage.Other

abbrev pub stage_behind_nodes : Stage → NodesView → Stage
stage_behind_nodes s none = s
stage_behind_nodes s (node n ns) = stage_behind_nodes (stage_behind s n) ns

abbrev pub is_complete : Stage → Bool
is_complete stage.BehindBody = true
is_complete s = false

-- whether a root is an `html` that holds exactly these
abbrev pub is_page : ElementView → Bool
is_page e = of kind.Html e.0.name && is_complete (stage_behind_nodes stage.First e.1)
