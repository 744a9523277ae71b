-- Content of an element that is not read as it is written.
use Rattle.std.specs.Prelude.{ℕ, Bool, true, false, not, ◌&&◌, ◌||◌, ◌==◌, List, [], ◌∷◌, codes, if◌then◌else◌, Option, Some, None}
use Rattle.html_names_core.specs.{Kinds.{is_foreign_self_closing, is_void}, Names.{listed_names, stands_in}}
use Rattle.html_dom_tree.specs.Tree.{Head, NodeView, tag_node, text_node, element_node, frame_node, NodesView, none, node}
use Rattle.html_page_names.specs.PageNames.{of}
use Rattle.html_page_names.specs.declared.kind.Kind.TheVariants as kind
use Rattle.html_page_nesting.specs.{ScriptTexts.{hides_end, joined_text}, WrittenTexts.{is_plain_text}}
use Rattle.html_page_nesting.specs.declared.misnesting.Misnesting.{Misnesting}
use Rattle.html_page_nesting.specs.declared.misnesting.Misnesting.TheVariants as why

abbrev pub is_plain : (pre_span : Bool) → NodeView → Bool
is_plain pre_span (tag_node t) = true
is_plain pre_span (text_node s span) = is_plain_text pre_span s
is_plain pre_span (element_node h kids) = false
is_plain pre_span (frame_node f) = false

-- whether the nodes are only texts that are written as they are
abbrev pub are_plain : (pre_span : Bool) → NodesView → Bool
are_plain pre_span none = true
are_plain pre_span (node n ns) = is_plain pre_span n && are_plain pre_span ns

-- whether the first child that is neither a tag nor an empty text begins with a line feed
abbrev pub begin_with_feed : NodesView → Bool
begin_with_feed none = false
begin_with_feed (node (tag_node t) ns) = begin_with_feed ns
begin_with_feed (node (text_node [] span) ns) = begin_with_feed ns
begin_with_feed (node (text_node (c ∷ cs) span) ns) = c == 10
begin_with_feed (node (element_node h kids) ns) = false
begin_with_feed (node (frame_node f) ns) = false

-- whether the start tag alone makes the element, and its end tag is ignored (13.2.6.4.4,
-- 13.2.6.4.7)
abbrev pub has_unread_end : (name : List ℕ) → Bool
has_unread_end name = (of kind.Leaf name || of kind.HeadLeaf name) && not (is_void name)

-- whether the content is raw text for the parser, but not when it is written (13.2.5.3): `iframe`,
-- `noembed`, `noframes`, `xmp`
abbrev pub is_raw_when_read : (name : List ℕ) → Bool
is_raw_when_read name = of kind.Raw name
    && not (of kind.ScriptOrStyle name || of kind.EscapableRaw name)

unfoldable pub is_listing : (name : List ℕ) → Bool
is_listing name = stands_in (listed_names (codes "listing")) name

-- the rule that the content of an element breaks, if the rules of HTML apply to the element
abbrev pub content_misnesting : Head → NodesView → Option Misnesting
content_misnesting h kids = if is_foreign_self_closing h.name then Some why.StaysOpen
    else (if has_unread_end h.name then Some why.UnreadEnd
    else (if is_raw_when_read h.name && not (are_plain h.pre_span kids) then Some why.RawText
    else (if is_listing h.name && begin_with_feed kids then Some why.FirstLineFeed
    else (if of kind.Script h.name && hides_end (joined_text kids)
    then Some why.ScriptComment else None))))
