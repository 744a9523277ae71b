-- The text of a tree, plain and pretty: HTML Standard 13.1, with the choices of this project.
use Rattle.std.specs.Prelude.{ℕ, Bool, true, false, ◌||◌, ◌&&◌, ◌==◌, List, [], ◌∷◌, ◌++◌, if◌then◌else◌, codes}
use Rattle.html_names_core.specs.{Characters.{is_element_text_char, is_value_char}, Kinds.{is_void, is_foreign_self_closing}}
use Rattle.html_dom_tree.specs.Tree.{TextPair, Head, NodeView, tag_node, text_node, element_node, frame_node, NodesView, none, node, ElementView}
use Rattle.typst_html_encode.specs.{Content.{content_kind, by_kind}, FrameWriters.{Frames}}
use Rattle.typst_html_encode.specs.Layout.{deeper, margin_inside, indent_where, feed_where, has_indent, due_after, raw_text, frame_text}
use Rattle.typst_html_encode.specs.{Reader.{drops_feed}, References.{reference_to}, declared.escape.Escaping.{Escaping}}
use Rattle.typst_html_encode.specs.declared.escape.Escaping.TheVariants as escaping
use Rattle.typst_html_encode.specs.declared.{layout.Margin.{Margin}, options.HtmlOptions.{HtmlOptions}}

-- the character is written as it is; others are written as references
abbrev pub stands_as_is : Escaping → ℕ → Bool
stands_as_is escaping.Text c = is_element_text_char c
stands_as_is escaping.Reference c = false
stands_as_is escaping.Value c = is_value_char c
stands_as_is escaping.Raw c = true

abbrev pub char_text : Escaping → ℕ → List ℕ
char_text e c = if stands_as_is e c then c ∷ [] else reference_to c

abbrev pub escaped_text : Escaping → List ℕ → List ℕ
escaped_text e [] = []
escaped_text e (c ∷ cs) = char_text e c ++ escaped_text e cs

-- texts directly under an element with the flag `pre_span` are written as references alone
abbrev pub escaping_of : (pre_span : Bool) → Escaping
escaping_of true = escaping.Reference
escaping_of false = escaping.Text

-- the text of a value: nothing if the value is empty
abbrev pub value_text : List ℕ → List ℕ
value_text [] = []
value_text (c ∷ cs) = codes "=\"" ++ (escaped_text escaping.Value (c ∷ cs) ++ codes "\"")

abbrev pub attrs_text : List TextPair → List ℕ
attrs_text [] = []
attrs_text (p ∷ ps) = codes " " ++ (p.0 ++ (value_text p.1 ++ attrs_text ps))

abbrev pub tag_close : List ℕ → List ℕ
tag_close name = if is_foreign_self_closing name then codes "/>" else codes ">"

abbrev pub start_tag_text : Head → List ℕ
start_tag_text h = codes "<" ++ (h.name ++ (attrs_text h.attrs ++ tag_close h.name))

abbrev pub end_tag_text : (name : List ℕ) → List ℕ
end_tag_text name = codes "</" ++ (name ++ codes ">")

-- the element is its start tag alone
abbrev pub ends_at_once : Head → Bool
ends_at_once h = is_foreign_self_closing h.name || is_void h.name

-- the first child that is neither a tag nor an empty text begins with LF or CR
abbrev pub begins_with_feed : NodesView → Bool
begins_with_feed none = false
begins_with_feed (node (tag_node t) ns) = begins_with_feed ns
begins_with_feed (node (text_node [] span) ns) = begins_with_feed ns
begins_with_feed (node (text_node (c ∷ cs) span) ns) = (c == 10) || (c == 13)
begins_with_feed (node (element_node h kids) ns) = false
begins_with_feed (node (frame_node b) ns) = false

-- a line feed, if a reader would drop the one that the text begins with
abbrev pub feed_text : Head → NodesView → List ℕ
feed_text h ns = if drops_feed h.name && begins_with_feed ns then codes "\n" else []

-- the texts among the nodes, joined
abbrev pub node_raw_text : NodeView → List ℕ
node_raw_text (tag_node t) = []
node_raw_text (text_node s span) = s
node_raw_text (element_node h kids) = []
node_raw_text (frame_node b) = []

abbrev pub nodes_raw_text : NodesView → List ℕ
nodes_raw_text none = []
nodes_raw_text (node n ns) = node_raw_text n ++ nodes_raw_text ns

unfoldable mutual
  -- the text of a node at its margin
  pub node_text : Frames → (pre_span : Bool) → Margin → NodeView → List ℕ
  node_text frames pre_span margin (tag_node t) = []
  node_text frames pre_span margin (text_node s span) = escaped_text (escaping_of pre_span) s
  node_text frames pre_span margin (element_node h ns) =
      start_tag_text h ++ (if ends_at_once h then [] else (feed_text h ns
      ++ (by_kind (content_kind h.name)
      (raw_text margin h (nodes_raw_text ns))
      (escaped_text escaping.Text (nodes_raw_text ns))
      (nodes_text frames h.pre_span true (margin_inside margin h ns) ns)
      ++ end_tag_text h.name)))
  node_text frames pre_span margin (frame_node b) = frame_text margin (frames b margin.pretty)

  -- the text of the children of an element at that margin, and of the indent before its end tag
  pub nodes_text : Frames → (pre_span due : Bool) → Margin → NodesView → List ℕ
  nodes_text frames pre_span due margin none = indent_where margin.pretty margin.level
  nodes_text frames pre_span due margin (node n ns) =
      indent_where (margin.pretty && has_indent due n) (deeper margin).level
      ++ (node_text frames pre_span (deeper margin) n
      ++ nodes_text frames pre_span (due_after due n) margin ns)

abbrev pub element_text : Frames → Margin → ElementView → List ℕ
element_text frames margin e = node_text frames false margin (element_node e.0 e.1)

abbrev pub plain_options : HtmlOptions
plain_options = record { pretty = false }

abbrev pub pretty_options : HtmlOptions
pretty_options = record { pretty = true }

-- the margin of a root
abbrev pub root_margin : HtmlOptions → Margin
root_margin options = record { pretty = options.pretty; level = 0 }

-- the whole text of a document with this root
abbrev pub document_text : Frames → HtmlOptions → ElementView → List ℕ
document_text frames options e =
    codes "<!DOCTYPE html>"
    ++ (indent_where options.pretty 0 ++ (element_text frames (root_margin options) e
    ++ feed_where options.pretty))
