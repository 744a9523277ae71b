-- The number and the span of each fault, and all faults of a tree, in the order in which writing
-- finds them. Pretty writing matters to frames alone: their writer receives whether it is on at the
-- frame.
use Rattle.std.specs.Prelude.{◌≡◌, ℕ, Bool, true, false, not, ◌||◌, ◌&&◌, ◌==◌, List, [], ◌∷◌, ◌++◌, if◌then◌else◌, Option, Some, None}
use Rattle.html_names_core.specs.Characters.{is_text_char}
use Rattle.html_names_core.specs.NameFaults as names
use Rattle.html_values_css.specs.CastFaults as casts
use Rattle.html_flow_faults.specs.ConstructFaults as constructs
use Rattle.html_dom_tree.specs.Tree.{TextPair, Head, NodeView, tag_node, text_node, element_node, frame_node, NodesView, none, node, ElementView}
use Rattle.html_dom_tree.specs.declared.span.Span.{Span}
use Rattle.html_text.specs.ClosingTags.{holds_closing}
use Rattle.typst_html_encode.specs.{Content.{content_kind, by_kind}, FrameWriters.{Frames}, Layout.{is_pretty_inside}}
use Rattle.typst_html_encode.specs.{Text.{nodes_raw_text, ends_at_once, escaping_of}, declared.escape.Escaping.{Escaping}}
use Rattle.typst_html_encode.specs.declared.escape.Escaping.TheVariants as escaping
use Rattle.typst_html_encode.specs.declared.fault.ExportFault.{ExportFault}
use Rattle.typst_html_encode.specs.declared.fault.ExportFault.TheVariants as fault
use Rattle.typst_html_encode.specs.declared.options.HtmlOptions.{HtmlOptions}

abbrev pub number_of : ExportFault → ℕ
number_of fault.OutOfMemory = 0
number_of (fault.TooDeep span) = 8
number_of (fault.NotAlone tag span) = 9
number_of (fault.Footnotes spans) = 10
number_of (fault.Unencodable c span) = 11
number_of (fault.VoidChildren span) = 12
number_of (fault.RawChild span) = 13
number_of (fault.RawClosing span) = 14
number_of (fault.FrameRefused span) = 15
number_of (fault.Name f) = names.number_of f
number_of (fault.Cast f) = casts.number_of f
number_of (fault.Construct f) = constructs.number_of f

abbrev pub first_span : List Span → ℕ
first_span [] = 0
first_span (span ∷ spans) = span.0

-- the span of the fault: that of the first of several footnotes or arguments; 0 for out of memory,
-- a name or a cast
abbrev pub span_of : ExportFault → ℕ
span_of fault.OutOfMemory = 0
span_of (fault.TooDeep span) = span.0
span_of (fault.NotAlone tag span) = span.0
span_of (fault.Footnotes spans) = first_span spans.items
span_of (fault.Unencodable c span) = span.0
span_of (fault.VoidChildren span) = span.0
span_of (fault.RawChild span) = span.0
span_of (fault.RawClosing span) = span.0
span_of (fault.FrameRefused span) = span.0
span_of (fault.Name f) = 0
span_of (fault.Cast f) = 0
span_of (fault.Construct f) = constructs.span_of f

abbrev pub is_reference : Escaping → Bool
is_reference escaping.Reference = true
is_reference _ = false

-- the character cannot be written: it is no text character, or it is a carriage return in a text of
-- references alone, which a reader may turn into a line feed
abbrev pub is_bad : Escaping → ℕ → Bool
is_bad e c = not (is_text_char c) || (is_reference e && (c == 13))

abbrev pub char_faults : Escaping → (span : ℕ) → ℕ → List ExportFault
char_faults e span c = if is_bad e c then fault.Unencodable c (record { 0 = span }) ∷ [] else []

abbrev pub text_faults : Escaping → (span : ℕ) → List ℕ → List ExportFault
text_faults e span [] = []
text_faults e span (c ∷ cs) = char_faults e span c ++ text_faults e span cs

-- the faults of the values, in order
abbrev pub attrs_faults : (span : ℕ) → List TextPair → List ExportFault
attrs_faults span [] = []
attrs_faults span (p ∷ ps) = text_faults escaping.Value span p.1 ++ attrs_faults span ps

-- a void or self-closing element must not have a child, not even a tag
abbrev pub void_faults : (span : ℕ) → NodesView → List ExportFault
void_faults span none = []
void_faults span (node n ns) = fault.VoidChildren (record { 0 = span }) ∷ []

-- a child of a raw or escapable raw element must be a text or a tag
abbrev pub node_raw_faults : Escaping → NodeView → List ExportFault
node_raw_faults e (tag_node t) = []
node_raw_faults e (text_node s span) = text_faults e span s
node_raw_faults e (element_node h kids) = fault.RawChild (record { 0 = h.span }) ∷ []
node_raw_faults e (frame_node b) = fault.RawChild (record { 0 = b.span }) ∷ []

abbrev pub nodes_raw_faults : Escaping → NodesView → List ExportFault
nodes_raw_faults e none = []
nodes_raw_faults e (node n ns) = node_raw_faults e n ++ nodes_raw_faults e ns

abbrev pub closing_faults : Head → NodesView → List ExportFault
closing_faults h ns = if holds_closing h.name (nodes_raw_text ns)
    then fault.RawClosing (record { 0 = h.span }) ∷ [] else []

-- the faults of the content of a raw element; the last is that its text holds a closing tag of the
-- element
abbrev pub raw_content_faults : Head → NodesView → List ExportFault
raw_content_faults h ns = nodes_raw_faults escaping.Raw ns ++ closing_faults h ns

-- the fault of a frame that its writer refuses
abbrev pub frame_faults : (span : ℕ) → Option (List ℕ) → List ExportFault
frame_faults span (Some text) = []
frame_faults span None = fault.FrameRefused (record { 0 = span }) ∷ []

unfoldable mutual
  pub node_faults : Frames → (pre_span pretty : Bool) → NodeView → List ExportFault
  node_faults frames pre_span pretty (tag_node t) = []
  node_faults frames pre_span pretty (text_node s span) = text_faults (escaping_of pre_span) span s
  node_faults frames pre_span pretty (element_node h ns) =
      attrs_faults h.span h.attrs ++ (if ends_at_once h then void_faults h.span ns
      else by_kind (content_kind h.name)
      (raw_content_faults h ns)
      (nodes_raw_faults escaping.Text ns)
      (nodes_faults frames h.pre_span (pretty && is_pretty_inside h ns) ns))
  node_faults frames pre_span pretty (frame_node b) = frame_faults b.span (frames b pretty)

  pub nodes_faults : Frames → (pre_span pretty : Bool) → NodesView → List ExportFault
  nodes_faults frames pre_span pretty none = []
  nodes_faults frames pre_span pretty (node n ns) =
      node_faults frames pre_span pretty n ++ nodes_faults frames pre_span pretty ns

abbrev pub element_faults : Frames → (pretty : Bool) → ElementView → List ExportFault
element_faults frames pretty e = node_faults frames false pretty (element_node e.0 e.1)

-- the faults of a document with this root
abbrev pub document_faults : Frames → HtmlOptions → ElementView → List ExportFault
document_faults frames options e = element_faults frames options.pretty e

-- the list begins with the fault
abbrev pub BeginsWith : ExportFault → List ExportFault → Type 0
BeginsWith f fs = (rest : List ExportFault) × (fs ≡ f ∷ rest)

-- the reported fault is the first of the list, unless memory ran out
abbrev pub IsFirst : ExportFault → List ExportFault → Type 0
IsFirst fault.OutOfMemory fs = Unit {0}
IsFirst f fs = BeginsWith f fs
