-- The open elements, innermost first, what is in scope, and the insertion mode, which follows from
-- them (HTML Standard 13.2.4).
use Rattle.std.specs.List.{list_any}
use Rattle.std.specs.Prelude.{ℕ, zero, suc, Bool, true, false, not, ◌&&◌, ◌||◌, ◌==◌, List, [], ◌∷◌, ◌++◌, length, codes, if◌then◌else◌, bytes_eq, Option, Some, None, unwrap_or}
use Rattle.html_dom_tree.specs.Attributes.{union}
use Rattle.html_dom_tree.specs.Tree.{TextPair, Head, NodeView, tag_node, text_node, element_node, frame_node, NodesView, none, node, ElementView, with_last}
use Rattle.html_page_names.specs.{ForeignNames.{is_encoding, is_html_encoding, lowered}, PageNames.{is, of}}
use Rattle.html_page_names.specs.declared.kind.Kind.TheVariants as kind
use Rattle.html_page_stack.specs.declared.modes.{Destination.{Destination}, Mode.{Mode}, Scope.{Scope}, Space.{Space}}
use Rattle.html_page_stack.specs.declared.modes.Destination.TheVariants as to
use Rattle.html_page_stack.specs.declared.modes.Mode.TheVariants.{BeforeHtml, BeforeHead, InHead, InHeadNoscript, AfterHead, InBody, InText, InTable, InCaption, InColumns, InSection, InRow, InCell, InTemplate, InFrameset}
use Rattle.html_page_stack.specs.declared.modes.Scope.TheVariants.{General, ListItem, Button, Table}
use Rattle.html_page_stack.specs.declared.modes.Space.TheVariants.{Html, Svg, MathMl, Removed}

-- an open element, and its children so far
pub record OpenElement : Type 0 where
  pub head : Head
  pub space : Space
  -- where it stands once it is complete
  pub destination : Destination
  pub children : NodesView
  -- what stands right behind it, if it is a part of a table right in a `template`
  pub behind : NodesView

abbrev pub is_html : Space → Bool
is_html Html = true
is_html space = false

abbrev pub is_removed : Space → Bool
is_removed Removed = true
is_removed space = false

-- whether it is the namespace of SVG or MathML
abbrev pub is_foreign : Space → Bool
is_foreign Svg = true
is_foreign MathMl = true
is_foreign space = false

-- whether the element is one of HTML whose name passes the test
abbrev pub is_of : (test : List ℕ → Bool) → OpenElement → Bool
is_of test o = is_html o.space && test o.head.name

-- whether the element is one of HTML with that name, and has that span
abbrev pub is_opened : (name : List ℕ) (span : ℕ) → OpenElement → Bool
is_opened name span o = is_of (is name) o && (o.head.span == span)

-- whether the element is one of SVG or MathML with that name, in lowercase
abbrev pub is_foreign_of : (name : List ℕ) → OpenElement → Bool
is_foreign_of name o = is_foreign o.space && bytes_eq (lowered o.head.name) name

-- whether the current node is a goal
abbrev pub at : (goal : OpenElement → Bool) → List OpenElement → Bool
at goal [] = false
at goal (o ∷ os) = goal o

-- whether the current node is an element of HTML whose name passes the test
abbrev pub is_at : (test : List ℕ → Bool) → List OpenElement → Bool
is_at test = at (is_of test)

-- whether it is a table, a section of it or a row: where such an element is the current node, what
-- a body's rules insert stands before the table (13.2.6.1, foster parenting)
abbrev pub is_table_context : OpenElement → Bool
is_table_context =
    is_of (λ n. of kind.Table n || (of kind.Section n || of kind.Tr n))

-- whether a text in it is judged as a whole by the rules of tables (13.2.6.4.9)
abbrev pub holds_table_text : OpenElement → Bool
holds_table_text o = is_table_context o || is_of (of kind.Template) o

-- the namespace of the current node
abbrev pub current_space : List OpenElement → Space
current_space [] = Html
current_space (o ∷ os) = o.space

-- whether the current node is an element of SVG or MathML
abbrev pub is_in_foreign : List OpenElement → Bool
is_in_foreign = at (λ o. not (is_html o.space))

-- whether a search from the current node outwards reaches a goal before a bound
abbrev pub reaches : (goal bound : OpenElement → Bool) → List OpenElement → Bool
reaches goal bound [] = false
reaches goal bound (o ∷ os) = goal o || (not (bound o) && reaches goal bound os)

-- whether any open element is one of HTML whose name passes the test
abbrev pub has : (test : List ℕ → Bool) → List OpenElement → Bool
has test = reaches (is_of test) (λ o. false)

-- whether an element of SVG or MathML bounds scopes, and is special
abbrev pub is_foreign_bound : Space → (name : List ℕ) → Bool
is_foreign_bound Svg name = of kind.SvgHtml name
is_foreign_bound MathMl name = of kind.MathText name || of kind.AnnotationXml name
is_foreign_bound space name = false

-- whether the attribute makes an `annotation-xml` hold HTML
abbrev pub says_html : TextPair → Bool
says_html a = is_encoding a.0 && is_html_encoding (lowered a.1)

-- whether its content is read as HTML: an element of HTML, or an HTML integration point (13.2.4.2)
abbrev pub holds_html_in : Space → OpenElement → Bool
holds_html_in Html o = true
holds_html_in Svg o = of kind.SvgHtml o.head.name
holds_html_in MathMl o = of kind.AnnotationXml o.head.name && list_any says_html o.head.attrs
holds_html_in Removed o = false

-- whether it is a MathML text integration point
abbrev pub holds_text_in : Space → OpenElement → Bool
holds_text_in MathMl o = of kind.MathText o.head.name
holds_text_in space o = false

-- whether start tags in it are read as HTML, but for few
abbrev pub holds_tags : OpenElement → Bool
holds_tags o = holds_html_in o.space o || holds_text_in o.space o

abbrev pub bounds_general : OpenElement → Bool
bounds_general o = is_of (of kind.BoundsScope) o || is_foreign_bound o.space o.head.name

abbrev pub bounds : Scope → OpenElement → Bool
bounds General o = bounds_general o
bounds ListItem o = is_of (of kind.BoundsList) o || bounds_general o
bounds Button o = is_of (of kind.Button) o || bounds_general o
bounds Table o = is_of (λ n. of kind.Html n || of kind.Table n || of kind.Template n) o

-- whether such an element is in scope: no other element that bounds the scope is inside it
abbrev pub in_scope : Scope → (test : List ℕ → Bool) → List OpenElement → Bool
in_scope scope test = reaches (is_of test) (bounds scope)

abbrev pub is_special : OpenElement → Bool
is_special o = is_of (of kind.Special) o || is_foreign_bound o.space o.head.name

-- whether such an element is open, with no special element inside it
abbrev pub is_near : (test : List ℕ → Bool) → List OpenElement → Bool
is_near test = reaches (is_of test) is_special

-- whether an element ends the search for an item: `address`, `div` and `p` do not (13.2.6.4.7,
-- start tags of `li`, `dd`, `dt`)
abbrev pub bounds_item : OpenElement → Bool
bounds_item o = is_special o && not (is_of (of kind.PassedByItems) o)

abbrev pub has_item : (test : List ℕ → Bool) → List OpenElement → Bool
has_item test = reaches (is_of test) bounds_item

-- the mode that an element of HTML sets
abbrev pub named_mode : (name : List ℕ) (below : List OpenElement) → Option Mode
named_mode name below = if of kind.Cell name then Some InCell
    else (if of kind.Section name then Some InSection
    else (if of kind.Tr name then Some InRow
    else (if of kind.Caption name then Some InCaption
    else (if of kind.Colgroup name then Some InColumns
    else (if of kind.Table name then Some InTable
    else (if of kind.Body name then Some InBody
    else (if of kind.Head name then Some InHead
    else (if of kind.Raw name then Some InText
    else (if of kind.Noscript name && is_at (of kind.Head) below then Some InHeadNoscript
    else (if of kind.Template name then Some InTemplate
    else (if of kind.Frameset name then Some InFrameset
    else None)))))))))))

-- whether any of the nodes is an element
abbrev pub has_elements : NodesView → Bool
has_elements none = false
has_elements (node (tag_node t) ns) = has_elements ns
has_elements (node (text_node text span) ns) = has_elements ns
has_elements (node (element_node h children) ns) = true
has_elements (node (frame_node f) ns) = has_elements ns

-- whether any of the nodes is an element whose name passes the test
abbrev pub hold_named : (test : List ℕ → Bool) → NodesView → Bool
hold_named test none = false
hold_named test (node (element_node h children) ns) = test h.name || hold_named test ns
hold_named test (node n ns) = hold_named test ns

-- the mode within `html`, outside of head and body
abbrev pub html_mode : NodesView → Mode
html_mode children = if has_elements children then AfterHead else BeforeHead

-- the mode in an element that sets none, given that around it: the head is never before it
abbrev pub mode_inside : Mode → Mode
mode_inside BeforeHead = AfterHead
mode_inside m = m

-- the insertion mode (13.2.4.1, "reset the insertion mode appropriately")
abbrev pub mode : List OpenElement → Mode
mode [] = BeforeHtml
mode (o ∷ os) = unwrap_or (if is_html o.space then named_mode o.head.name os else None)
    (if length os == 0 then html_mode o.children else mode_inside (mode os))

abbrev pub is_text : NodeView → Bool
is_text (text_node text span) = true
is_text n = false

-- whether the last of the nodes is a text
abbrev pub end_in_text : NodesView → Bool
end_in_text none = false
end_in_text (node n none) = is_text n
end_in_text (node n (node m ms)) = end_in_text (node m ms)

-- a text with another behind it
abbrev pub longer : (more : List ℕ) → NodeView → NodeView
longer more (text_node text span) = text_node (text ++ more) span
longer more n = n

abbrev pub with_longer_last : (more : List ℕ) → NodesView → NodesView
with_longer_last more none = none
with_longer_last more (node n none) = node (longer more n) none
with_longer_last more (node n (node m ms)) = node n (with_longer_last more (node m ms))

-- nodes and a text behind them, which joins the last if that is a text too (13.2.6.1, insert a
-- character)
abbrev pub joined : (text : List ℕ) (span : ℕ) → NodesView → NodesView
joined text span ns =
    if end_in_text ns then with_longer_last text ns else with_last ns (text_node text span)

-- appends a text to an element, with the span of the element, unless the text is empty
abbrev pub with_text : List ℕ → OpenElement → OpenElement
with_text [] o = o
with_text (c ∷ cs) o = record o { children = joined (c ∷ cs) o.head.span o.children }

-- appends a text to the current node, unless it is empty
abbrev pub with_last_text : List ℕ → List OpenElement → List OpenElement
with_last_text text [] = []
with_last_text text (o ∷ os) = with_text text o ∷ os

abbrev pub completed : OpenElement → NodeView
completed o = element_node o.head o.children

abbrev pub with_last_child : NodeView → OpenElement → OpenElement
with_last_child child o = record o { children = with_last o.children child }

-- a node with one child more, if it is an element
abbrev pub with_inner_child : NodeView → NodeView → NodeView
with_inner_child child (element_node h kids) = element_node h (with_last kids child)
with_inner_child child n = n

-- appends a child to the head, which is the first child of `html`
abbrev pub with_head_child : NodeView → NodesView → NodesView
with_head_child child none = none
with_head_child child (node n ns) = node (with_inner_child child n) ns

-- nodes, and others behind them
abbrev pub with_last_nodes : NodesView → NodesView → NodesView
with_last_nodes ns none = ns
with_last_nodes ns (node m ms) = with_last_nodes (with_last ns m) ms

-- an element with nodes behind its children
abbrev pub with_nodes : NodesView → OpenElement → OpenElement
with_nodes ns p = record p { children = with_last_nodes p.children ns }

-- a complete element at a destination in the element around it
abbrev pub placed_in : Destination → ElementView → OpenElement → OpenElement
placed_in to.Parent e p = with_last_child (element_node e.0 e.1) p
placed_in to.Head e p = record p { children = with_head_child (element_node e.0 e.1) p.children }
placed_in to.Replaced e p = with_nodes e.1 p
placed_in to.BeforeTable e p = with_last_child (element_node e.0 e.1) p
placed_in to.ReplacedBeforeTable e p = with_nodes e.1 p

-- adds a complete element, and what stands right behind it
abbrev pub placed : OpenElement → OpenElement → OpenElement
placed o p = with_nodes o.behind (placed_in o.destination (o.head, o.children) p)

-- a `template` with these children
abbrev pub template_of : (children : NodesView) (span : ℕ) → OpenElement
template_of children span = record {
  head = record {
    name = codes "template";
    attrs = [];
    css = [];
    parent = None;
    span = span;
    pre_span = false;
  };
  space = Html;
  destination = to.Parent;
  children = children;
  behind = none;
}

-- an open element right in a `template`, with more behind it there
abbrev pub with_behind : (add : OpenElement → OpenElement) → OpenElement → OpenElement → OpenElement
with_behind add o p = record o { behind = (add (template_of o.behind p.head.span)).children }

-- adds to the element around the nearest table, or at the end of a `template` that is nearer
-- (13.2.6.1)
abbrev pub before_table : (add : OpenElement → OpenElement) → List OpenElement → List OpenElement
before_table add [] = []
before_table add (o ∷ []) = add o ∷ []
before_table add (o ∷ p ∷ ps) = if is_of (of kind.Table) o then o ∷ add p ∷ ps
    else (if is_of (of kind.Template) p then with_behind add o p ∷ p ∷ ps
    else o ∷ before_table add (p ∷ ps))

-- adds right behind the current node
abbrev pub behind_current : (add : OpenElement → OpenElement) → List OpenElement →
    List OpenElement
behind_current add [] = []
behind_current add (o ∷ []) = o ∷ []
behind_current add (o ∷ p ∷ ps) = with_behind add o p ∷ p ∷ ps

-- adds to the current node
abbrev pub in_current : (add : OpenElement → OpenElement) → List OpenElement → List OpenElement
in_current add [] = []
in_current add (o ∷ os) = add o ∷ os

abbrev pub leaves_table : Destination → Bool
leaves_table to.BeforeTable = true
leaves_table to.ReplacedBeforeTable = true
leaves_table d = false

-- whether it stands before the nearest table once it is complete
abbrev pub is_before_table : OpenElement → Bool
is_before_table o = leaves_table o.destination

-- completes the current node, unless it is the root
abbrev pub without_current : List OpenElement → List OpenElement
without_current [] = []
without_current (o ∷ []) = o ∷ []
without_current (o ∷ p ∷ ps) = if is_before_table o then before_table (placed o) (p ∷ ps)
    else placed o p ∷ ps

-- completes the current node as long as it was removed, at most so many times
abbrev pub uncovered_times : (at_most : ℕ) → List OpenElement → List OpenElement
uncovered_times zero os = os
uncovered_times (suc n) os =
    if at (λ o. is_removed o.space) os then uncovered_times n (without_current os) else os

abbrev pub uncovered : List OpenElement → List OpenElement
uncovered os = uncovered_times (length os) os

-- the open elements, of which the nearest goal is removed: it is open no longer, and complete once
-- nothing in it is open
abbrev pub removed : (goal : OpenElement → Bool) → List OpenElement → List OpenElement
removed goal [] = []
removed goal (o ∷ os) = if goal o then record o { space = Removed } ∷ os else o ∷ removed goal os

-- completes the current node, so many times
abbrev pub closed_times : (times : ℕ) → List OpenElement → List OpenElement
closed_times zero os = os
closed_times (suc n) os = closed_times n (without_current os)

-- an element, with those of the attributes that it lacks
abbrev pub with_attrs : (others : List TextPair) → OpenElement → OpenElement
with_attrs others o = record o { head = record o.head { attrs = union o.head.attrs others } }

-- of elements that stand outermost first, the one at that index gets those of the attributes that it
-- lacks, if it is one of HTML whose name passes the test
abbrev pub with_attrs_at : (index : ℕ) (test : List ℕ → Bool) (others : List TextPair) →
    List OpenElement → List OpenElement
with_attrs_at index test others [] = []
with_attrs_at zero test others (o ∷ os) =
    (if is_of test o then with_attrs others o else o) ∷ os
with_attrs_at (suc index) test others (o ∷ os) = o ∷ with_attrs_at index test others os

-- the number of the attributes of that element
abbrev pub attr_count_at : (index : ℕ) (test : List ℕ → Bool) → List OpenElement → ℕ
attr_count_at index test [] = 0
attr_count_at zero test (o ∷ os) = if is_of test o then length o.head.attrs else 0
attr_count_at (suc index) test (o ∷ os) = attr_count_at index test os

abbrev pub current_element : List OpenElement → Option ElementView
current_element [] = None
current_element (o ∷ os) = Some (o.head, o.children)

-- the outermost of the open elements alone
abbrev pub root_alone : List OpenElement → List OpenElement
root_alone [] = []
root_alone (o ∷ []) = o ∷ []
root_alone (o ∷ p ∷ ps) = root_alone (p ∷ ps)

-- whether an element among the nodes holds a `template`
abbrev pub hold_template : NodesView → Bool
hold_template none = false
hold_template (node (element_node h children) ns) =
    hold_named (of kind.Template) children || hold_template ns
hold_template (node n ns) = hold_template ns

-- the root, with all open elements complete
abbrev pub root_of : List OpenElement → Option ElementView
root_of os = current_element (closed_times (length os) os)

-- the name of the current node
abbrev pub current_name : List OpenElement → Option (List ℕ)
current_name [] = None
current_name (o ∷ os) = Some o.head.name
