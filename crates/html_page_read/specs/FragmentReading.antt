-- Reading a fragment as a browser does in a `body` (HTML Standard 13.4), except that the fragment is
-- refused where a page would be, or only for too many copies.
use Rattle.std.specs.Prelude.{◌≡◌, ℕ, ◌+◌, Bool, true, false, ◌==◌, List, [], ◌∷◌, if◌then◌else◌, Option, Some, None, Result, Ok, IfOk, IfErr, Vec}
use Rattle.std.specs.declared.alloc.Global.{Global}
use Rattle.html_dom_tree.specs.Tree.{NodeView, tag_node, text_node, element_node, frame_node, NodesView, none, node, ElementView}
use Rattle.html_dom_tree.specs.{Views.{nodes_view}, declared.node.HtmlNode.{HtmlNode}}
use Rattle.html_page_stack.specs.Pages as pages
use Rattle.html_page_stack.specs.Pages.{Page, first_page}
use Rattle.html_page_stack.specs.declared.fault.PageRefusal.{PageRefusal}
use Rattle.html_page_stack.specs.declared.fault.PageRefusal.TheVariants as refusal
use Rattle.html_page_tree.specs.FragmentPages.{fragment_begun}
use Rattle.html_page_read.specs.{PageAnswers.{ArePlaced, IsFault}, PageReading.{PageResult, page_result, reader_at, run}}
use Rattle.html_page_read.specs.PageTokens.{PageReader, finished}
use Rattle.html_page_read.specs.declared.fault.{PageFault.{PageFault}, PageNotes.{PageNotes}}

-- the reader before a fragment that starts at that offset in bytes; `html` and `body` stand above the
-- nodes
abbrev pub fragment_reader : (limit place : ℕ) → PageReader
fragment_reader limit place = reader_at (fragment_begun (first_page (limit + 2))) place

-- the reader behind a fragment, without its byte order mark
abbrev pub fragment_passed : (limit : ℕ) → List ℕ → PageReader
fragment_passed limit [] = fragment_reader limit 0
fragment_passed limit (c ∷ cs) = if c == 0xfeff then run (fragment_reader limit 3) cs
    else run (fragment_reader limit 0) (c ∷ cs)

-- what the page of a fragment is read as
abbrev pub fragment_read : (limit : ℕ) → List ℕ → PageResult
fragment_read limit text = page_result (finished (fragment_passed limit text)).page

-- whether a reader can go on at such a limit: of an element that is too deep only the tags are passed
-- over, and of too many attributes the last ones
abbrev pub is_passed : PageRefusal → Bool
is_passed refusal.TooDeep = true
is_passed refusal.TooManyAttributes = true
is_passed refusal.TooManyCopies = false

abbrev pub unless_passed : Option (PageRefusal × ℕ) → Option (PageRefusal × ℕ)
unless_passed None = None
unless_passed (Some refused) = if is_passed refused.0 then None else Some refused

-- the page, which is not refused for such a limit
abbrev pub passed_limits : Page → Page
passed_limits p = record p { refusal = unless_passed p.refusal }

-- what the page of a fragment is read as by a reader that goes on there
abbrev pub any_fragment_read : (limit : ℕ) → List ℕ → PageResult
any_fragment_read limit text =
    page_result (passed_limits (finished (fragment_passed limit text)).page)

abbrev pub node_children : NodeView → NodesView
node_children (tag_node t) = none
node_children (text_node text span) = none
node_children (element_node h ns) = ns
node_children (frame_node f) = none

-- the children of the last of the nodes
abbrev pub last_children : NodesView → NodesView
last_children none = none
last_children (node n none) = node_children n
last_children (node n (node m ms)) = last_children (node m ms)

-- the nodes of a fragment: the children of `body`, which is the last child of the root
abbrev pub fragment_nodes : ElementView → NodesView
fragment_nodes root = last_children root.1

-- the nodes and the reported errors are those of the fragment
pub record IsFragment (text : List ℕ) (expected : PageResult) (nodes : List HtmlNode)
    (reported : PageNotes) : Type 0 where
  pub root : ElementView
  pub notes : pages.Notes
  pub read : expected ≡ Ok (root, notes)
  pub inner : nodes_view nodes ≡ fragment_nodes root
  pub placed : ArePlaced text notes reported

-- a call reads a fragment as expected, or fails with the expected fault
pub record GivesNodes (r : Result (Vec HtmlNode Global × PageNotes) PageFault) (text : List ℕ)
    (expected : PageResult) : Type 0 where
  pub made : IfOk r (λ read. IsFragment text expected read.0.items read.1)
  pub fault : IfErr r (IsFault text expected)
