-- The css property `display`: its defaults by tag (this project's profile of HTML Standard 15.3),
-- and its texts.
use Rattle.std.specs.Prelude.{◌++◌, ℕ, Bool, true, false, List, [], ◌∷◌, codes, Option, Some, None}
use Rattle.html_names_core.specs.{Names.{listed_names, stands_in}, declared.property.Display.{Display}}
use Rattle.html_names_core.specs.declared.property.Display.TheVariants as display

-- a display, and the names of its tags
abbrev pub Row : Type 0
Row = Display × List (List ℕ)

-- the display of the first row that contains the name
abbrev pub first_row : List Row → List ℕ → Option Display
first_row [] name = None
first_row (r ∷ rs) name = elim (stands_in r.1 name) [ true ↦ Some r.0 | false ↦ first_row rs name ]

abbrev pub rows : List Row
rows = (
  display.None,
  listed_names (codes "area base datalist head link meta rp script style template title"),
)
    ∷ (
      display.Block,
      listed_names (codes "html body address blockquote dialog div figure figcaption footer form")
          ++ listed_names (codes "header hr legend main p pre search article aside h1 h2 h3 h4 h5 h6")
          ++ listed_names (codes "hgroup nav section dd dl dt menu ol ul fieldset details summary option")
          ++ listed_names (codes "optgroup"),
    )
    ∷ (display.Contents, listed_names (codes "slot"))
    ∷ (display.Ruby, listed_names (codes "ruby"))
    ∷ (display.RubyText, listed_names (codes "rt"))
    ∷ (display.ListItem, listed_names (codes "li"))
    ∷ (display.Table, listed_names (codes "table"))
    ∷ (display.TableCaption, listed_names (codes "caption"))
    ∷ (display.TableHeaderGroup, listed_names (codes "thead"))
    ∷ (display.TableRowGroup, listed_names (codes "tbody"))
    ∷ (display.TableFooterGroup, listed_names (codes "tfoot"))
    ∷ (display.TableRow, listed_names (codes "tr mtr"))
    ∷ (display.TableCell, listed_names (codes "th td mtd"))
    ∷ (display.TableColumn, listed_names (codes "col"))
    ∷ (display.TableColumnGroup, listed_names (codes "colgroup"))
    ∷ (display.InlineBlock, listed_names (codes "input button meter progress select textarea"))
    ∷ (
      display.Inline,
      listed_names (codes "a abbr audio b bdi bdo br canvas cite code data del dfn em embed i")
          ++ listed_names (codes "iframe img ins kbd label map mark noscript object output picture q s")
          ++ listed_names (codes "samp small source span strong sub sup time track u var video wbr"),
    )
    ∷ (display.InlineMath, listed_names (codes "math"))
    ∷ (display.InlineTable, listed_names (codes "mtable"))
    ∷ []

unfoldable pub default_display : List ℕ → Option Display
default_display name = first_row rows name

-- whether a display is that of a table or a part of one
abbrev pub is_tabular : Display → Bool
is_tabular display.Table = true
is_tabular display.TableCaption = true
is_tabular display.TableColumn = true
is_tabular display.TableColumnGroup = true
is_tabular display.TableRow = true
is_tabular display.TableRowGroup = true
is_tabular display.TableHeaderGroup = true
is_tabular display.TableFooterGroup = true
is_tabular display.TableCell = true
is_tabular _ = false

-- whether a line ends before and after an element with this display
abbrev pub is_border : Display → Bool
is_border display.Block = true
is_border display.ListItem = true
is_border display.Table = true
is_border display.TableHeaderGroup = true
is_border display.TableRowGroup = true
is_border display.TableFooterGroup = true
is_border display.TableRow = true
is_border display.TableCell = true
is_border display.TableCaption = true
is_border _ = false

-- whether elements with this default display are hidden
abbrev pub is_hidden : Option Display → Bool
is_hidden (Some display.None) = true
is_hidden _ = false

abbrev pub display_text : Display → List ℕ
display_text display.Block = codes "block"
display_text display.Inline = codes "inline"
display_text display.RunIn = codes "run-in"
display_text display.Flow = codes "flow"
display_text display.FlowRoot = codes "flow-root"
display_text display.Table = codes "table"
display_text display.Flex = codes "flex"
display_text display.Grid = codes "grid"
display_text display.Ruby = codes "ruby"
display_text display.ListItem = codes "list-item"
display_text display.TableRowGroup = codes "table-row-group"
display_text display.TableHeaderGroup = codes "table-header-group"
display_text display.TableFooterGroup = codes "table-footer-group"
display_text display.TableRow = codes "table-row"
display_text display.TableCell = codes "table-cell"
display_text display.TableColumnGroup = codes "table-column-group"
display_text display.TableColumn = codes "table-column"
display_text display.TableCaption = codes "table-caption"
display_text display.RubyBase = codes "ruby-base"
display_text display.RubyText = codes "ruby-text"
display_text display.Contents = codes "contents"
display_text display.None = codes "none"
display_text display.InlineBlock = codes "inline-block"
display_text display.InlineTable = codes "inline-table"
display_text display.InlineFlex = codes "inline-flex"
display_text display.InlineGrid = codes "inline-grid"
display_text display.InlineMath = codes "inline math"
display_text display.BlockMath = codes "block math"
