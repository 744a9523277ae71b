-- The ancestors of a node, innermost first, as a parser of HTML reads them: its stack of open
-- elements (HTML Standard 13.2.4.2), and the rules by which their content is read (13.2.6, the tree
-- construction dispatcher).
use Rattle.std.specs.{List.{list_any}, Prelude.{ℕ, Bool, true, false, not, ◌&&◌, ◌||◌, List, [], ◌∷◌, codes, if◌then◌else◌}}
use Rattle.html_names_core.specs.Names.{listed_names, stands_in}
use Rattle.html_dom_tree.specs.Tree.{TextPair, Head}
use Rattle.html_page_names.specs.{ForeignNames.{lowered, is_encoding, is_html_encoding}, PageNames.{of}}
use Rattle.html_page_names.specs.declared.kind.Kind.TheVariants as kind
use Rattle.html_page_nesting.specs.declared.reading.Place.{Place}
use Rattle.html_page_nesting.specs.declared.reading.Place.TheVariants as place
use Rattle.html_page_nesting.specs.declared.reading.Reading.{Reading}
use Rattle.html_page_nesting.specs.declared.reading.Reading.TheVariants as reading
use Rattle.html_page_nesting.specs.declared.reading.{Space.{Space}, Space.TheVariants.{Html, Svg, MathMl}}

-- an element around a node, and its namespace
pub record Ancestor : Type 0 where
  pub head : Head
  pub space : Space

abbrev pub is_html : Space → Bool
is_html Html = true
is_html space = false

-- whether the element is one of HTML whose name passes the test
abbrev pub is_of : (test : List ℕ → Bool) → Ancestor → Bool
is_of test a = is_html a.space && test a.head.name

-- whether the parent is such an element
abbrev pub is_in : (test : List ℕ → Bool) → List Ancestor → Bool
is_in test [] = false
is_in test (a ∷ above) = is_of test a

-- whether a goal is above, with no bound between
abbrev pub reaches : (goal bound : Ancestor → Bool) → List Ancestor → Bool
reaches goal bound [] = false
reaches goal bound (a ∷ above) = goal a || (not (bound a) && reaches goal bound above)

-- whether HTML stands in an element of SVG or MathML, which then bounds scopes and is special
abbrev pub is_point : Space → (name : List ℕ) → Bool
is_point Html name = false
is_point Svg name = of kind.SvgHtml name
is_point MathMl name = of kind.MathText name || of kind.AnnotationXml name

-- whether an element bounds a scope (13.2.4.2)
abbrev pub bounds_scope : Ancestor → Bool
bounds_scope a = is_of (of kind.BoundsScope) a || is_point a.space a.head.name

-- whether an element bounds button scope
abbrev pub bounds_button_scope : Ancestor → Bool
bounds_button_scope a = is_of (of kind.Button) a || bounds_scope a

unfoldable pub is_search : (name : List ℕ) → Bool
is_search name = stands_in (listed_names (codes "search")) name

-- whether an element of that name ends the search for an item that a new one closes, as special
-- elements other than `address`, `div` and `p` do (13.2.6.4.7, start tags of `li`, `dd`, `dt`);
-- `search` is special, but not in Chromium
abbrev pub ends_item_search : (name : List ℕ) → Bool
ends_item_search name = of kind.Special name && not (of kind.PassedByItems name)
    && not (is_search name)

abbrev pub bounds_item : Ancestor → Bool
bounds_item a = is_of ends_item_search a || is_point a.space a.head.name

-- whether an element hides the formatting elements around it (13.2.4.3, markers)
abbrev pub hides_formatting : Ancestor → Bool
hides_formatting a = is_of (of kind.Marker) a

abbrev pub is_template : Ancestor → Bool
is_template = is_of (of kind.Template)

-- whether the attribute makes an `annotation-xml` hold HTML
abbrev pub says_html : TextPair → Bool
says_html a = is_encoding a.0 && is_html_encoding (lowered a.1)

abbrev pub annotation_reading : List TextPair → Reading
annotation_reading attrs = if list_any says_html attrs then reading.AsHtml else reading.AsAnnotation

abbrev pub math_reading : Head → Reading
math_reading h = if of kind.MathText h.name then reading.AsMathText
    else (if of kind.AnnotationXml h.name then annotation_reading h.attrs else reading.AsMathMl)

-- the rules by which the content of an element is read
abbrev pub reading_in : Space → Head → Reading
reading_in Html h = reading.AsHtml
reading_in Svg h = if of kind.SvgHtml h.name then reading.AsHtml else reading.AsSvg
reading_in MathMl h = math_reading h

abbrev pub reading_of : List Ancestor → Reading
reading_of [] = reading.AsHtml
reading_of (a ∷ above) = reading_in a.space a.head

-- whether a start tag of that name is read by the rules of HTML
abbrev pub is_read_as_html : Reading → (name : List ℕ) → Bool
is_read_as_html reading.AsHtml name = true
is_read_as_html reading.AsSvg name = false
is_read_as_html reading.AsMathMl name = false
is_read_as_html reading.AsMathText name = not (of kind.Glyph name)
is_read_as_html reading.AsAnnotation name = of kind.Svg name

-- the namespace of an element that is read by the rules of HTML
abbrev pub begun_space : (name : List ℕ) → Space
begun_space name = if of kind.Svg name then Svg else (if of kind.Math name then MathMl else Html)

-- the namespace of an element that is not read by the rules of HTML
abbrev pub foreign_space : Reading → Space
foreign_space reading.AsSvg = Svg
foreign_space r = MathMl

abbrev pub space_of : Reading → (name : List ℕ) → Space
space_of r name = if is_read_as_html r name then begun_space name else foreign_space r

-- an element as an ancestor of its content
abbrev pub ancestor : Head → (above : List Ancestor) → Ancestor
ancestor h above = record { head = h; space = space_of (reading_of above) h.name }

-- the content that an element of HTML of that name may have
abbrev pub place_in : (is_in_head : Bool) → (name : List ℕ) → Place
place_in is_in_head name = if of kind.Html name then place.Page
    else (if of kind.Head name then place.Head
    else (if of kind.Noscript name && is_in_head then place.HeadNoscript
    else (if of kind.Table name then place.Table
    else (if of kind.Section name then place.Section
    else (if of kind.Tr name then place.Row
    else (if of kind.Colgroup name then place.Columns else place.Body))))))

abbrev pub place_inside : (is_in_head : Bool) → Space → (name : List ℕ) → Place
place_inside is_in_head space name = if is_html space then place_in is_in_head name else place.Body

abbrev pub place_of : List Ancestor → Place
place_of [] = place.Page
place_of (a ∷ above) = place_inside (is_in (of kind.Head) above) a.space a.head.name
