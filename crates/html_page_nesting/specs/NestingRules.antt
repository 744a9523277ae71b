-- The rules for each kind of node, by its surroundings, that a node breaks if a parser of HTML
-- would make another tree than the written one (HTML Standard 13.2.6). Each is the condition under
-- which a start tag does more than open its element, an end tag more than close it, or a text more
-- than be added.
use Rattle.std.specs.List.{list_any}
use Rattle.std.specs.Prelude.{ℕ, Bool, true, false, not, ◌&&◌, ◌||◌, nat_lt, List, codes, if◌then◌else◌, Option, Some, None}
use Rattle.html_names_core.specs.{Kinds.{is_void}, Names.{listed_names, stands_in}}
use Rattle.html_dom_tree.specs.{Attributes.{or_else}, Tree.{Head, NodesView, ElementView}}
use Rattle.html_page_names.specs.{ForeignNames.{is_font_attr}, PageNames.{of}}
use Rattle.html_page_names.specs.declared.kind.Kind.TheVariants as kind
use Rattle.html_page_nesting.specs.{Ancestors.{is_read_as_html, space_of}, Contents.{are_plain, begin_with_feed, content_misnesting}}
use Rattle.html_page_nesting.specs.{PageRoots.{is_page}, WrittenTags.{tag_misnesting}, WrittenTexts.{has_return, is_white}}
use Rattle.html_page_nesting.specs.declared.misnesting.Misnesting.{Misnesting}
use Rattle.html_page_nesting.specs.declared.misnesting.Misnesting.TheVariants as why
use Rattle.html_page_nesting.specs.declared.reading.Place.{Place}
use Rattle.html_page_nesting.specs.declared.reading.Place.TheVariants as place
use Rattle.html_page_nesting.specs.declared.surroundings.{Open.{Open}, Surroundings.{Surroundings}}

-- whether an element is more than 511 elements below `body`: browsers put it beside its parent
abbrev pub is_too_deep : Surroundings → Bool
is_too_deep around = nat_lt 512 around.depth

-- the rule that a node breaks by standing there (13.2.6.4.4 `head`, 13.2.6.4.5 `noscript` in it,
-- 13.2.6.4.9 to 13.2.6.4.14 tables); the root has a rule of its own
abbrev pub stranger_misnesting : Place → Option Misnesting
stranger_misnesting place.Page = None
stranger_misnesting place.Head = Some why.NotInHead
stranger_misnesting place.HeadNoscript = Some why.NotInHead
stranger_misnesting place.Table = Some why.NotInTable
stranger_misnesting place.Section = Some why.NotInTable
stranger_misnesting place.Row = Some why.NotInTable
stranger_misnesting place.Columns = Some why.NotInColumns
stranger_misnesting place.Body = None

-- the rule that a text breaks; white space stays everywhere
abbrev pub text_misnesting : List ℕ → Surroundings → Option Misnesting
text_misnesting text around = if has_return text then Some why.CarriageReturn
    else (if is_white text then None else stranger_misnesting around.place)

-- the rule that a frame breaks, which is written as an `svg`
abbrev pub frame_misnesting : Surroundings → Option Misnesting
frame_misnesting around = stranger_misnesting around.place

-- whether elements of that name stay in a table, or in a part of one that holds parts
abbrev pub is_in_tables : (name : List ℕ) → Bool
is_in_tables name = of kind.ScriptOrStyle name || of kind.Template name

-- whether elements of that name may stand there
abbrev pub has_place : Place → (name : List ℕ) → Bool
has_place place.Page name = true
has_place place.Head name = of kind.HeadContent name || of kind.Noscript name
has_place place.HeadNoscript name = of kind.NoscriptContent name
has_place place.Table name = of kind.Caption name || of kind.Colgroup name || of kind.Section name
    || is_in_tables name
has_place place.Section name = of kind.Tr name || is_in_tables name
has_place place.Row name = of kind.Cell name || is_in_tables name
has_place place.Columns name = of kind.Col name || of kind.Template name
has_place place.Body name = false

-- whether start tags of that name are ignored in a body, read as another or never end (13.2.6.4.7)
abbrev pub is_never_read : (name : List ℕ) → Bool
is_never_read name = of kind.Root name || of kind.Misplaced name || of kind.Image name
    || of kind.Frameset name || of kind.Plaintext name

unfoldable pub is_selected_content : (name : List ℕ) → Bool
is_selected_content name = stands_in (listed_names (codes "selectedcontent")) name

abbrev pub closes_paragraph : (name : List ℕ) → Open → Bool
closes_paragraph name o = o.paragraph && (of kind.ClosesP name || of kind.Table name)

abbrev pub closes_item : (name : List ℕ) → Open → Bool
closes_item name o = (of kind.ListItem name && o.list_item)
    || (of kind.DescriptionPart name && o.description)

-- whether an element closes one of its own name
abbrev pub closes_same : (name : List ℕ) → Open → Bool
closes_same name o = (of kind.A name && o.anchor) || (of kind.Button name && o.button)
    || (of kind.Nobr name && o.nobr) || (of kind.Select name && o.select)

abbrev pub is_option_part : (name : List ℕ) → Bool
is_option_part name = of kind.Option name || of kind.Optgroup name

-- whether an element closes, in a `select`, a parent whose end tag is implied, but not an
-- `optgroup` if it is an `option`; elsewhere, whether it closes an `option`
abbrev pub closes_option : (name : List ℕ) → Surroundings → Bool
closes_option name around = if around.open_elements.select
    then (is_option_part name || of kind.Hr name) && around.parent.implied
    && not (of kind.Option name && around.parent.optgroup)
    else is_option_part name && around.parent.option

-- whether an element closes, in a `ruby`, a parent whose end tag is implied; `rp` and `rt` do not
-- close an `rtc`
abbrev pub closes_ruby_part : (name : List ℕ) → Surroundings → Bool
closes_ruby_part name around = of kind.RubyPart name && around.open_elements.ruby
    && around.parent.implied && not (of kind.RubyText name && around.parent.rtc)

-- the rule that an element breaks if its start tag closes another in a body (13.2.6.4.7)
abbrev pub closing_misnesting : (name : List ℕ) → Surroundings → Option Misnesting
closing_misnesting name around =
    if closes_paragraph name around.open_elements then Some why.ClosesParagraph
    else (if of kind.Heading name && around.parent.heading then Some why.ClosesHeading
    else (if closes_item name around.open_elements then Some why.ClosesItem
    else (if closes_same name around.open_elements then Some why.ClosesSame
    else (if closes_option name around then Some why.ClosesOption
    else (if of kind.Input name && around.open_elements.select then Some why.ClosesSelect
    else (if closes_ruby_part name around then Some why.ClosesRubyPart else None))))))

-- the rule that an element of HTML in a body breaks
abbrev pub body_misnesting : (name : List ℕ) → Surroundings → Option Misnesting
body_misnesting name around = if of kind.TablePart name then Some why.OutsideTable
    else (if is_never_read name then Some why.NeverRead
    else (if of kind.Form name && around.open_elements.form then Some why.FormInForm
    else (if around.open_elements.outer_select && is_selected_content name then Some why.Filled
    else closing_misnesting name around)))

-- the rule that an element of HTML elsewhere breaks
abbrev pub placed_misnesting : Place → (name : List ℕ) → Option Misnesting
placed_misnesting p name = if has_place p name then None else stranger_misnesting p

abbrev pub named_misnesting : Place → (name : List ℕ) → Surroundings → Option Misnesting
named_misnesting place.Body name around = body_misnesting name around
named_misnesting p name around = placed_misnesting p name

-- whether such a start tag can stand neither in SVG nor in MathML (13.2.6.5)
abbrev pub breaks_out : Head → Bool
breaks_out h = of kind.Breakout h.name
    || (of kind.Font h.name && list_any (λ a. is_font_attr a.0) h.attrs)

-- the rule that an element breaks, if the rules for SVG and MathML apply to it
abbrev pub foreign_misnesting : Head → NodesView → Option Misnesting
foreign_misnesting h kids = if breaks_out h then Some why.LeavesForeign
    else (if is_void h.name then Some why.StaysOpen
    else (if of kind.ScriptOrStyle h.name && not (are_plain false kids) then Some why.ForeignText
    else (if of kind.DropsFeed h.name && begin_with_feed kids then Some why.FirstLineFeed else None)))

abbrev pub html_misnesting : Head → NodesView → Surroundings → Option Misnesting
html_misnesting h kids around =
    or_else (content_misnesting h kids) (named_misnesting around.place h.name around)

abbrev pub read_misnesting : Head → NodesView → Surroundings → Option Misnesting
read_misnesting h kids around = if is_read_as_html around.reading h.name
    then html_misnesting h kids around else foreign_misnesting h kids

-- the first of all rules that an element breaks
abbrev pub element_misnesting : Head → NodesView → Surroundings → Option Misnesting
element_misnesting h kids around =
    or_else (tag_misnesting (space_of around.reading h.name) h) (read_misnesting h kids around)

-- the rule that a root breaks, which must be a page
abbrev pub root_misnesting : ElementView → Surroundings → Option Misnesting
root_misnesting e around =
    if is_page e then element_misnesting e.0 e.1 around else Some why.NoPage
