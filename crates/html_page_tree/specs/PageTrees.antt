-- The steps of a token in a table (HTML Standard 13.2.6.4.9 to 13.2.6.4.15), in SVG and MathML
-- (13.2.6.5), and in a page (13.2.6).
use Rattle.std.specs.{List.{list_any}, Prelude.{ℕ, zero, suc, Bool, true, false, not, ◌&&◌, ◌||◌, ◌==◌, ◌+◌, List, [], ◌∷◌, ◌++◌, drop, length, if◌then◌else◌, codes, Option, Some, None, is_some}}
use Rattle.html_page_names.specs.{ForeignNames.{is_font_attr}, PageNames.{is, of}}
use Rattle.html_page_stack.specs.OpenElements.{OpenElement, at, holds_html_in, holds_tags, holds_table_text, holds_text_in, is_html, is_table_context, reaches, is_at, in_scope, mode, current_space, is_foreign_of}
use Rattle.html_page_stack.specs.Pages.{Page, StartTag, Token, Char, Start, End, Finish, has_template, is_full, not_made, noted, noted_if, with_char, added_to, opened_here, closed, closed_to, closed_to_goal, closed_while, implied_closed, no_name, reconstructed, passed_end, settled, template_closed, Turn, Taken, Again, taken_with}
use Rattle.html_page_tree.specs.PageBodies.{after_frameset, barred_by_char, is_hidden_input, is_space, leaf, repeated, head_element, entered, in_body, in_body_start, in_body_end, in_frameset, left, resumed, before, in_head, in_head_noscript, after_head, in_text, template_ended}
use Rattle.html_page_stack.specs.declared.error.PageError.{PageError}
use Rattle.html_page_stack.specs.declared.error.PageError.TheVariants as error
use Rattle.html_page_names.specs.declared.kind.Kind.TheVariants as kind
use Rattle.html_page_stack.specs.declared.modes.{Destination.TheVariants.{Parent}, Mode.{Mode}, TemplateMode.{TemplateMode}}
use Rattle.html_page_stack.specs.declared.modes.TemplateMode.TheVariants as modes
use Rattle.html_page_stack.specs.declared.modes.Mode.TheVariants.{BeforeHtml, BeforeHead, InHead, InHeadNoscript, AfterHead, InBody, InText, InTable, InCaption, InColumns, InSection, InRow, InCell, InTemplate, InFrameset, AfterFrameset}
use Rattle.html_page_stack.specs.declared.modes.Scope.TheVariants as scope
use Rattle.html_page_stack.specs.declared.modes.FramesetRule.TheVariants as frameset
use Rattle.html_page_stack.specs.declared.modes.{FramesetRule.{FramesetRule}, Space.{Space}, TableRule.{TableRule}, Space.TheVariants.{Html, MathMl}}
use Rattle.html_page_stack.specs.declared.modes.TableRule.TheVariants as rule

-- opens a part of a table before the start tag
abbrev pub part_implied : (name : List ℕ) → StartTag → Page → Turn
part_implied name tag p = if is_full p then Taken (not_made tag.name p)
    else Again (opened_here name [] p) (Start tag)

-- closes elements up to one of HTML whose name passes the test, or a `template` around
-- (13.2.6.4.9, 13.2.6.4.13 and 13.2.6.4.14, clear the stack back to a table, a section or a row)
abbrev pub cleared_to : (test : List ℕ → Bool) → Page → Page
cleared_to test p = closed_while
    (λ os. not (is_at (λ n. test n || of kind.Template n || of kind.Html n) os)) (length p.stack) p

abbrev pub begins_part : (name : List ℕ) → Bool
begins_part name = of kind.Caption name || of kind.Colgroup name || of kind.Section name

-- appends an element without content to the current node, also if that is a table
abbrev pub leaf_in_table : StartTag → Page → Page
leaf_in_table tag p =
    added_to Parent Html tag.name tag.attrs (noted error.UnexpectedInTable p)

-- appends a form without content, unless another is begun or a `template` is open; it counts as begun
abbrev pub form_in_table : StartTag → Page → Page
form_in_table tag p = if is_some p.form || has_template p then noted error.NestedElement p
    else record (leaf_in_table tag p) { form = Some p.start }

-- whether a table is in scope: in a `template` that begins with a part of one there is none
abbrev pub has_table : Page → Bool
has_table p = in_scope scope.Table (of kind.Table) p.stack

-- handles a start tag of a table in a table
abbrev pub nested_table : StartTag → Page → Turn
nested_table tag p = if has_table p
    then resumed (Start tag) (length p.stack)
    (closed_to (of kind.Table) (noted error.NestedElement p))
    else taken_with error.IgnoredStartTag p

-- whether the start tag is that of an element that stays right in a table
abbrev pub stays_in_table : (name : List ℕ) → Bool
stays_in_table name = of kind.ScriptOrStyle name || of kind.Template name

-- handles a start tag in a table that begins none of its parts
abbrev pub in_table_other : StartTag → Page → Turn
in_table_other tag p = let name = tag.name in
    if of kind.Table name then nested_table tag p
    else (if stays_in_table name then Taken (head_element Parent tag p)
    else (if of kind.Root name then Taken (repeated tag p)
    else (if of kind.Misplaced name then taken_with error.IgnoredStartTag p
    else (if is_hidden_input tag then Taken (leaf_in_table tag p)
    else (if of kind.Form name then Taken (form_in_table tag p)
    else in_body_start tag (noted error.FosterParenting p))))))

-- handles a start tag in a table, if the current node is the table, or one of its parts other than
-- a cell or a caption
abbrev pub in_table_start : StartTag → Page → Turn
in_table_start tag p = let name = tag.name in
    let cleared = cleared_to (of kind.Table) p in
    if begins_part name then Taken (opened_here name tag.attrs cleared)
    else (if of kind.Col name then part_implied (codes "colgroup") tag cleared
    else (if of kind.Tr name || of kind.Cell name
    then part_implied (codes "tbody") tag cleared
    else in_table_other tag p))

-- whether the end tag is ignored right in a table
abbrev pub ends_nothing_in_table : (name : List ℕ) → Bool
ends_nothing_in_table name = of kind.Root name || of kind.TablePart name || of kind.Table name

abbrev pub in_table_end : (name : List ℕ) → Page → Turn
in_table_end name p = if of kind.Table name && has_table p
    then Taken (closed_to (of kind.Table) p)
    else (if ends_nothing_in_table name then taken_with error.EndTagWithoutStart p
    else in_body_end name
    (noted_if (not (of kind.Template name)) error.FosterParenting p))

-- the page whose text and that character are moved before the nearest table, or stand in a
-- formatting element there that is made again
abbrev pub text_moved : ℕ → Page → Page
text_moved c p = let q = reconstructed (record p { text = [] }) in
    record q { text = p.text ++ c ∷ []; moved = at is_table_context q.stack }

-- handles a character where the current node is a table, a section or a row: white space stands
-- there, unless a character that is none stands in the same text (13.2.6.4.10)
abbrev pub char_in_table : ℕ → Page → Page
char_in_table c p = if c == 0 then p
    else (if p.moved || is_space c then with_char c p
    else text_moved c (noted error.FosterParenting p))

abbrev pub in_table : Token → Page → Turn
in_table (Char c) p = if at holds_table_text p.stack then Taken (char_in_table c p)
    else in_body (Char c) p
in_table (Start tag) p = in_table_start tag p
in_table (End name) p = in_table_end name p
in_table Finish p = Taken p

-- the error that says that a token is ignored
abbrev pub ignored : Token → PageError
ignored (Start tag) = error.IgnoredStartTag
ignored (End name) = error.EndTagWithoutStart
ignored token = error.IgnoredText

-- closes a `colgroup` before the token, or ignores that: right in a `template`
abbrev pub columns_left : Token → Page → Turn
columns_left token p = if is_at (of kind.Colgroup) p.stack then left token p
    else taken_with (ignored token) p

abbrev pub in_columns : Token → Page → Turn
in_columns (Char c) p = if is_space c then Taken (with_char c p)
    else columns_left (Char c) p
in_columns (Start tag) p = if of kind.Col tag.name then Taken (leaf tag p)
    else (if of kind.Html tag.name then Taken (repeated tag p)
    else (if of kind.Template tag.name then Taken (head_element Parent tag p)
    else columns_left (Start tag) p))
in_columns (End name) p = if of kind.Colgroup name && is_at (of kind.Colgroup) p.stack
    then Taken (closed true p)
    else (if of kind.Col name then taken_with error.EndTagWithoutStart p
    else (if of kind.Template name then Taken (template_ended p)
    else columns_left (End name) p))
in_columns Finish p = Taken p

-- closes the elements up to such a part of a table, and the part, before the token; ignores the token
-- if there is none in scope, as in a `template` that begins with another part
abbrev pub part_left : (test : List ℕ → Bool) → Token → Page → Turn
part_left test token p = if in_scope scope.Table test p.stack
    then left token (cleared_to test p) else taken_with (ignored token) p

abbrev pub in_section : Token → Page → Turn
in_section (Char c) p = in_table (Char c) p
in_section (Start tag) p = let cleared = cleared_to (of kind.Section) p in
    if of kind.Tr tag.name then Taken (opened_here tag.name tag.attrs cleared)
    else (if of kind.Cell tag.name
    then part_implied (codes "tr") tag (noted error.CellWithoutRow cleared)
    else (if of kind.TablePart tag.name
    then part_left (of kind.Section) (Start tag) p
    else in_table (Start tag) p))
in_section (End name) p = if of kind.Section name && in_scope scope.Table (is name) p.stack
    then Taken (closed true (cleared_to (of kind.Section) p))
    else (if of kind.Table name
    then part_left (of kind.Section) (End name) p
    else in_table (End name) p)
in_section Finish p = Taken p

-- whether the end tag is that of the table or of the section around a row
abbrev pub ends_around_row : (name : List ℕ) → Page → Bool
ends_around_row name p = of kind.Table name
    || (of kind.Section name && in_scope scope.Table (is name) p.stack)

abbrev pub in_row : Token → Page → Turn
in_row (Char c) p = in_table (Char c) p
in_row (Start tag) p = if of kind.Cell tag.name
    then Taken (opened_here tag.name tag.attrs (cleared_to (of kind.Tr) p))
    else (if of kind.TablePart tag.name
    then part_left (of kind.Tr) (Start tag) p
    else in_table (Start tag) p)
in_row (End name) p = if of kind.Tr name && in_scope scope.Table (of kind.Tr) p.stack
    then Taken (closed true (cleared_to (of kind.Tr) p))
    else (if ends_around_row name p
    then part_left (of kind.Tr) (End name) p
    else in_table (End name) p)
in_row Finish p = Taken p

-- closes a cell or a caption, and records an error unless it is the current node
abbrev pub current_part_closed : (test : List ℕ → Bool) → Page → Page
current_part_closed test p =
    closed_to test (noted_if (not (is_at test p.stack)) error.CellOverOpenElements p)

-- closes a cell or a caption
abbrev pub part_closed : (test : List ℕ → Bool) → Page → Page
part_closed test p = current_part_closed test (implied_closed no_name p)

-- closes a cell or a caption by an end tag, its own or that of an element around
abbrev pub part_ended : (test : List ℕ → Bool) (name : List ℕ) → Page → Turn
part_ended test name p = if test name then Taken (part_closed test p)
    else resumed (End name) (length p.stack) (part_closed test p)

-- handles an end tag in a cell or in a caption, given whether it closes it
abbrev pub in_part_end : (test : List ℕ → Bool) (closes : Bool) (name : List ℕ) → Page → Turn
in_part_end test closes name p = if closes then part_ended test name p
    else (if of kind.TablePart name || of kind.Table name || of kind.Root name
    then taken_with error.EndTagWithoutStart p else in_body_end name p)

abbrev pub in_part_start : (test : List ℕ → Bool) → StartTag → Page → Turn
in_part_start test tag p = if of kind.TablePart tag.name
    then resumed (Start tag) (length p.stack) (part_closed test p) else in_body_start tag p

abbrev pub in_cell : Token → Page → Turn
in_cell (End name) p = in_part_end (of kind.Cell)
    ((of kind.Cell name || of kind.Section name || of kind.Tr name || of kind.Table name)
    && in_scope scope.Table (is name) p.stack) name p
in_cell (Start tag) p = in_part_start (of kind.Cell) tag p
in_cell token p = in_body token p

abbrev pub in_caption : Token → Page → Turn
in_caption (End name) p = in_part_end (of kind.Caption)
    (of kind.Caption name || of kind.Table name) name p
in_caption (Start tag) p = in_part_start (of kind.Caption) tag p
in_caption token p = in_body token p

-- the mode in which a start tag is read in a `template` that it is the first to begin something in
-- (13.2.6.4.18)
abbrev pub template_mode : (name : List ℕ) → TemplateMode
template_mode name = if begins_part name then modes.Table
    else (if of kind.Col name then modes.Columns
    else (if of kind.Tr name then modes.Section
    else (if of kind.Cell name then modes.Row else modes.Body)))

-- the page in which the innermost `template` is read in that mode
abbrev pub in_mode : TemplateMode → Page → Page
in_mode m p = record p { templates = m ∷ drop 1 p.templates }

-- handles a start tag in a `template` in which nothing but content of the head stands
abbrev pub start_in_template : StartTag → Page → Turn
start_in_template tag p = if of kind.HeadContent tag.name
    then Taken (head_element Parent tag p)
    else Again (in_mode (template_mode tag.name) p) (Start tag)

-- handles an end tag there
abbrev pub end_in_template : (name : List ℕ) → Page → Page
end_in_template name p = if of kind.Template name then template_ended p
    else noted error.EndTagWithoutStart p

-- handles a token there
abbrev pub in_template : Token → Page → Turn
in_template (Start tag) p = start_in_template tag p
in_template (End name) p = Taken (end_in_template name p)
in_template token p = in_body token p

-- the rules of a mode
abbrev pub by_mode : Mode → Token → Page → Turn
by_mode BeforeHtml = before (codes "html")
by_mode BeforeHead = before (codes "head")
by_mode InHead = in_head
by_mode InHeadNoscript = in_head_noscript
by_mode AfterHead = after_head
by_mode InBody = in_body
by_mode InText = in_text
by_mode InTable = in_table
by_mode InCaption = in_caption
by_mode InColumns = in_columns
by_mode InSection = in_section
by_mode InRow = in_row
by_mode InCell = in_cell
by_mode InTemplate = in_template
by_mode InFrameset = in_frameset
by_mode AfterFrameset = after_frameset

-- the mode of a `template`
abbrev pub mode_of : TemplateMode → Mode
mode_of modes.Unset = InTemplate
mode_of modes.Body = InBody
mode_of modes.Table = InTable
mode_of modes.Columns = InColumns
mode_of modes.Section = InSection
mode_of modes.Row = InRow

-- the mode, if that is one of a `template` or behind a `frameset`, which the open elements do not tell
abbrev pub mode_within : Mode → (templates : List TemplateMode) → FramesetRule → Mode
mode_within InTemplate (m ∷ ms) rule = mode_of m
mode_within AfterHead ms frameset.Behind = AfterFrameset
mode_within AfterHead ms frameset.BehindHtml = AfterFrameset
mode_within m ms rule = m

-- the insertion mode of a page (13.2.4.1)
abbrev pub page_mode : Page → Mode
page_mode p = mode_within (mode p.stack) p.templates p.framesets

-- whether such a start tag can stand neither in SVG nor in MathML
abbrev pub breaks_out : StartTag → Bool
breaks_out tag = of kind.Breakout tag.name
    || (of kind.Font tag.name && list_any (λ a. is_font_attr a.0) tag.attrs)

-- whether an element of SVG or MathML with that name is open, with none of HTML inside it
abbrev pub closes_foreign : (name : List ℕ) → List OpenElement → Bool
closes_foreign name = reaches (is_foreign_of name) (λ o. is_html o.space)

abbrev pub foreign_closed : (name : List ℕ) → Page → Page
foreign_closed name p = closed_to_goal (is_foreign_of name)
    (noted_if (not (at (is_foreign_of name) p.stack)) error.EndTagOverOpenElements p)

-- closes elements of SVG and MathML up to one whose content is read as HTML
abbrev pub foreign_left : Page → Page
foreign_left p = closed_while (λ os. not (at holds_tags os)) (length p.stack) p

-- handles a tag that can't stand in SVG or MathML, behind them
abbrev pub html_resumed : Token → Page → Turn
html_resumed token p = let q = foreign_left (noted error.HtmlInForeign p) in
    by_mode (page_mode q) token q

abbrev pub in_foreign_end : (name : List ℕ) → Page → Turn
in_foreign_end name p = if of kind.Br name || of kind.P name then html_resumed (End name) p
    else (if closes_foreign name p.stack then Taken (foreign_closed name p)
    else by_mode (page_mode p) (End name) p)

-- the character that a text shows for it: U+FFFD for U+0000
abbrev pub shown : ℕ → ℕ
shown c = if c == 0 then 0xfffd else c

-- handles a character in SVG or MathML
abbrev pub char_in_foreign : ℕ → Page → Page
char_in_foreign c p = with_char (shown c) (if c == 0 then p else barred_by_char c p)

-- the rules for SVG and MathML (13.2.6.5)
abbrev pub in_foreign : Token → Page → Turn
in_foreign (Char c) p = Taken (char_in_foreign c p)
in_foreign (Start tag) p = if breaks_out tag then html_resumed (Start tag) p
    else Taken (entered (current_space p.stack) tag p)
in_foreign (End name) p = in_foreign_end name p
in_foreign Finish p = Taken p

abbrev pub holds_svg_in : Space → OpenElement → Bool
holds_svg_in MathMl o = of kind.AnnotationXml o.head.name
holds_svg_in space o = false

-- whether the token is read as HTML in this current node (13.2.6, tree construction dispatcher)
abbrev pub stands_as_html : Token → OpenElement → Bool
stands_as_html (Char c) o = holds_tags o
stands_as_html (Start tag) o = holds_html_in o.space o
    || (holds_text_in o.space o && not (of kind.Glyph tag.name))
    || (holds_svg_in o.space o && of kind.Svg tag.name)
stands_as_html (End name) o = is_html o.space
stands_as_html Finish o = true

abbrev pub is_foreign_token : Token → List OpenElement → Bool
is_foreign_token token [] = false
is_foreign_token token (o ∷ os) = not (stands_as_html token o)

abbrev pub turn : Token → Page → Turn
turn token p = if is_foreign_token token p.stack then in_foreign token p
    else by_mode (page_mode p) token p

-- processes the token of a turn again, if it has one; `processed` does so at most so many times
abbrev pub behind_turn : (Token → Page → Page) → Turn → Page
behind_turn process (Taken p) = p
behind_turn process (Again p token) = process token p

unfoldable pub processed : (times : ℕ) → Token → Page → Page
processed zero token p = p
processed (suc n) token p = behind_turn (processed n) (turn token p)

abbrev pub is_unseen : TableRule → Bool
is_unseen rule.Unseen = true
is_unseen rule = false

abbrev pub is_space_token : Token → Bool
is_space_token (Char c) = is_space c
is_space_token token = false

-- a page that begins without a document type, in which a table keeps a `p` open (13.2.6.4.1)
abbrev pub begun_untyped : Page → Page
begun_untyped p = noted error.NoDocumentType (record p { tables = rule.KeepsP })

-- ends a text in a table, as what is no character does; what follows joins it only if both stay
-- there
abbrev pub text_ended : Page → Page
text_ended p = if not (length p.text == 0) && at holds_table_text p.stack then settled p else p

abbrev pub is_char : Token → Bool
is_char (Char c) = true
is_char token = false

-- the page behind a token
abbrev pub behind_token : Token → Page → Page
behind_token (Char c) p = p
behind_token token p = text_ended p

-- closes the open `template` elements, at most so many (13.2.6.4.18)
abbrev pub templates_ended : (at_most : ℕ) → Page → Page
templates_ended zero p = p
templates_ended (suc n) p = templates_ended n (template_closed p)

-- the page before a token: each `template` ends at the end of the page
abbrev pub before_token : Token → Page → Page
before_token Finish p = templates_ended (length p.templates) p
before_token token p = p

-- processes a token, and again as long as it is not taken, which takes no more turns than these
abbrev pub taken_at_last : Token → Page → Page
taken_at_last token p = processed (suc (length p.stack + 14)) token p

-- passes the end tag of an element over that was too deep to be made; processes any other token
abbrev pub unless_passed : Option (List (List ℕ)) → Token → Page → Page
unless_passed (Some names) token p = record p { unmade = names }
unless_passed None token p = taken_at_last token p

-- handles a token, whose end tag may be that of an element that was not made
abbrev pub wholly_processed : Token → Page → Page
wholly_processed (End name) p = unless_passed (passed_end name p) (End name) p
wholly_processed token p = taken_at_last token (before_token token p)

-- reads a token of a page
unfoldable pub token_read : Token → Page → Page
token_read token p = if not (is_unseen p.tables)
    then behind_token token (wholly_processed token p)
    else (if is_space_token token then p
    else behind_token token (wholly_processed token (begun_untyped p)))
