-- The steps of a token in a body (HTML Standard 13.2.6.4.7), and before it (13.2.6.4.2 to
-- 13.2.6.4.6).
use Rattle.std.specs.Prelude.{ℕ, zero, suc, Bool, true, false, not, ◌&&◌, ◌||◌, ◌==◌, nat_lt, List, [], length, if◌then◌else◌, codes, map, Option, Some, None, is_some, option_map}
use Rattle.html_names_core.specs.Names.{listed_names, stands_in}
use Rattle.html_dom_tree.specs.{Attributes.{first}, Tree.{TextPair}}
use Rattle.html_page_names.specs.{ForeignNames.{lowered, svg_names, svg_attrs, math_attrs, with_capitals}, PageNames.{is, of}}
use Rattle.html_page_stack.specs.Adoption.{adopted_from, furthest_block}
use Rattle.html_page_stack.specs.Formats.{Format, has_value, is_listed, is_named, is_open, is_same, last_entry, without_entry}
use Rattle.html_page_stack.specs.OpenElements.{OpenElement, at, bounds, hold_template, is_at, is_opened, in_scope, is_near, reaches, has_item, root_alone}
use Rattle.html_page_stack.specs.Pages.{Page, StartTag, Token, Char, Start, End, Finish, has_template, is_full, merged, not_made, noted, noted_if, refused, template_closed, template_opened, thoroughly_closed, with_char, added_in, body_destination, added_to, opened, opened_in, opened_to, closed, closed_around, closed_to, closed_to_goal, implied_closed, no_name, closed_over, closed_in, reconstructed, Turn, Taken, Again, taken_with}
use Rattle.html_page_stack.specs.declared.error.PageError.TheVariants as error
use Rattle.html_page_stack.specs.declared.fault.PageRefusal.TheVariants as refusal
use Rattle.html_page_names.specs.declared.kind.Kind.{Kind}
use Rattle.html_page_names.specs.declared.kind.Kind.TheVariants as kind
use Rattle.html_page_stack.specs.declared.modes.Scope.TheVariants as scope
use Rattle.html_page_stack.specs.declared.modes.{FramesetRule.{FramesetRule}, Space.{Space}, TableRule.{TableRule}, Space.TheVariants.{Html, Svg, MathMl}}
use Rattle.html_page_stack.specs.declared.modes.FramesetRule.TheVariants as frameset
use Rattle.html_page_stack.specs.declared.modes.Destination.{Destination}
use Rattle.html_page_stack.specs.declared.modes.Destination.TheVariants as to
use Rattle.html_page_stack.specs.declared.modes.TableRule.TheVariants as rule

-- whether it is a tab, LF, FF, CR or space; a CR comes only from a reference
abbrev pub is_space : ℕ → Bool
is_space c = (c == 9) || (c == 10) || (c == 12) || (c == 13) || (c == 32)

-- appends an element without content
abbrev pub leaf : StartTag → Page → Page
leaf tag p = added_to (body_destination to.Parent p.stack) Html tag.name tag.attrs p

-- gives the attributes of a second `html` or `body` to the first: `html` is the outermost of the
-- open elements, and `body` the second, if it is open (13.2.6.4.7)
abbrev pub merged_again : StartTag → Page → Page
merged_again tag p = if of kind.Body tag.name then merged 1 (of kind.Body) tag.attrs p
    else merged 0 (of kind.Html) tag.attrs p

-- handles a second `html` or `body`, which is ignored in a `template`
abbrev pub repeated : StartTag → Page → Page
repeated tag p = if length tag.attrs == 0 || has_template p then noted error.SecondStartTag p
    else merged_again tag (noted error.MergedAttributes p)

abbrev pub head_element : Destination → StartTag → Page → Page
head_element destination tag p =
    if of kind.HeadLeaf tag.name then added_to destination Html tag.name tag.attrs p
    else (if of kind.Template tag.name then template_opened destination tag.attrs p
    else opened_to destination Html tag.name tag.attrs p)

-- the name of an element of SVG or MathML, with its capitals (13.2.6.5)
abbrev pub foreign_name : Space → List ℕ → List ℕ
foreign_name Svg name = with_capitals svg_names name
foreign_name space name = name

abbrev pub foreign_attr : Space → List ℕ → List ℕ
foreign_attr Svg attr = with_capitals svg_attrs attr
foreign_attr MathMl attr = with_capitals math_attrs attr
foreign_attr space attr = attr

abbrev pub foreign_attrs : Space → List TextPair → List TextPair
foreign_attrs space = map (λ a. (foreign_attr space a.0, a.1))

abbrev pub entered : Space → StartTag → Page → Page
entered space tag p = let name = foreign_name space tag.name in
    let attrs = foreign_attrs space tag.attrs in
    if tag.closed then added_in space name attrs p else opened_in space name attrs p

-- handles any other end tag
abbrev pub other_closed : (name : List ℕ) → Page → Page
other_closed name p = if is_near (is name) p.stack then closed_over (is name) (is name) (is name) p
    else noted error.EndTagWithoutStart p

-- takes the last entry of that name behind the last marker off
abbrev pub format_removed : (name : List ℕ) → Page → Page
format_removed name p = record p { formats = without_entry (is_named name) 0 p.formats }

-- what is done with the element of an entry, and whether it is to be looked for again
pub data Agency : Type 0 where
  Settled : Page → Agency
  Moved : Page → Agency

-- closes the element of an entry with that name and span, and takes the entry off
abbrev pub format_closed : (name : List ℕ) (span : ℕ) → Page → Page
format_closed name span p = let goal = is_opened name span in
    closed_to_goal goal (noted_if (not (at goal p.stack)) error.EndTagOverOpenElements p)

-- handles an entry whose element is in scope, given its furthest block
abbrev pub format_taken : (name : List ℕ) → Format → (block : Option ℕ) → Page → Agency
format_taken name f None p = Settled (format_closed name f.span p)
format_taken name f (Some block) p =
    Moved (adopted_from f block (noted error.NodesAdopted p))

abbrev pub format_ended : (name : List ℕ) → Option Format → Page → Agency
format_ended name None p = Settled (other_closed name p)
format_ended name (Some f) p = if not (is_open f p.stack)
    then Settled (noted error.EndTagOfClosedElement (format_removed name p))
    else (if not (reaches (is_opened name f.span) (bounds scope.General) p.stack)
    then Settled (noted error.EndTagWithoutStart p)
    else format_taken name f (furthest_block f.index p.stack) p)

-- handles the last entry of that name
abbrev pub agency : (name : List ℕ) → Page → Agency
agency name p = format_ended name (last_entry (is_named name) p.formats) p

abbrev pub behind_agency : (Page → Page) → Agency → Page
behind_agency again (Settled p) = p
behind_agency again (Moved p) = again p

-- runs the adoption agency algorithm, at most so many times
unfoldable pub agency_run : (times : ℕ) → (name : List ℕ) → Page → Page
agency_run zero name p = p
agency_run (suc n) name p = behind_agency (agency_run n name) (agency name p)

-- handles the end tag of a formatting element (13.2.6.4.7)
abbrev pub adopted : (name : List ℕ) → Page → Page
adopted name p = if is_at (is name) p.stack && not (is_listed p.stack p.formats) then closed true p
    else agency_run 8 name p

-- closes an element of that name before the next, and records an error
abbrev pub nested_closed : (name : List ℕ) → Page → Page
nested_closed name p = if in_scope scope.General (is name) p.stack
    then closed_to (is name) (implied_closed no_name (noted error.NestedElement p)) else p

abbrev pub select_closed : Page → Page
select_closed p = if in_scope scope.General (of kind.Select) p.stack
    then closed_to (of kind.Select) (noted error.NestedElement p) else p

-- takes the entry of an `a` off, and closes its element if it is open still
abbrev pub anchor_left : (name : List ℕ) → Format → Page → Page
anchor_left name f p = let q = record p { formats = without_entry (is_same f) 0 p.formats } in
    if is_open f p.stack then closed_around (is_opened name f.span) q else q

-- closes an `a` before the next, given the entry of the last one
abbrev pub anchor_ended : (name : List ℕ) → Option Format → Page → Page
anchor_ended name None p = p
anchor_ended name (Some f) p = anchor_left name f (adopted name (noted error.NestedElement p))

abbrev pub anchor_closed : (name : List ℕ) → Page → Page
anchor_closed name p = anchor_ended name (last_entry (is_named name) p.formats) p

abbrev pub p_closed : Page → Page
p_closed p = if in_scope scope.Button (of kind.P) p.stack
    then closed_over (of kind.P) (of kind.P) (of kind.P) p else p

-- closes a list item before the next, and a term or a description before the next of either
abbrev pub item_closed : (kind : Kind) → Page → Page
item_closed kind p = if has_item (of kind) p.stack
    then closed_to (of kind) (implied_closed (of kind) p) else p

abbrev pub heading_closed : Page → Page
heading_closed p = if is_at (of kind.Heading) p.stack
    then closed false (noted error.NestedElement p) else p

-- closes options before the next, and before a rule
abbrev pub option_closed : (name : List ℕ) → Page → Page
option_closed name p = if in_scope scope.General (of kind.Select) p.stack
    then (if of kind.Option name then implied_closed (of kind.Optgroup) p
    else implied_closed no_name p)
    else (if not (of kind.Hr name) && is_at (of kind.Option) p.stack then closed false p else p)

-- closes parts of a ruby annotation before the next
abbrev pub ruby_closed : (name : List ℕ) → Page → Page
ruby_closed name p = if in_scope scope.General (of kind.Ruby) p.stack
    then (if of kind.RubyText name then implied_closed (of kind.Rtc) p
    else implied_closed no_name p)
    else p

-- closes a `p` before a table, except in quirks mode
abbrev pub p_closed_by_table : TableRule → Page → Page
p_closed_by_table rule.ClosesP p = p_closed p
p_closed_by_table rule p = p

abbrev pub table_closes : Page → Page
table_closes p = p_closed_by_table p.tables p

-- closes what the start tag of a block closes before it
abbrev pub closed_before_block : (name : List ℕ) → Page → Page
closed_before_block name p =
    if of kind.ListItem name then p_closed (item_closed kind.ListItem p)
    else (if of kind.DescriptionPart name then p_closed (item_closed kind.DescriptionPart p)
    else (if of kind.Heading name then heading_closed (p_closed p)
    else (if of kind.ClosesP name then p_closed p else p)))

-- closes what a start tag closes before its element
abbrev pub closed_before : (name : List ℕ) → Page → Page
closed_before name p = if of kind.A name then anchor_closed name p
    else (if of kind.Button name then nested_closed name p
    else (if of kind.Input name then select_closed p
    else (if of kind.Table name then table_closes p
    else (if of kind.Option name || of kind.Optgroup name then option_closed name p
    else (if of kind.Hr name then option_closed name (p_closed p)
    else (if of kind.RubyPart name then ruby_closed name p
    else closed_before_block name p))))))

-- closes a `nobr` before the next
abbrev pub nobr_closed : (name : List ℕ) → Page → Page
nobr_closed name p = if of kind.Nobr name && in_scope scope.General (is name) p.stack
    then reconstructed (adopted name (noted error.NestedElement p)) else p

-- handles the formatting elements around an element, before it opens
abbrev pub formatted : (name : List ℕ) → Page → Page
formatted name p =
    if of kind.Unformatted name then p else nobr_closed name (reconstructed p)

abbrev pub inserted : StartTag → Page → Page
inserted tag p = if of kind.Leaf tag.name then leaf tag p
    else (if of kind.Svg tag.name then entered Svg tag p
    else (if of kind.Math tag.name then entered MathMl tag p
    else opened tag.name tag.attrs p))

abbrev pub element_begun : StartTag → Page → Page
element_begun tag p = inserted tag (formatted tag.name (closed_before tag.name p))

-- whether the start tag is ignored: that of a form, while another is begun and no `template` is open
abbrev pub is_nested : (name : List ℕ) → Page → Bool
is_nested name p = not (has_template p) && (of kind.Form name && is_some p.form)

-- whether it is that of a hidden `input`
abbrev pub is_hidden_input : StartTag → Bool
is_hidden_input tag = of kind.Input tag.name
    && has_value (option_map lowered (first tag.attrs (codes "type"))) (codes "hidden")

-- the page in which a `frameset` can no longer take the place of the body
abbrev pub frameset_barred : Page → Page
frameset_barred p = record p { framesets = frameset.Ignored }

-- the same, if the start tag of an element that is shown says so (13.2.6.4.7)
abbrev pub barred_by_tag : StartTag → Page → Page
barred_by_tag tag p =
    if of kind.BarsFrameset tag.name && not (is_hidden_input tag) then frameset_barred p else p

-- the same, if the character is no white space
abbrev pub barred_by_char : ℕ → Page → Page
barred_by_char c p = if is_space c then p else frameset_barred p

-- whether a `frameset` is ignored in the body
abbrev pub is_barred : FramesetRule → Bool
is_barred frameset.Ignored = true
is_barred rule = false

-- opens a `frameset` in the place of the body, with everything in it
abbrev pub body_replaced : StartTag → Page → Page
body_replaced tag p = opened tag.name tag.attrs (noted error.BodyReplaced (record p {
  text = [];
  moved = false;
  stack = root_alone p.stack;
}))

-- handles a `frameset` in a body
abbrev pub frameset_in_body : StartTag → Page → Page
frameset_in_body tag p = if is_barred p.framesets then noted error.IgnoredStartTag p
    else body_replaced tag p

-- handles a start tag by the rules of a body
abbrev pub in_body_begun : StartTag → Page → Turn
in_body_begun tag p = let name = tag.name in
    if of kind.Root name then Taken (repeated tag p)
    else (if of kind.HeadContent name
    then Taken (head_element (body_destination to.Parent p.stack) tag p)
    else (if of kind.Frameset name then Taken (frameset_in_body tag p)
    else (if of kind.Misplaced name
    then taken_with error.IgnoredStartTag p
    else (if of kind.Image name
    then Again (noted error.ImageTag p) (Start (record tag { name = codes "img" }))
    else (if is_nested name p then taken_with error.NestedElement p
    else (if of kind.Select name && in_scope scope.General (of kind.Select) p.stack
    then Taken (select_closed p)
    else Taken (element_begun tag p)))))))

abbrev pub in_body_start : StartTag → Page → Turn
in_body_start tag p = in_body_begun tag (barred_by_tag tag p)

-- closes the `form` with that span, but nothing that is open in it
abbrev pub form_left : (goal : OpenElement → Bool) → Page → Page
form_left goal p =
    closed_around goal (noted_if (not (at goal p.stack)) error.EndTagOverOpenElements p)

-- handles the end tag of a form that was begun
abbrev pub form_ended : (goal : OpenElement → Bool) → Page → Page
form_ended goal p = if reaches goal (bounds scope.General) p.stack
    then form_left goal (implied_closed no_name p) else noted error.EndTagWithoutStart p

-- handles the end tag of a form, given the span of the form that was begun
abbrev pub form_closed : Option ℕ → Page → Page
form_closed None p = noted error.EndTagWithoutStart p
form_closed (Some span) p =
    form_ended (is_opened (codes "form") span) (record p { form = None })

-- handles a `</p>`, which makes an empty `p` if there is none
abbrev pub p_ended : Page → Page
p_ended p = if in_scope scope.Button (of kind.P) p.stack then p_closed p
    else added_in Html (codes "p") [] (noted error.EndTagWithoutStart p)

-- handles the end tag of a form, which in a `template` is any form (13.2.6.4.7)
abbrev pub any_form_closed : Page → Page
any_form_closed p = if has_template p
    then closed_in scope.General (of kind.Form) (of kind.Form) no_name p
    else form_closed p.form p

-- handles a `</template>`
abbrev pub template_ended : Page → Page
template_ended p = if has_template p then (let q = thoroughly_closed p in template_closed
    (noted_if (not (is_at (of kind.Template) q.stack)) error.EndTagOverOpenElements q))
    else noted error.EndTagWithoutStart p

-- handles an end tag that closes an element
abbrev pub element_ended : (name : List ℕ) → Page → Page
element_ended name p = if of kind.Form name then any_form_closed p
    else (if of kind.P name then p_ended p
    else (if of kind.ListItem name then closed_in scope.ListItem (is name) (is name) (is name) p
    else (if of kind.DescriptionPart name
    then closed_in scope.General (is name) (is name) (is name) p
    else (if of kind.Heading name
    then closed_in scope.General (is name) (of kind.Heading) no_name p
    else (if of kind.ClosesInScope name
    then closed_in scope.General (is name) (is name) no_name p
    else (if of kind.Formatting name then adopted name p
    else (if of kind.Template name then template_ended p
    else other_closed name p)))))))

abbrev pub in_body_end : (name : List ℕ) → Page → Turn
in_body_end name p = if of kind.Root name then Taken p
    else (if of kind.Br name
    then in_body_start (record { name = name; attrs = []; closed = false }) (noted error.EndTagBr p)
    else Taken (element_ended name p))

-- handles a character in a body, where U+0000 is dropped
abbrev pub char_in_body : ℕ → Page → Page
char_in_body c p = if c == 0 then p else with_char c (barred_by_char c (reconstructed p))

abbrev pub in_body : Token → Page → Turn
in_body (Char c) p = Taken (char_in_body c p)
in_body (Start tag) p = in_body_start tag p
in_body (End name) p = in_body_end name p
in_body Finish p = Taken p

-- whether an end tag of that name begins a body, as start tags do (13.2.6.4.6)
abbrev pub opens_body : List ℕ → Bool
opens_body name = of kind.Root name || of kind.Br name

-- passes a token over before which an element had to be made that is too deep: a character stands in
-- the deepest open element
abbrev pub passed : Token → Page → Page
passed (Char c) p = with_char c (refused refusal.TooDeep p)
passed (Start tag) p = not_made tag.name p
passed token p = refused refusal.TooDeep p

-- opens an element before the token
abbrev pub implied : (name : List ℕ) → Token → Page → Turn
implied name token p = if is_full p then Taken (passed token p) else Again (opened name [] p) token

-- processes the token again behind an element that it closed, given how many were open; the root
-- stays open, and behind that the token is taken
abbrev pub resumed : Token → (count : ℕ) → Page → Turn
resumed token count p = if nat_lt (length p.stack) count then Again p token else Taken p

-- closes the current node before the token
abbrev pub left : Token → Page → Turn
left token p = resumed token (length p.stack) (closed true p)

-- handles a token before `html` or before `head`, which the token begins or implies
abbrev pub before : (name : List ℕ) → Token → Page → Turn
before name (Char c) p = if is_space c then Taken p else implied name (Char c) p
before name (Start tag) p = if is name tag.name then Taken (opened name tag.attrs p)
    else (if of kind.Html tag.name then Taken (repeated tag p)
    else implied name (Start tag) p)
before name (End n) p = if of kind.Head n || opens_body n
    then implied name (End n) p else taken_with error.EndTagWithoutStart p
before name Finish p = implied name Finish p

abbrev pub in_head : Token → Page → Turn
in_head (Char c) p = if is_space c then Taken (with_char c p) else left (Char c) p
in_head (Start tag) p = if of kind.Html tag.name then Taken (repeated tag p)
    else (if of kind.HeadContent tag.name then Taken (head_element to.Parent tag p)
    else (if of kind.Noscript tag.name then Taken (opened tag.name tag.attrs p)
    else (if of kind.Head tag.name then taken_with error.SecondStartTag p
    else left (Start tag) p)))
in_head (End name) p = if of kind.Head name then Taken (closed true p)
    else (if opens_body name then left (End name) p
    else taken_with error.EndTagWithoutStart p)
in_head Finish p = left Finish p

-- closes a `noscript` of the head before content that can't stand in it
abbrev pub noscript_left : Token → Page → Turn
noscript_left token p = left token (noted error.UnexpectedInNoscript p)

abbrev pub in_head_noscript : Token → Page → Turn
in_head_noscript (Char c) p = if is_space c then Taken (with_char c p)
    else noscript_left (Char c) p
in_head_noscript (Start tag) p = if of kind.Html tag.name then Taken (repeated tag p)
    else (if of kind.NoscriptContent tag.name then Taken (head_element to.Parent tag p)
    else (if of kind.Head tag.name || of kind.Noscript tag.name
    then taken_with error.IgnoredStartTag p else noscript_left (Start tag) p))
in_head_noscript (End name) p = if of kind.Noscript name then Taken (closed true p)
    else (if of kind.Br name then noscript_left (End name) p
    else taken_with error.EndTagWithoutStart p)
in_head_noscript Finish p = noscript_left Finish p

-- what a `frameset` does in a body that no tag begins: a `template` in the head has barred it
abbrev pub frameset_rule : List OpenElement → FramesetRule
frameset_rule os =
    if at (λ o. hold_template o.children) os then frameset.Ignored else frameset.ReplacesBody

-- opens the body before the token
abbrev pub body_implied : Token → Page → Turn
body_implied token p = implied (codes "body") token (record p { framesets = frameset_rule p.stack })

-- puts an element into the head, which is complete already
abbrev pub head_reopened : StartTag → Page → Page
head_reopened tag p = head_element to.Head tag (noted error.HeadReopened p)

abbrev pub after_head : Token → Page → Turn
after_head (Char c) p = if is_space c then Taken (with_char c p) else body_implied (Char c) p
after_head (Start tag) p = if of kind.Html tag.name then Taken (repeated tag p)
    else (if of kind.Body tag.name then Taken (opened tag.name tag.attrs p)
    else (if of kind.Frameset tag.name then Taken (opened tag.name tag.attrs p)
    else (if of kind.HeadContent tag.name then Taken (head_reopened tag p)
    else (if of kind.Head tag.name then taken_with error.SecondStartTag p
    else body_implied (Start tag) p))))
after_head (End name) p = if opens_body name then body_implied (End name) p
    else taken_with error.EndTagWithoutStart p
after_head Finish p = body_implied Finish p

unfoldable pub is_frame : (name : List ℕ) → Bool
is_frame name = stands_in (listed_names (codes "frame")) name

unfoldable pub is_noframes : (name : List ℕ) → Bool
is_noframes name = stands_in (listed_names (codes "noframes")) name

-- the page behind the end tag of a `frameset`, of which the outermost ends the last
abbrev pub frameset_ended : Page → Page
frameset_ended p = if is_at (of kind.Frameset) p.stack then p
    else record p { framesets = frameset.Behind }

-- handles a token in a `frameset` (13.2.6.4.20)
abbrev pub in_frameset : Token → Page → Turn
in_frameset (Char c) p = if is_space c then Taken (with_char c p)
    else taken_with error.IgnoredText p
in_frameset (Start tag) p = if of kind.Html tag.name then Taken (repeated tag p)
    else (if of kind.Frameset tag.name then Taken (opened tag.name tag.attrs p)
    else (if is_frame tag.name then Taken (leaf tag p)
    else (if is_noframes tag.name then Taken (head_element to.Parent tag p)
    else taken_with error.IgnoredStartTag p)))
in_frameset (End name) p = if of kind.Frameset name then Taken (frameset_ended (closed true p))
    else taken_with error.EndTagWithoutStart p
in_frameset Finish p = Taken p

-- whether `html` has ended behind a `frameset`
abbrev pub is_behind_html : FramesetRule → Bool
is_behind_html frameset.BehindHtml = true
is_behind_html rule = false

-- handles a token behind a `frameset` in `html` (13.2.6.4.21 and 13.2.6.4.23)
abbrev pub after_frameset : Token → Page → Turn
after_frameset (Char c) p = if is_space c
    then Taken (with_char c (if is_behind_html p.framesets then reconstructed p else p))
    else taken_with error.IgnoredText p
after_frameset (Start tag) p = if of kind.Html tag.name then Taken (repeated tag p)
    else (if is_noframes tag.name then Taken (head_element to.Parent tag p)
    else taken_with error.IgnoredStartTag p)
after_frameset (End name) p = if of kind.Html name
    then Taken (record p { framesets = frameset.BehindHtml })
    else taken_with error.EndTagWithoutStart p
after_frameset Finish p = Taken p

-- handles a token in an element of text alone: its characters, and its end tag
abbrev pub in_text : Token → Page → Turn
in_text (Char c) p = Taken (with_char c p)
in_text (Start tag) p = Taken p
in_text (End name) p = Taken (closed true p)
in_text Finish p = left Finish p
