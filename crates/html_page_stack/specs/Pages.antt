-- The state of a page that is being read, and the steps that its tokens take: they open and close
-- elements (HTML Standard 13.2.4 and 13.2.6).
use Rattle.std.specs.Prelude.{ℕ, zero, suc, ◌+◌, min, Bool, true, false, not, ◌&&◌, ◌||◌, ◌==◌, nat_lt, nat_le, List, [], ◌∷◌, ◌++◌, codes, drop, length, reverse, if◌then◌else◌, Option, Some, None}
use Rattle.html_dom_tree.specs.Tree.{TextPair, Head, none}
use Rattle.html_page_stack.specs.Copies.{copy_size, spare_at}
use Rattle.html_page_stack.specs.Formats.{Format, Formats, after_current, before_closed, closed_entries, ends_closed, entered}
use Rattle.html_page_stack.specs.OpenElements.{OpenElement, at, attr_count_at, before_table, with_attrs_at, is_of, is_at, is_table_context, in_scope, removed, uncovered, with_last_text, with_text, without_current}
use Rattle.html_page_names.specs.PageNames.{is, of}
use Rattle.html_page_names.specs.declared.kind.Kind.TheVariants as kind
use Rattle.html_page_stack.specs.declared.error.PageError.{PageError}
use Rattle.html_page_stack.specs.declared.error.PageError.TheVariants as error
use Rattle.html_page_stack.specs.declared.fault.PageRefusal.{PageRefusal}
use Rattle.html_page_stack.specs.declared.fault.PageRefusal.TheVariants as refusal
use Rattle.html_page_stack.specs.declared.modes.{Destination.{Destination}, Destination.TheVariants.{Parent, Replaced, BeforeTable, ReplacedBeforeTable}, Scope.{Scope}}
use Rattle.html_page_stack.specs.declared.modes.{FramesetRule.{FramesetRule}, Space.{Space}, TableRule.{TableRule}, Space.TheVariants.{Html}}
use Rattle.html_page_stack.specs.declared.modes.FramesetRule.TheVariants as frameset
use Rattle.html_page_stack.specs.declared.modes.TemplateMode.{TemplateMode, TheVariants.{Unset}}
use Rattle.html_page_stack.specs.declared.modes.TableRule.TheVariants as rule

-- the errors that the reader recovered from: their number (at most that of 32 bits), and the first
-- ten, each with its offset in bytes
pub record Notes : Type 0 where
  pub count : ℕ
  pub first : List (PageError × ℕ)

abbrev pub with_note : PageError → (place : ℕ) → Notes → Notes
with_note e place notes = record {
  count = min (notes.count + 1) 0xffff_ffff;
  first = if nat_lt (length notes.first) 10 then notes.first ++ (e, place) ∷ [] else notes.first;
}

pub record Page : Type 0 where
  -- the text since the last child of the current node
  pub text : List ℕ
  -- whether it is moved before the nearest table
  pub moved : Bool
  -- the open elements, innermost first
  pub stack : List OpenElement
  -- the active formatting elements, the last first
  pub formats : Formats
  -- the bytes of the tags of those elements that were made again
  pub copied : ℕ
  -- the span of the `form` that was begun last, unless its end tag ended it (13.2.4.4)
  pub form : Option ℕ
  -- the modes of the open `template` elements, innermost first (13.2.4.1)
  pub templates : List TemplateMode
  -- the names of the elements that were too deep to be made, and whose end tags are to come, the last
  -- first; they are open as long as the deepest open element is
  pub unmade : List (List ℕ)
  pub tables : TableRule
  pub framesets : FramesetRule
  -- the greatest depth of elements
  pub limit : ℕ
  -- the offset of the token in bytes
  pub start : ℕ
  pub notes : Notes
  -- the first reason why the page is refused, with the offset of its place in bytes
  pub refusal : Option (PageRefusal × ℕ)

-- a page of which nothing is read
abbrev pub first_page : (limit : ℕ) → Page
first_page limit = record {
  text = [];
  moved = false;
  stack = [];
  formats = [];
  copied = 0;
  form = None;
  templates = [];
  unmade = [];
  tables = rule.Unseen;
  framesets = frameset.Ignored;
  limit = limit;
  start = 0;
  notes = record { count = 0; first = [] };
  refusal = None;
}

pub record StartTag : Type 0 where
  pub name : List ℕ
  pub attrs : List TextPair
  -- whether it ends in `/>`
  pub closed : Bool

pub data Token : Type 0 where
  Char : ℕ → Token
  Start : StartTag → Token
  End : (name : List ℕ) → Token
  -- the end of the page
  Finish : Token

abbrev pub first_of : {A : Type 0} → Option A → A → Option A
first_of None a = Some a
first_of (Some first) a = Some first

-- refuses the page for what stands at that place, unless it is refused already; what follows is read
-- all the same
abbrev pub refused_at : PageRefusal → (place : ℕ) → Page → Page
refused_at r place p = record p { refusal = first_of p.refusal (r, place) }

-- refuses the page for the token
abbrev pub refused : PageRefusal → Page → Page
refused r p = refused_at r p.start p

-- records an error at the token
abbrev pub noted : PageError → Page → Page
noted e p = record p { notes = with_note e p.start p.notes }

abbrev pub noted_if : Bool → PageError → Page → Page
noted_if is_error e p = if is_error then noted e p else p

abbrev pub with_char : ℕ → Page → Page
with_char c p = record p { text = p.text ++ c ∷ [] }

abbrev pub with_chars : List ℕ → Page → Page
with_chars cs p = record p { text = p.text ++ cs }

-- makes the text a child of the current node, or of the element around the nearest table
abbrev pub settled : Page → Page
settled p = record p {
  text = [];
  moved = false;
  stack = if p.moved then before_table (with_text p.text) p.stack
      else with_last_text p.text p.stack;
}

-- whether a `template` is open
abbrev pub has_template : Page → Bool
has_template p = not (length p.templates == 0)

-- opens an element; a form outside of templates is begun
abbrev pub with_element : OpenElement → Page → Page
with_element o p = record p {
  stack = o ∷ p.stack;
  formats = entered o (length p.stack) p.formats;
  form = if not (has_template p) && is_of (of kind.Form) o then Some o.head.span else p.form;
  unmade = [];
}

-- the head of an element that a tag makes; its span is the offset in bytes of the token that opens
-- it
abbrev pub page_head : (name : List ℕ) → List TextPair → (start : ℕ) → Head
page_head name attrs start = record {
  name = name;
  attrs = attrs;
  css = [];
  parent = None;
  span = start;
  pre_span = false;
}

-- the element that a tag makes, without children
abbrev pub made : Destination → Space → (name : List ℕ) → List TextPair → (start : ℕ) → OpenElement
made destination space name attrs start = record {
  head = page_head name attrs start;
  space = space;
  destination = destination;
  children = none;
  behind = none;
}

-- whether an element in the current node would be too deep
abbrev pub is_full : Page → Bool
is_full p = nat_le p.limit (length p.stack)

-- refuses the page for an element that is too deep, and passes its start tag over
abbrev pub not_made : (name : List ℕ) → Page → Page
not_made name p = refused refusal.TooDeep (record p { unmade = name ∷ p.unmade })

-- opens an element, unless it is too deep (13.2.6.1)
abbrev pub opened_to : Destination → Space → (name : List ℕ) → List TextPair → Page → Page
opened_to destination space name attrs p = if is_full p then not_made name p
    else with_element (made destination space name attrs p.start) (settled p)

-- where an element of that name stands: names that begin with `-` stand for those that no element
-- can have
abbrev pub destination_of : (name : List ℕ) → Destination
destination_of [] = Parent
destination_of (c ∷ cs) = if c == 45 then Replaced else Parent

-- the destination before the nearest table for one in the current node
abbrev pub fostered : Destination → Destination
fostered Replaced = ReplacedBeforeTable
fostered d = BeforeTable

-- the destination of what the rules of a body insert, where they would put it into the current node
abbrev pub body_destination : Destination → List OpenElement → Destination
body_destination d os = if at is_table_context os then fostered d else d

abbrev pub opened_in : Space → (name : List ℕ) → List TextPair → Page → Page
opened_in space name attrs p =
    opened_to (body_destination (destination_of name) p.stack) space name attrs p

abbrev pub opened : (name : List ℕ) → List TextPair → Page → Page
opened = opened_in Html

-- opens an element in the current node, also if that is a table
abbrev pub opened_here : (name : List ℕ) → List TextPair → Page → Page
opened_here name attrs p = opened_to (destination_of name) Html name attrs p

-- whether an element was too deep to be made, and its end tag is to come
abbrev pub has_unmade : Page → Bool
has_unmade p = not (length p.unmade == 0)

-- the names behind the first that is this one, among so many
abbrev pub names_behind : (names : List (List ℕ)) (among : ℕ) (name : List ℕ) →
    Option (List (List ℕ))
names_behind [] among name = None
names_behind (n ∷ ns) zero name = None
names_behind (n ∷ ns) (suc among) name =
    if is name n then Some ns else names_behind ns among name

-- the names whose end tags are to come behind that of such an element: it is the last of that name
-- that was not made, among as many as may be open
abbrev pub passed_end : (name : List ℕ) → Page → Option (List (List ℕ))
passed_end name p = names_behind p.unmade (if is_full p then p.limit else 0) name

-- the greatest number of attributes of an element
abbrev pub most_attrs : ℕ
most_attrs = 256

-- gives the attributes of another tag to the element of HTML at that index, outermost first, if its
-- name passes the test, but for those that it has; refuses the page if both have more than one
-- element may have
abbrev pub merged : (index : ℕ) (test : List ℕ → Bool) (others : List TextPair) → Page → Page
merged index test others p =
    if nat_lt most_attrs (attr_count_at index test (reverse p.stack) + length others)
    then refused refusal.TooManyAttributes p
    else record p { stack = reverse (with_attrs_at index test others (reverse p.stack)) }

-- the form that is begun once the current node is closed, by its own end tag or another
abbrev pub form_after : (own : Bool) → List OpenElement → Option ℕ → Option ℕ
form_after own os form = if is_at (of kind.Form) os && own then None else form

-- the same in a page, where forms in templates do not count
abbrev pub form_behind : (own : Bool) → Page → Option ℕ
form_behind own p = if has_template p then p.form else form_after own p.stack p.form

-- closes the current node, whose text is already a child of it, by its own end tag or another
abbrev pub settled_closed : (own : Bool) → Page → Page
settled_closed own p = record p {
  stack = uncovered (without_current p.stack);
  formats = after_current own p.stack p.formats;
  form = form_behind own p;
}

abbrev pub closed : (own : Bool) → Page → Page
closed own p = settled_closed own (settled p)

-- closes the nearest element that is a goal, but nothing that is open in it (13.2.6.4.7, end tags of
-- `form` and start tags of `a`)
abbrev pub closed_around : (goal : OpenElement → Bool) → Page → Page
closed_around goal p = if at goal p.stack then closed true p
    else record p { stack = removed goal p.stack }

-- appends an element without children, unless it is too deep
abbrev pub added_to : Destination → Space → (name : List ℕ) → List TextPair → Page → Page
added_to destination space name attrs p = if is_full p then refused refusal.TooDeep p
    else closed true (with_element (made destination space name attrs p.start) (settled p))

abbrev pub added_in : Space → (name : List ℕ) → List TextPair → Page → Page
added_in space name attrs p =
    added_to (body_destination (destination_of name) p.stack) space name attrs p

-- closes the current node while the condition holds, at most so many times
abbrev pub closed_while : (goes_on : List OpenElement → Bool) → (at_most : ℕ) → Page → Page
closed_while goes_on zero p = p
closed_while goes_on (suc n) p =
    if goes_on p.stack then closed_while goes_on n (closed false p) else p

-- closes the nearest element that is a goal, with everything in it
abbrev pub closed_to_goal : (goal : OpenElement → Bool) → Page → Page
closed_to_goal goal p = closed true (closed_while (λ os. not (at goal os)) (length p.stack) p)

abbrev pub closed_to : (test : List ℕ → Bool) → Page → Page
closed_to test = closed_to_goal (is_of test)

-- closes elements whose end tag is implied, except those with these names (13.2.6.3)
abbrev pub implied_closed : (but : List ℕ → Bool) → Page → Page
implied_closed but p =
    closed_while (is_at (λ n. of kind.Implied n && not (but n))) (length p.stack) p

abbrev pub no_name : List ℕ → Bool
no_name name = false

-- closes elements whose end tag is implied at the end of a `template` (13.2.6.3, generate all implied
-- end tags thoroughly)
abbrev pub thoroughly_closed : Page → Page
thoroughly_closed p =
    closed_while (is_at (λ n. of kind.Implied n || of kind.TablePart n)) (length p.stack) p

-- closes the innermost `template` with everything in it
abbrev pub template_closed : Page → Page
template_closed p = let q = closed_to (of kind.Template) p in
    record q { templates = drop 1 q.templates }

-- opens a `template`, unless it is too deep; a `frameset` can no longer take the place of the body
abbrev pub template_opened : Destination → List TextPair → Page → Page
template_opened destination attrs p = let q = opened_to destination Html (codes "template") attrs p in
    if is_full p then q
    else record q { templates = Unset ∷ q.templates; framesets = frameset.Ignored }

-- closes the nearest element of HTML whose name passes `test`; records an error unless the current
-- node is the named one
abbrev pub closed_named : (named test : List ℕ → Bool) → Page → Page
closed_named named test p =
    closed_to test (noted_if (not (is_at named p.stack)) error.EndTagOverOpenElements p)

-- closes elements whose end tag is implied, and then such an element
abbrev pub closed_over : (named test but : List ℕ → Bool) → Page → Page
closed_over named test but p = closed_named named test (implied_closed but p)

-- closes such an element by its end tag, or records an error if it is not in scope
abbrev pub closed_in : Scope → (named test but : List ℕ → Bool) → Page → Page
closed_in scope named test but p = if in_scope scope test p.stack then closed_over named test but p
    else noted error.EndTagWithoutStart p

-- opens an element for an entry, which stands on the list for it then
abbrev pub reopened : Format → Page → Page
reopened f p = record p {
  stack = made (body_destination Parent p.stack) Html f.name f.attrs f.span ∷ p.stack;
  formats = Some (record f { index = length p.stack }) ∷ p.formats;
  copied = p.copied + copy_size f;
  unmade = [];
}

-- refuses the page, and leaves the entry as it is
abbrev pub kept_closed : PageRefusal → Format → Page → Page
kept_closed r f p = refused r (record p { formats = Some f ∷ p.formats })

-- opens an element for an entry again, unless it is too deep, or too much was made again
abbrev pub opened_again : Format → Page → Page
opened_again f p = if is_full p then kept_closed refusal.TooDeep f p
    else (if nat_le (copy_size f) (spare_at p.start p.copied) then reopened f (settled p)
    else kept_closed refusal.TooManyCopies f p)

-- opens elements for entries again, the first entry first
abbrev pub all_opened_again : List Format → Page → Page
all_opened_again [] p = p
all_opened_again (f ∷ fs) p = all_opened_again fs (opened_again f p)

-- takes the entries off whose elements were closed behind the last marker and the last open one
abbrev pub without_closed : Page → Page
without_closed p = record p { formats = before_closed p.stack p.formats }

-- opens elements for these entries again
abbrev pub closed_opened_again : Page → Page
closed_opened_again p =
    all_opened_again (reverse (closed_entries p.stack p.formats)) (without_closed p)

-- makes the formatting elements again that other tags closed (13.2.4.3)
abbrev pub reconstructed : Page → Page
reconstructed p = if ends_closed p.stack p.formats
    then closed_opened_again (noted error.FormattingReopened p) else p

-- the result of a mode's rules for a token: they take it, or process it again
pub data Turn : Type 0 where
  Taken : Page → Turn
  Again : Page → Token → Turn

abbrev pub taken_with : PageError → Page → Turn
taken_with e p = Taken (noted e p)
