-- The program's page, tokens and searches as those of the definition.
use Rattle.std.specs.Prelude.{ℕ, Bool, false, not, ◌&&◌, ◌||◌, List, option_map, reverse}
use Rattle.html_dom_tree.specs.Views.{attrs_view, text_view}
use Rattle.html_page_names.specs.PageNames.{is, of}
pub use Rattle.html_page_stack.specs.ElementViews.{element_of, list_of}
pub use Rattle.html_page_stack.specs.FormatViews.{entries_of, format_of, formats_of}
use Rattle.html_page_stack.specs.OpenElements as elements
use Rattle.html_page_stack.specs.OpenElements.{OpenElement, bounds, bounds_item, holds_tags, is_html, is_of, is_opened, is_special, is_foreign_of}
use Rattle.html_page_stack.specs.Pages as pages
use Rattle.html_page_names.specs.declared.kind.Kind.TheVariants as kind
use Rattle.html_page_stack.specs.declared.{notes.Notes.{Notes}, page.Page.{Page}, search.Bound.{Bound}}
use Rattle.html_page_stack.specs.declared.search.Bound.TheVariants as bound
use Rattle.html_page_stack.specs.Formats.{Format, is_alike, is_entry_of, is_named, is_same}
use Rattle.html_page_stack.specs.declared.formats.Entry.{Entry}
use Rattle.html_page_stack.specs.declared.formats.Entry.TheVariants as entry
use Rattle.html_page_stack.specs.declared.search.Goal.{Goal}
use Rattle.html_page_stack.specs.declared.search.Goal.TheVariants as goal
use Rattle.html_page_stack.specs.declared.search.Target.{Target}
use Rattle.html_page_stack.specs.declared.search.Target.TheVariants as target
use Rattle.html_page_stack.specs.declared.search.While.{While}
use Rattle.html_page_stack.specs.declared.search.While.TheVariants as while
use Rattle.html_page_stack.specs.declared.{stack.Stack.{Stack}, token.StartTag.{StartTag}, token.Token.{Token}}
use Rattle.html_page_stack.specs.declared.token.Token.TheVariants as token

abbrev pub stack_of : Stack → List OpenElement
stack_of s = list_of s.items.items

abbrev pub notes_of : Notes → pages.Notes
notes_of notes = record { count = notes.count; first = notes.first.items }

abbrev pub page_of : Page → pages.Page
page_of p = record {
  text = text_view p.text;
  moved = p.moved;
  stack = stack_of p.stack;
  formats = formats_of p.formats;
  copied = p.copied;
  form = option_map (λ span. span.0) p.form;
  templates = reverse p.templates.items;
  unmade = reverse p.unmade.items;
  tables = p.tables;
  framesets = p.framesets;
  limit = p.limit;
  start = p.start;
  notes = notes_of p.notes;
  refusal = p.refusal;
}

abbrev pub start_of : StartTag → pages.StartTag
start_of t = record { name = t.name.tag; attrs = attrs_view t.attrs; closed = t.closed }

abbrev pub token_of : Token → pages.Token
token_of (token.Char c) = pages.Char c
token_of (token.Start tag) = pages.Start (start_of tag)
token_of (token.End name) = pages.End name.tag
token_of token.Finish = pages.Finish

abbrev pub target_test : Target → List ℕ → Bool
target_test (target.Kind k) = of k
target_test (target.Named tag) = is tag.now
target_test target.Nothing = pages.no_name

abbrev pub goal_test : Goal → OpenElement → Bool
goal_test (goal.Of t) = is_of (target_test t)
goal_test (goal.Opened tag span) = is_opened tag.now span.0
goal_test (goal.Foreign tag) = is_foreign_of tag.now
goal_test goal.HoldsTags = holds_tags

abbrev pub entry_test : Entry → Format → Bool
entry_test (entry.Named tag) = is_named tag.now
entry_test (entry.Of e index) = is_entry_of (element_of e.now) index
entry_test (entry.Alike e) = is_alike (element_of e.now)
entry_test (entry.Same f) = is_same (format_of f.now)

abbrev pub while_test : While → List OpenElement → Bool
while_test (while.Above g) = λ os. not (elements.at (goal_test g) os)
while_test (while.Implied but) =
    elements.is_at (λ n. of kind.Implied n && not (target_test but n))
while_test while.ImpliedThoroughly = elements.is_at (λ n. of kind.Implied n || of kind.TablePart n)
while_test (while.InPart k) = λ os. not (elements.is_at
    (λ n. of k n || of kind.Template n || of kind.Html n) os)

abbrev pub bound_test : Bound → OpenElement → Bool
bound_test (bound.Scope s) = bounds s
bound_test bound.Special = is_special
bound_test bound.Item = bounds_item
bound_test bound.Html = λ o. is_html o.space
bound_test bound.Nothing = λ o. false
