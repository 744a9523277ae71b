-- An element is opened by its start tag, and closed at once where it is its start tag alone.
use Rattle.std.{proofs.Common.{◌≡◌, ℕ, ◌<◌, Bool, true, false, not, ◌||◌, List, [], ◌∷◌, length, refl, sym, ap, ◌∙◌}, specs.Prelude.{if◌then◌else◌}}
use Rattle.std.proofs.lemmas.Bool.{both_ways, false≢true, false_from_ne_true, lt-leb, not-false, not-true, or_from, or_right}
use Rattle.html_names_core.specs.{Characters.{is_capital, is_lower}, Kinds.{is_void, void_names}}
use Rattle.html_dom_tree.specs.Tree.{TextPair}
use Rattle.html_page_nesting.specs.{Contents.{has_unread_end}, WrittenTags.{begins_with_letter}}
use Rattle.html_page_read.proofs.PageStretches.{other}
use Rattle.html_page_names.specs.PageNames.{of}
use Rattle.html_page_names.specs.declared.kind.Kind.TheVariants as kind
use Rattle.html_page_stack.specs.Pages.{Page, StartTag, added_in, added_to, destination_of, closed, opened, opened_here, opened_in, opened_to, settled, template_opened, with_element}
use Rattle.html_page_stack.specs.{OpenElements.{at, is_table_context}, Pages.{made as tag_made}}
use Rattle.html_page_stack.specs.declared.modes.{Destination.TheVariants.{Parent}, Space.{Space}}
use Rattle.html_page_stack.specs.declared.modes.FramesetRule.TheVariants as frameset
use Rattle.html_page_stack.specs.declared.modes.Space.TheVariants as spaces
use Rattle.html_page_tree.specs.PageBodies.{entered, head_element, leaf}
use Rattle.typst_html_nesting_laws.proofs.{Branches.{either, pick, second_false, second_true, skip}, KindFacts.{agree_in, fails_of, names, passes_of}, Tables.{parent_there}, Templates.{modes_if}}

-- the page with an element opened
abbrev pub made : Space → (name : List ℕ) → List TextPair → Page → Page
made space name attrs p = with_element (tag_made Parent space name attrs p.start) (settled p)

-- what a start tag leads to, by whether the element is its start tag alone
abbrev pub one_of : (at_once : Bool) → Page → Page
one_of at_once q = if at_once then closed true q else q

-- once the element is a `template`
abbrev pub template_begun : Page → Page
template_begun q = record q { templates = modes_if true q.templates; framesets = frameset.Ignored }

-- what a start tag of HTML leads to, by its name
abbrev pub opened_as : (name : List ℕ) → Page → Page
opened_as name q = if of kind.Template name then template_begun q else one_of (is_void name) q

pub opened_plain : (n : List ℕ) (q : Page) → of kind.Template n ≡ false →
    one_of (is_void n) q ≡ opened_as n q
opened_plain n q h = sym (skip _ h refl)

pub adds : (space : Space) (name : List ℕ) (attrs : List TextPair) (p : Page) →
    length p.stack < p.limit → added_to Parent space name attrs p ≡ closed true (made space name attrs p)
adds space name attrs p h = rw (lt-leb p.limit (length p.stack) h) refl

-- a name that begins with a letter is that of its element
pub letter_plain : (name : List ℕ) → begins_with_letter name ≡ true → destination_of name ≡ Parent
letter_plain [] h = absurd (false≢true h)
letter_plain (c ∷ cs) h = rw (other (λ d. is_lower d || is_capital d) c 45 h refl) refl

pub opens_to : (space : Space) (name : List ℕ) (attrs : List TextPair) (p : Page) →
    length p.stack < p.limit → opened_to Parent space name attrs p ≡ made space name attrs p
opens_to space name attrs p h = rw (lt-leb p.limit (length p.stack) h) refl

pub opens : (space : Space) (name : List ℕ) (attrs : List TextPair) (p : Page) →
    destination_of name ≡ Parent → at is_table_context p.stack ≡ false →
    length p.stack < p.limit → opened_in space name attrs p ≡ made space name attrs p
opens space name attrs p plain outside h =
    ap (λ d. opened_to d space name attrs p) (skip _ outside plain)
    ∙ opens_to space name attrs p h

-- by the rules of a table, also in one
pub opens_here : (name : List ℕ) (attrs : List TextPair) (p : Page) →
    destination_of name ≡ Parent → length p.stack < p.limit →
    opened_here name attrs p ≡ made spaces.Html name attrs p
opens_here name attrs p plain h = ap (λ d. opened_to d spaces.Html name attrs p) plain
    ∙ opens_to spaces.Html name attrs p h

pub adds_in : (space : Space) (name : List ℕ) (attrs : List TextPair) (p : Page) →
    destination_of name ≡ Parent → at is_table_context p.stack ≡ false →
    length p.stack < p.limit → added_in space name attrs p ≡ closed true (made space name attrs p)
adds_in space name attrs p plain outside h =
    ap (λ d. added_to d space name attrs p) (skip _ outside plain) ∙ adds space name attrs p h

-- a tag opens that element by the rules of HTML, those of a body where they insert into the current
-- node
pub record Opens (tag : StartTag) (p q : Page) : Type 0 where
  pub plain : at is_table_context p.stack ≡ false → of kind.Svg tag.name ≡ false →
      of kind.Math tag.name ≡ false → opened tag.name tag.attrs p ≡ q
  pub here : of kind.Svg tag.name ≡ false → of kind.Math tag.name ≡ false →
      opened_here tag.name tag.attrs p ≡ q
  pub placed : of kind.Svg tag.name ≡ false → of kind.Math tag.name ≡ false →
      opened_to Parent spaces.Html tag.name tag.attrs p ≡ q
  pub added : of kind.Svg tag.name ≡ false → of kind.Math tag.name ≡ false →
      added_to Parent spaces.Html tag.name tag.attrs p ≡ closed true q
  pub svg : at is_table_context p.stack ≡ false → of kind.Svg tag.name ≡ true →
      entered spaces.Svg tag p ≡ q
  pub math : at is_table_context p.stack ≡ false → of kind.Math tag.name ≡ true →
      entered spaces.MathMl tag p ≡ q
  pub template : of kind.Template tag.name ≡ true →
      template_opened Parent tag.attrs p ≡ template_begun q

-- elements that are their start tags alone

-- one whose end tag would not be read
pub void_of : (n : List ℕ) → has_unread_end n ≡ false →
    (of kind.Leaf n || of kind.HeadLeaf n) ≡ true → is_void n ≡ true
void_of n h k = not-false _ (second_false h k)

pub not_void : (n : List ℕ) → of kind.Leaf n ≡ false → of kind.HeadLeaf n ≡ false →
    of kind.Col n ≡ false → is_void n ≡ false
unfolding names
not_void n a b c =
    let test = λ (m : List ℕ). (of kind.Leaf m || of kind.HeadLeaf m) || of kind.Col m in
    false_from_ne_true _ (λ e. both_ways _
    (or_from _ _ (or_from _ _ a b) c) (agree_in test (λ m. true) void_names n refl e))

-- elements of the head
module _ (tag : StartTag) (p q : Page) (ops : Opens tag p q) where
  pub leaf_begun : at is_table_context p.stack ≡ false → of kind.Svg tag.name ≡ false →
      of kind.Math tag.name ≡ false → leaf tag p ≡ closed true q
  leaf_begun outside a b =
      ap (λ d. added_to d spaces.Html tag.name tag.attrs p) (parent_there p.stack outside)
      ∙ ops.added a b

  pub head_begun : of kind.HeadContent tag.name ≡ true → has_unread_end tag.name ≡ false →
      head_element Parent tag p ≡ opened_as tag.name q
  head_begun h e =
      let svg = fails_of (of kind.Svg) kind.HeadContent tag.name (unfold names in refl) h in
      let math = fails_of (of kind.Math) kind.HeadContent tag.name (unfold names in refl) h in
      let leaf_or_whole = passes_of (λ n. of kind.HeadLeaf n || not (is_void n)) kind.HeadContent
      tag.name (unfold names in refl) h in
      either (of kind.HeadLeaf tag.name)
      (λ k. rw (
        void_of tag.name e (or_right _ _ k),
        fails_of (of kind.Template) kind.HeadLeaf tag.name (unfold names in refl) k,
      ) (ops.added svg math))
      (λ k. either (of kind.Template tag.name) (λ t. ops.template t ∙ sym (pick _ t refl))
      (λ t. rw (not-true (is_void tag.name) (second_true leaf_or_whole k), t)
      (ops.placed svg math)))
