-- A start tag whose name and attributes keep their case is read as it is.
use Rattle.std.proofs.{Common.{◌≡◌, ℕ, ◌<◌, Bool, true, false, not, ◌||◌, List, codes, length, map-id, refl, sym, ap, ◌∙◌}, lemmas.Bool.{and_from, and_right, false≢true, lt-leb, or_from}}
use Rattle.std.specs.Prelude.{if◌then◌else◌}
use Rattle.html_names_core.specs.Kinds.{is_foreign_self_closing, is_void}
use Rattle.html_dom_tree.specs.{Attributes.{names_differ}, Tree.{TextPair, Head}}
use Rattle.html_page_nesting.specs.{Ancestors.{Ancestor, begun_space, is_html, is_read_as_html, reading_of, space_of}, declared.reading.Space.{Space}}
use Rattle.html_page_nesting.specs.{WrittenTags.{capital_attrs, capital_tags, keep_case}, declared.reading.Reading.{Reading}}
use Rattle.html_page_nesting.specs.declared.reading.Space.TheVariants.{Html, Svg, MathMl}
use Rattle.html_page_nesting.specs.declared.reading.Reading.TheVariants as reading
use Rattle.html_page_names.specs.{ForeignNames.{keeps_case, lowered, svg_attrs, svg_names, math_attrs}, PageNames.{of}}
use Rattle.html_page_names.specs.declared.kind.Kind.TheVariants as kind
use Rattle.html_page_stack.specs.{OpenElements.{OpenElement, at, is_table_context}, Pages.{Page, StartTag, added_to, closed, opened, opened_here, opened_to, settled, template_opened, with_element}}
use Rattle.html_page_stack.specs.OpenElements as open_elements
use Rattle.html_page_stack.specs.declared.modes.{Destination.TheVariants.{Parent}}
use Rattle.html_page_stack.specs.declared.modes.FramesetRule.TheVariants as frameset
use Rattle.html_page_stack.specs.declared.modes.Space.TheVariants as spaces
use Rattle.html_page_tree.specs.PageBodies.{entered, foreign_attrs, foreign_name}
use Rattle.typst_html_nesting_laws.proofs.Capitals.{attrs_back, attrs_come_back, attrs_small, capitals_back, names_lowered_differ, small_back}
use Rattle.typst_html_nesting_laws.proofs.{KindFacts.{agree_of, fails_of, names}, Opened.{Opens, adds, adds_in, letter_plain, made, one_of, opened_as, opens, opens_here, opens_to, template_begun}, Rules.{TagFits}}
use Rattle.typst_html_nesting_laws.proofs.{Readers.{lowered_attrs, written_tag}, RootParts.{name_of}, Templates.{is_template, modes_if}, Ways.{begun, begun_element, open_space}}
use Rattle.typst_html_nesting_laws.proofs.Branches.{decide, pick, skip}

-- its attributes differ in small letters
pub lowered_differ : (s : Space) (h : Head) → TagFits s h →
    names_differ (lowered_attrs h.attrs) ≡ true
lowered_differ s h kept = names_lowered_differ (capital_attrs s) h.attrs (attrs_come_back s)
    kept.attrs kept.differ

-- and its name is that of an element of HTML
pub small_html : (s : Space) (n : List ℕ) → is_html s ≡ true →
    keeps_case (capital_tags s) n ≡ true → lowered n ≡ n
small_html Html n html h = small_back n h
small_html s n html h = absurd (false≢true html)

-- the names that the reader gives them

name_back : (s : Space) (n : List ℕ) → keeps_case (capital_tags s) n ≡ true →
    foreign_name (open_space s) (lowered n) ≡ n
name_back Svg n h = capitals_back svg_names n refl h
name_back s n h = small_back n h

pairs_back : (s : Space) (attrs : List TextPair) → keep_case (capital_attrs s) attrs ≡ true →
    foreign_attrs (open_space s) (lowered_attrs attrs) ≡ attrs
pairs_back Html attrs h = map-id (lowered_attrs attrs) ∙ attrs_small attrs h
pairs_back Svg attrs h = attrs_back svg_attrs attrs refl h
pairs_back MathMl attrs h = attrs_back math_attrs attrs refl h

module _ (h : Head) (p : Page) (fits : length p.stack < p.limit) where
  abbrev tag : StartTag
  tag = written_tag h

  pub entered_back : at is_table_context p.stack ≡ false → (s : Space) → TagFits s h →
      entered (open_space s) tag p
      ≡ one_of (is_foreign_self_closing h.name) (made (open_space s) h.name h.attrs p)
  entered_back outside s kept =
      let plain = letter_plain h.name kept.letter in
      rw (
        name_back s h.name kept.case,
        pairs_back s h.attrs kept.attrs,
        opens (open_space s) h.name h.attrs p plain outside fits,
        adds_in (open_space s) h.name h.attrs p plain outside fits,
      ) refl

  -- by the rules of HTML
  pub opened_back : at is_table_context p.stack ≡ false → (s : Space) → s ≡ Html →
      TagFits s h → opened tag.name tag.attrs p ≡ made (open_space s) h.name h.attrs p
  opened_back outside Html e kept =
      rw (small_back h.name kept.case, attrs_small h.attrs kept.attrs)
      (opens spaces.Html h.name h.attrs p (letter_plain h.name kept.letter) outside fits)
  opened_back outside s e kept = absurd (cc)

  pub here_back : (s : Space) → s ≡ Html → TagFits s h →
      opened_here tag.name tag.attrs p ≡ made (open_space s) h.name h.attrs p
  here_back Html e kept = rw (small_back h.name kept.case, attrs_small h.attrs kept.attrs)
      (opens_here h.name h.attrs p (letter_plain h.name kept.letter) fits)
  here_back s e kept = absurd (cc)

  pub placed_back : (s : Space) → s ≡ Html → TagFits s h →
      opened_to Parent spaces.Html tag.name tag.attrs p ≡ made (open_space s) h.name h.attrs p
  placed_back Html e kept = rw (small_back h.name kept.case, attrs_small h.attrs kept.attrs)
      (opens_to spaces.Html h.name h.attrs p fits)
  placed_back s e kept = absurd (cc)

  pub added_back : (s : Space) → s ≡ Html → TagFits s h →
      added_to Parent spaces.Html tag.name tag.attrs p
      ≡ closed true (made (open_space s) h.name h.attrs p)
  added_back Html e kept = rw (
    adds spaces.Html tag.name tag.attrs p fits,
    small_back h.name kept.case,
    attrs_small h.attrs kept.attrs,
  ) refl
  added_back s e kept = absurd (cc)

  -- a `template`
  template_back : (s : Space) → s ≡ Html → TagFits s h → tag.name ≡ codes "template" →
      template_opened Parent tag.attrs p
      ≡ template_begun (made (open_space s) h.name h.attrs p)
  template_back s e kept named = skip _ (lt-leb p.limit (length p.stack) fits)
      (ap (λ n. template_begun (opened_to Parent spaces.Html n tag.attrs p)) (sym named)
      ∙ ap template_begun (placed_back s e kept))

  begun_back : at is_table_context p.stack ≡ false → (s t : Space) → s ≡ t → TagFits s h →
      is_foreign_self_closing h.name ≡ false →
      entered (open_space t) tag p ≡ made (open_space s) h.name h.attrs p
  begun_back outside s t e kept c = ap (λ x. entered (open_space x) tag p) (sym e)
      ∙ (entered_back outside s kept ∙ ap (λ b. one_of b (made (open_space s) h.name h.attrs p)) c)

-- a name that is read by the rules of HTML has no capitals

pub small_begun : (n : List ℕ) → keeps_case (capital_tags (begun_space n)) n ≡ true → lowered n ≡ n
small_begun n h = decide (of kind.Svg n)
    (λ e. agree_of lowered (λ m. m) kind.Svg n (unfold names in refl) e)
    (λ e. decide (of kind.Math n) (λ f. small_back n (rw (e, f) at h))
    (λ f. small_back n (rw (e, f) at h)))

small_in : (b : Bool) (n : List ℕ) →
    keeps_case (capital_tags (if b then begun_space n else MathMl)) n ≡ true → lowered n ≡ n
small_in true n h = small_begun n h
small_in false n h = small_back n h

-- how it is read does not change in small letters
pub reading_small : (r : Reading) (n : List ℕ) → keeps_case (capital_tags (space_of r n)) n ≡ true →
    is_read_as_html r (lowered n) ≡ is_read_as_html r n
reading_small reading.AsMathText n h =
    ap (λ m. not (of kind.Glyph m)) (small_in (not (of kind.Glyph n)) n h)
reading_small reading.AsAnnotation n h = ap (of kind.Svg) (small_in (of kind.Svg n) n h)
reading_small r n h = refl

-- a `template` is one of HTML
template_html : (n : List ℕ) → of kind.Template n ≡ true → begun_space n ≡ Html
template_html n t = agree_of begun_space (λ m. Html) kind.Template n (unfold names in refl) t

-- the element that it opens by the rules of HTML
pub written_opens : (h : Head) (p : Page) (s : Space) → length p.stack < p.limit →
    s ≡ begun_space h.name → TagFits s h → lowered h.name ≡ h.name → is_foreign_self_closing h.name
    ≡ false → Opens (written_tag h) p (made (open_space s) h.name h.attrs p)
written_opens h p s fits is kept small c = record {
  plain = λ outside a b.
      opened_back h p fits outside s (is ∙ rw (rw small at a, rw small at b) refl) kept;
  here = λ a b. here_back h p fits s (is ∙ rw (rw small at a, rw small at b) refl) kept;
  placed = λ a b. placed_back h p fits s (is ∙ rw (rw small at a, rw small at b) refl) kept;
  added = λ a b. added_back h p fits s (is ∙ rw (rw small at a, rw small at b) refl) kept;
  svg = λ outside a. begun_back h p fits outside s Svg (is ∙ rw (rw small at a) refl) kept c;
  math = λ outside a. let m = rw small at a in begun_back h p fits outside s MathMl
      (is ∙ rw (fails_of (of kind.Svg) kind.Math h.name (unfold names in refl) m, m) refl) kept c;
  template = λ a. let t = rw small at a in template_back h p fits s
      (is ∙ template_html h.name t) kept
      (small ∙ name_of kind.Template (codes "template") h.name refl t);
}

-- and the page once that is read

-- of an element that is no `template`
pub begun_plain : (h : Head) (above : List Ancestor) (p : Page) →
    is_template (begun_element h above p.start) ≡ false →
    made (open_space (space_of (reading_of above) h.name)) h.name h.attrs p ≡ begun h above p
begun_plain h above p e =
    let it = begun_element h above p.start in
    ap (λ b. record (with_element it (settled p)) {
      templates = modes_if b p.templates;
    }) (sym e)

-- of one of HTML
pub begun_as : (h : Head) (above : List Ancestor) (p : Page) → p.framesets ≡ frameset.Ignored →
    space_of (reading_of above) h.name ≡ begun_space h.name →
    is_foreign_self_closing h.name ≡ false →
    opened_as h.name (made (open_space (space_of (reading_of above) h.name)) h.name h.attrs p)
    ≡ one_of (is_foreign_self_closing h.name || is_void h.name) (begun h above p)
begun_as h above p barred is c =
    let it = begun_element h above p.start in
    decide (of kind.Template h.name)
    (λ t. let here : is_template it ≡ true = and_from _ _ (ap (λ x. open_elements.is_html
    (open_space x)) (is ∙ template_html h.name t)) t in
    pick _ t (ap (λ b. record (with_element it (settled p)) {
      templates = modes_if b p.templates;
      framesets = frameset.Ignored;
    }) (sym here) ∙ (ap (λ r. record (begun h above p) { framesets = r }) (sym barred)
    ∙ sym (skip _ (or_from _ _ c (fails_of is_void kind.Template h.name (unfold names in refl) t))
    refl))))
    (λ t. skip _ t (ap (one_of (is_void h.name)) (begun_plain h above p (and_right _ _ t))
    ∙ ap (λ b. one_of (b || is_void h.name) (begun h above p)) (sym c)))
