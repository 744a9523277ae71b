-- What is known of an element that breaks no rule.
use Rattle.std.{proofs.Common.{◌≡◌, ℕ, Bool, true, false, ◌||◌, List, [], ◌∷◌, refl, sym, ◌∙◌}, specs.List.{list_any}}
use Rattle.std.proofs.lemmas.Bool.{and_parts, both_ways, false≢true, not-false, or_parts}
use Rattle.std.specs.Prelude.{if◌then◌else◌, Option, Some, None}
use Rattle.html_names_core.specs.Kinds.{is_foreign_self_closing, is_raw, is_void}
use Rattle.html_dom_tree.specs.{Attributes.{names_differ}, Tree.{Head, NodesView}}
use Rattle.html_page_nesting.specs.Ancestors.{Ancestor, ancestor, begun_space, foreign_space, is_html, is_in, is_read_as_html, place_in, place_of, reading_of, space_of}
use Rattle.html_page_nesting.specs.Contents.{are_plain, begin_with_feed, content_misnesting, has_unread_end, is_listing, is_raw_when_read}
use Rattle.html_page_nesting.specs.{Misnested.{found}, ScriptTexts.{hides_end, joined_text}, Surroundings.{surroundings_of}, WrittenTexts.{has_return}}
use Rattle.html_page_nesting.specs.NestingRules.{breaks_out, element_misnesting, has_place, is_never_read, named_misnesting, read_misnesting}
use Rattle.html_page_nesting.specs.WrittenTags.{begins_with_letter, capital_attrs, capital_tags, keep_case, tag_misnesting}
use Rattle.html_page_nesting.specs.declared.{misnesting.Misnesting.{Misnesting}, reading.{Space.{Space}, Place.{Place}, Reading.{Reading}}}
use Rattle.html_page_nesting.specs.declared.{reading.Space.TheVariants.{Html, Svg, MathMl}, surroundings.Surroundings.{Surroundings}}
use Rattle.html_page_nesting.specs.declared.misnesting.Misnesting.TheVariants as why
use Rattle.html_page_nesting.specs.declared.reading.Place.TheVariants as place
use Rattle.html_page_nesting.specs.declared.reading.Reading.TheVariants as reading
use Rattle.typst_html_encode.specs.Reader.{drops_feed}
use Rattle.html_page_names.specs.{ForeignNames.{keeps_case}, PageNames.{kind_names, of}, declared.kind.Kind.{Kind}}
use Rattle.html_page_names.specs.declared.kind.Kind.TheVariants as kind
use Rattle.typst_html_nesting_laws.proofs.{Branches.{else_none, if_none, or_none, second_false, decide, of_two}, Modes.{place_test, placed}}
use Rattle.typst_html_nesting_laws.proofs.KindFacts.{AllFail, dropped_feed, fails_of, names, none_of, outside_of, script_or_style}
use Rattle.typst_html_nesting_laws.proofs.Ways.{is_page_place}

-- nothing is found at a node that breaks none
pub found_none : (path : List ℕ) (span : ℕ) (m : Option Misnesting) → found path span m ≡ [] →
    m ≡ None
found_none path span None h = refl
found_none path span (Some x) h = cc

-- its start tag
pub record TagFits (space : Space) (h : Head) : Type 0 where
  pub letter : begins_with_letter h.name ≡ true
  pub case : keeps_case (capital_tags space) h.name ≡ true
  pub attrs : keep_case (capital_attrs space) h.attrs ≡ true
  pub differ : names_differ h.attrs ≡ true
  pub returns : list_any (λ a. has_return a.1) h.attrs ≡ false

-- the content of an element that is read by the rules of HTML
pub record ContentFits (h : Head) (kids : NodesView) : Type 0 where
  pub unclosed : is_foreign_self_closing h.name ≡ false
  pub ends : has_unread_end h.name ≡ false
  pub plain : is_raw_when_read h.name ≡ true → are_plain h.pre_span kids ≡ true
  pub listing : is_listing h.name ≡ true → begin_with_feed kids ≡ false
  pub script : of kind.Script h.name ≡ true → hides_end (joined_text kids) ≡ false

-- an element that is read by those for SVG and MathML
pub record StaysForeign (h : Head) (kids : NodesView) : Type 0 where
  pub inside : breaks_out h ≡ false
  pub filled : is_void h.name ≡ false
  pub plain : of kind.ScriptOrStyle h.name ≡ true → are_plain false kids ≡ true
  pub feed : of kind.DropsFeed h.name ≡ true → begin_with_feed kids ≡ false

-- an element of SVG or MathML
pub record ForeignFits (h : Head) (kids : NodesView) : Type 0 where
  pub unbroken : of kind.Breakout h.name ≡ false
  pub plain : is_raw h.name ≡ true → are_plain false kids ≡ true
  pub feed : drops_feed h.name ≡ true → begin_with_feed kids ≡ false

-- how a name is read, by its namespace

read_by : (b : Bool) (s : Space) (r : Reading) → is_html (if b then s else foreign_space r) ≡ true →
    b ≡ true
read_by true s r h = refl
read_by false s reading.AsSvg h = h
read_by false s r h = h

pub html_read : (r : Reading) (n : List ℕ) → is_html (space_of r n) ≡ true →
    is_read_as_html r n ≡ true
html_read r n h = read_by (is_read_as_html r n) (begun_space n) r h

-- what begins SVG or MathML
pub begun_named : (n : List ℕ) → is_html (begun_space n) ≡ false →
    (of kind.Svg n || of kind.Math n) ≡ true
begun_named n h = by_kind (of kind.Svg n) (of kind.Math n) h where
  by_kind : (x y : Bool) → is_html (if x then Svg else (if y then MathMl else Html)) ≡ false →
      (x || y) ≡ true
  by_kind true y h = refl
  by_kind false true h = refl
  by_kind false false h = sym h

module _ (h : Head) (kids : NodesView) (around : Surroundings)
    (rules : element_misnesting h kids around ≡ None) where
  abbrev space : Space
  space = space_of around.reading h.name

  -- the rules of its start tag, and the others
  both : (tag_misnesting space h ≡ None) × (read_misnesting h kids around ≡ None)
  both = or_none rules

  pub tag_fits : TagFits space h
  tag_fits =
      let a = else_none _ both.0 in
      let name = and_parts _ _ a.0 in
      let b = if_none why.AttributeName a.1 in
      let c = if_none why.RepeatedAttribute b.1 in
      let d = if_none why.CarriageReturn c.1 in
      record {
        letter = name.0;
        case = name.1;
        attrs = not-false _ b.0;
        differ = not-false _ c.0;
        returns = d.0;
      }

  -- read by the rules of HTML
  module _ (read : is_read_as_html around.reading h.name ≡ true) where
    html_rules : (content_misnesting h kids ≡ None)
        × (named_misnesting around.place h.name around ≡ None)
    html_rules = or_none (rw read at both.1)

    pub named_kept : named_misnesting around.place h.name around ≡ None
    named_kept = html_rules.1

    pub content_fits : ContentFits h kids
    content_fits =
        let a = if_none why.StaysOpen html_rules.0 in
        let b = if_none why.UnreadEnd a.1 in
        let c = if_none why.RawText b.1 in
        let d = if_none why.FirstLineFeed c.1 in
        let e = if_none why.ScriptComment d.1 in
        record {
          unclosed = a.0;
          ends = b.0;
          plain = λ x. not-false _ (second_false c.0 x);
          listing = second_false d.0;
          script = second_false e.0;
        }

  -- and by those for SVG and MathML
  pub stays_foreign : is_read_as_html around.reading h.name ≡ false → StaysForeign h kids
  stays_foreign read =
      let a = if_none why.LeavesForeign (rw read at both.1) in
      let b = if_none why.StaysOpen a.1 in
      let c = if_none why.ForeignText b.1 in
      let d = if_none why.FirstLineFeed c.1 in
      record {
        inside = a.0;
        filled = b.0;
        plain = λ x. not-false _ (second_false c.0 x);
        feed = second_false d.0;
      }

  -- an element of SVG or MathML begins one, or stays in it
  module _ (foreign : is_html space ≡ false) where
    pub begins_foreign : is_read_as_html around.reading h.name ≡ true →
        (of kind.Svg h.name || of kind.Math h.name) ≡ true
    begins_foreign read = begun_named h.name (rw read at foreign)

    by_name : (k : Kind) → AllFail (λ n. of kind.Breakout n || (is_raw n || drops_feed n))
        (kind_names k) → of k h.name ≡ true → ForeignFits h kids
    by_name k none e =
        let test = λ (n : List ℕ). of kind.Breakout n || (is_raw n || drops_feed n) in
        let x = or_parts _ _ (fails_of test k h.name none e) in
        let y = or_parts _ _ x.1 in
        record {
          unbroken = x.0;
          plain = λ r. absurd (both_ways _ y.0 r);
          feed = λ d. absurd (both_ways _ y.1 d);
        }

    pub foreign_fits : ForeignFits h kids
    foreign_fits = decide (is_read_as_html around.reading h.name) (λ read. of_two
        (begins_foreign read) (by_name kind.Svg (unfold names in refl))
        (by_name kind.Math (unfold names in refl))) (λ read. let x = stays_foreign read in
        record {
          unbroken = (or_parts _ _ x.inside).0;
          plain = λ r. x.plain (script_or_style h.name ∙ r);
          feed = λ d. x.feed (dropped_feed h.name d);
        })

-- where such an element stands, in no body, the place has it
pub has : (p : Place) (n : List ℕ) (around : Surroundings) → is_page_place p ≡ false →
    named_misnesting p n around ≡ None → (p ≡ place.Body → ⊥) → has_place p n ≡ true
has place.Page n around page h other = absurd (false≢true (sym page))
has place.Body n around page h other = absurd (other refl)
has p n around page h other = (else_none _ h).0

-- an element in a page is no page
named_no_page : (p : Place) (n : List ℕ) (around : Surroundings) → is_page_place p ≡ false →
    named_misnesting p n around ≡ None → of kind.Html n ≡ false
named_no_page place.Page n around page h = absurd (false≢true (sym page))
named_no_page place.Body n around page h =
    let part = if_none why.OutsideTable h in
    outside_of is_never_read kind.Html n (unfold names in refl) (if_none why.NeverRead part.1).0
named_no_page p n around page h = none_of (has_place p) kind.Html n (unfold names in refl)
    (else_none _ h).0

-- a form stands in no other
named_alone : (p : Place) (n : List ℕ) (around : Surroundings) → is_page_place p ≡ false →
    named_misnesting p n around ≡ None → of kind.Form n ≡ true → around.open_elements.form ≡ false
named_alone place.Page n around page h form = absurd (false≢true (sym page))
named_alone place.Body n around page h form =
    let part = if_none why.OutsideTable h in
    let read = if_none why.NeverRead part.1 in
    second_false (if_none why.FormInForm read.1).0 form
named_alone p n around page h form = absurd (both_ways _
    (none_of (has_place p) kind.Form n (unfold names in refl) (else_none _ h).0) form)

pub form_alone : (above : List Ancestor) (h : Head) (kids : NodesView) →
    is_page_place (place_of above) ≡ false → element_misnesting h kids (surroundings_of above)
    ≡ None → is_html (space_of (reading_of above) h.name) ≡ true → of kind.Form h.name ≡ true →
    (surroundings_of above).open_elements.form ≡ false
form_alone above h kids page rules html form =
    let around = surroundings_of above in
    named_alone (place_of above) h.name around page
    (named_kept h kids around rules (html_read _ _ html)) form

pub still_no_page : (above : List Ancestor) (h : Head) (kids : NodesView) →
    is_page_place (place_of above) ≡ false → element_misnesting h kids (surroundings_of above)
    ≡ None → is_page_place (place_of (ancestor h above ∷ above)) ≡ false
still_no_page above h kids page rules =
    let around = surroundings_of above in
    let in_head = is_in (of kind.Head) above in
    decide (is_html (space_of (reading_of above) h.name))
    (λ e. rw e (by_place in_head h.name (place_in in_head h.name) (placed in_head h.name)
    (named_no_page (place_of above) h.name around page
    (named_kept h kids around rules (html_read _ _ e))))) (λ e. rw e refl)
  where
    by_place : (b : Bool) (n : List ℕ) (p : Place) → place_test p b n ≡ true →
        of kind.Html n ≡ false → is_page_place p ≡ false
    by_place b n place.Page t h = absurd (both_ways _ h t)
    by_place b n p t h = refl
