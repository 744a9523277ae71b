-- The start tag of an element that breaks no rule closes nothing before it.
use Rattle.std.proofs.Common.{◌≡◌, ℕ, zero, suc, Bool, true, false, not, ◌&&◌, ◌||◌, List, [], ◌∷◌, length, refl, sym, ap, ◌∙◌, arith}
use Rattle.std.proofs.lemmas.Bool.{and_from, and_left, and_parts, and_right, or_left, or_parts, or_right}
use Rattle.std.specs.Prelude.{if◌then◌else◌, None}
use Rattle.html_page_nesting.specs.{Ancestors.{Ancestor, bounds_scope, hides_formatting, is_in, is_template}, Surroundings.{open_of, surroundings_of}}
use Rattle.html_page_nesting.specs.NestingRules.{closes_item, closes_option, closes_paragraph, closes_ruby_part, closes_same, closing_misnesting, is_option_part}
use Rattle.html_page_nesting.specs.declared.surroundings.{Open.{Open}, Surroundings.{Surroundings}}
use Rattle.html_page_nesting.specs.Ancestors as nest
use Rattle.html_page_nesting.specs.declared.misnesting.Misnesting.TheVariants as why
use Rattle.html_page_names.specs.{PageNames.{is, kind_names, of}, declared.kind.Kind.{Kind}}
use Rattle.html_page_names.specs.declared.kind.Kind.TheVariants as kind
use Rattle.html_page_stack.specs.OpenElements.{OpenElement, bounds, has, in_scope, is_at, reaches}
use Rattle.html_page_stack.specs.Pages.{Page, closed_while, implied_closed, no_name, reconstructed}
use Rattle.html_page_stack.specs.declared.modes.Scope.TheVariants.{General}
use Rattle.html_page_stack.specs.OpenElements as elements
use Rattle.html_page_tree.specs.PageBodies.{anchor_closed, anchor_ended, closed_before, closed_before_block, formatted, heading_closed, item_closed, nobr_closed, option_closed, p_closed, p_closed_by_table, ruby_closed}
use Rattle.html_names_core.proofs.Basics.{bytes_eq-same}
use Rattle.typst_html_nesting_laws.proofs.Alike.{at_is, in_button_scope_is, in_scope_is, marker_is, none_item, of_is, scope_is, unreached}
use Rattle.typst_html_nesting_laws.proofs.Branches.{either, first_false, if_none, second_false, skip, decide}
use Rattle.typst_html_nesting_laws.proofs.{KindFacts.{AllPass, names, passes_of}, ListedFormats.{none_closed, none_named}}
use Rattle.typst_html_nesting_laws.proofs.Ways.{AreAlike, IsAlike, IsCalm, form_of}

-- a search for elements of a name, where there are none of its kind

same_kind : (k : Kind) (n : List ℕ) (a : Ancestor) (o : OpenElement) → of k n ≡ true → IsAlike a o →
    elements.is_of (is n) o ≡ true → nest.is_of (of k) a ≡ true
same_kind k n a o it t h =
    let both = and_parts _ _ (sym (of_is (is n) a o t) ∙ h) in
    and_from _ _ both.0 (ap (of k) (bytes_eq-same _ _ both.1) ∙ it)

pub none_same_scoped : (k : Kind) (n : List ℕ) (above : List Ancestor) (os : List OpenElement) →
    of k n ≡ true → AreAlike above os →
    nest.reaches (nest.is_of (of k)) bounds_scope above ≡ false → in_scope General (is n) os ≡ false
none_same_scoped k n above os it s h =
    unreached (nest.is_of (of k)) bounds_scope (elements.is_of (is n)) (bounds General)
    (λ a o t i. same_kind k n a o it t i) (λ a o t i. scope_is a o t ∙ i) above os s h

-- no form is begun where none is open, in no `template`
pub no_form : (above : List Ancestor) (os : List OpenElement) → AreAlike above os →
    has (of kind.Template) os ≡ false → (open_of above).form ≡ false → form_of os ≡ None
no_form [] [] s plain h = refl
no_form (a ∷ above) (o ∷ os) s plain h =
    let both = or_parts _ _ h in
    let outer = or_parts (elements.is_of (of kind.Template) o) _ plain in
    let template : is_template a ≡ false = sym (of_is (of kind.Template) a o s.0) ∙ outer.0 in
    skip _ (and_right _ _ (of_is (of kind.Form) a o s.0 ∙ both.0))
    (no_form above os s.1 outer.1 (second_false both.1 (ap not template)))
no_form above os s plain h = absurd s

none_same_active : (k : Kind) (n : List ℕ) (above : List Ancestor) (os : List OpenElement) →
    of k n ≡ true → AreAlike above os →
    nest.reaches (nest.is_of (of k)) hides_formatting above ≡ false →
    reaches (elements.is_of (is n)) (elements.is_of (of kind.Marker)) os ≡ false
none_same_active k n above os it s h =
    unreached (nest.is_of (of k)) hides_formatting (elements.is_of (is n))
    (elements.is_of (of kind.Marker)) (λ a o t i. same_kind k n a o it t i) marker_is
    above os s h

-- what a start tag would close, and does not
pub record ClosesNone (n : List ℕ) (around : Surroundings) : Type 0 where
  pub paragraph : closes_paragraph n around.open_elements ≡ false
  pub heading : (of kind.Heading n && around.parent.heading) ≡ false
  pub item : closes_item n around.open_elements ≡ false
  pub same : closes_same n around.open_elements ≡ false
  pub option : closes_option n around ≡ false
  pub input : (of kind.Input n && around.open_elements.select) ≡ false
  pub ruby : closes_ruby_part n around ≡ false

pub closes_none : (n : List ℕ) (around : Surroundings) → closing_misnesting n around ≡ None →
    ClosesNone n around
closes_none n around h =
    let a = if_none why.ClosesParagraph h in
    let b = if_none why.ClosesHeading a.1 in
    let c = if_none why.ClosesItem b.1 in
    let d = if_none why.ClosesSame c.1 in
    let e = if_none why.ClosesOption d.1 in
    let f = if_none why.ClosesSelect e.1 in
    let g = if_none why.ClosesRubyPart f.1 in
    record {
      paragraph = a.0;
      heading = b.0;
      item = c.0;
      same = d.0;
      option = e.0;
      input = f.0;
      ruby = g.0;
    }

-- searches and steps that do nothing

pub while_not : (goes_on : List OpenElement → Bool) (at_most : ℕ) (p : Page) →
    goes_on p.stack ≡ false → closed_while goes_on at_most p ≡ p
while_not goes_on zero p h = refl
while_not goes_on (suc k) p h = rw h refl

split : (html i b : Bool) → (html && (i && not b)) ≡ ((html && i) && not (html && b))
split true i b = refl
split false i b = refl

in_but : (but : List ℕ → Bool) (above : List Ancestor) →
    is_in (λ m. of kind.Implied m && not (but m)) above
    ≡ (is_in (of kind.Implied) above && not (is_in but above))
in_but but [] = refl
in_but but (a ∷ above) =
    split (nest.is_html a.space) (of kind.Implied a.head.name) (but a.head.name)

past_three : (b i x : Bool) → (b && i && x) ≡ false → b ≡ true → (i && x) ≡ false
past_three b i x h k = grind arith

by_rule : (part hr option at : Bool) → (part || hr) ≡ true → (part && option) ≡ false →
    at ≡ option → (not hr && at) ≡ false
by_rule part hr option at h f e = grind arith

module _ (n : List ℕ) (above : List Ancestor) (p : Page) (calm : IsCalm above p)
    (none : ClosesNone n (surroundings_of above)) where
  abbrev o : Open
  o = open_of above

  p_kept : of kind.ClosesP n ≡ true → p_closed p ≡ p
  p_kept h = skip _ (in_button_scope_is (of kind.P) above p.stack calm.alike
      ∙ first_false none.paragraph (or_left _ _ h)) refl

  -- of a kind whose start tags close a `p`
  p_kept_of : (k : Kind) → AllPass (of kind.ClosesP) (kind_names k) → of k n ≡ true →
      p_closed p ≡ p
  p_kept_of k all h = p_kept (passes_of (of kind.ClosesP) k n all h)

  -- none of its own name
  same_none : ((of kind.A n && o.anchor) ≡ false) × ((of kind.Button n && o.button) ≡ false)
      × ((of kind.Nobr n && o.nobr) ≡ false) × ((of kind.Select n && o.select) ≡ false)
  same_none =
      let a = or_parts _ _ none.same in
      let b = or_parts _ _ a.0 in
      let c = or_parts _ _ b.0 in
      (c.0, c.1, b.1, a.1)

  anchor_kept : of kind.A n ≡ true → anchor_closed n p ≡ p
  anchor_kept h = ap (λ f. anchor_ended n f p) (none_named n p.stack p.formats calm.ordered
      (none_same_active kind.A n above p.stack h calm.alike (second_false same_none.0 h)))

  -- elements whose end tag is implied
  implied_but : (but : List ℕ → Bool) →
      (is_in (of kind.Implied) above && not (is_in but above)) ≡ false → implied_closed but p ≡ p
  implied_but but h = while_not (is_at (λ m. of kind.Implied m && not (but m))) (length p.stack) p
      (at_is (λ m. of kind.Implied m && not (but m)) above p.stack calm.alike
      ∙ (in_but but above ∙ h))

  implied_by : (t : Bool) (but : List ℕ → Bool) →
      (is_in (of kind.Implied) above && not (t && is_in but above)) ≡ false →
      (if t then implied_closed but p else implied_closed no_name p) ≡ p
  implied_by true but f = implied_but but f
  implied_by false but f = implied_but no_name (and_left _ _ (first_false f refl))

  in_select : o.select ≡ true → (is_option_part n || of kind.Hr n) ≡ true →
      (if of kind.Option n then implied_closed (of kind.Optgroup) p else implied_closed no_name p)
      ≡ p
  in_select s h = implied_by _ _ (past_three _ _ _ (rw s at none.option) h)

  no_option : o.select ≡ false → (is_option_part n || of kind.Hr n) ≡ true →
      (not (of kind.Hr n) && is_at (of kind.Option) p.stack) ≡ false
  no_option s h = by_rule _ _ _ _ h (rw s at none.option)
      (at_is (of kind.Option) above p.stack calm.alike)

  option_kept : (is_option_part n || of kind.Hr n) ≡ true → option_closed n p ≡ p
  option_kept h =
      let scoped = in_scope_is (of kind.Select) above p.stack calm.alike in
      either (in_scope General (of kind.Select) p.stack)
      (λ s. in_select (sym scoped ∙ s) h) (λ s. skip _ (no_option (sym scoped ∙ s) h) refl)

  ruby_kept : of kind.RubyPart n ≡ true → ruby_closed n p ≡ p
  ruby_kept h =
      let scoped = in_scope_is (of kind.Ruby) above p.stack calm.alike in
      either (in_scope General (of kind.Ruby) p.stack)
      (λ s. implied_by (of kind.RubyText n) (of kind.Rtc)
      (past_three (of kind.RubyPart n && o.ruby) (is_in (of kind.Implied) above)
      (not (of kind.RubyText n && is_in (of kind.Rtc) above)) none.ruby
      (and_from _ _ h (sym scoped ∙ s)))) (λ s. refl)

  -- items
  item_kept : (k : Kind) → nest.reaches (nest.is_of (of k)) nest.bounds_item above ≡ false →
      item_closed k p ≡ p
  item_kept k h = skip _ (none_item (of k) above p.stack calm.alike h) refl

  block_kept : closed_before_block n p ≡ p
  block_kept =
      let items = or_parts _ _ none.item in
      either (of kind.ListItem n)
      (λ h. ap p_closed (item_kept kind.ListItem (second_false items.0 h))
      ∙ p_kept_of kind.ListItem (unfold names in refl) h)
      (λ a. either (of kind.DescriptionPart n)
      (λ h. ap p_closed (item_kept kind.DescriptionPart (second_false items.1 h))
      ∙ p_kept_of kind.DescriptionPart (unfold names in refl) h)
      (λ b. either (of kind.Heading n)
      (λ h. ap heading_closed (p_kept_of kind.Heading (unfold names in refl) h)
      ∙ skip _ (at_is (of kind.Heading) above p.stack calm.alike
      ∙ second_false none.heading h) refl)
      (λ c. either (of kind.ClosesP n) p_kept (λ d. refl))))

  -- its start tag closes nothing
  pub nothing_closed : closed_before n p ≡ p
  nothing_closed =
      either (of kind.A n) anchor_kept
      (λ a. either (of kind.Button n)
      (λ h. skip _ (none_same_scoped kind.Button n above p.stack h calm.alike
      (second_false same_none.1 h)) refl)
      (λ b. either (of kind.Input n)
      (λ h. skip _ (in_scope_is (of kind.Select) above p.stack calm.alike
      ∙ second_false none.input h) refl)
      (λ c. either (of kind.Table n)
      (λ h. ap (λ r. p_closed_by_table r p) calm.tables
      ∙ skip _ (in_button_scope_is (of kind.P) above p.stack calm.alike
      ∙ first_false none.paragraph (or_right _ _ h)) refl)
      (λ d. either (of kind.Option n || of kind.Optgroup n) (λ h. option_kept (or_left _ _ h))
      (λ e. either (of kind.Hr n)
      (λ h. ap (option_closed n) (p_kept_of kind.Hr (unfold names in refl) h)
      ∙ option_kept (or_right _ _ h))
      (λ f. either (of kind.RubyPart n) ruby_kept (λ g. block_kept)))))))

  nobr_none : (of kind.Nobr n && in_scope General (is n) p.stack) ≡ false
  nobr_none = decide (of kind.Nobr n)
      (λ h. and_right _ _ (none_same_scoped kind.Nobr n above p.stack h calm.alike
      (second_false same_none.2 h))) (and_left _ _)

  kept_whole : reconstructed p ≡ p
  kept_whole = skip _ (none_closed p.stack p.formats calm.ordered) refl

  -- and makes no formatting element again
  pub nothing_formatted : formatted n p ≡ p
  nothing_formatted = either (of kind.Unformatted n) (λ h. refl)
      (λ u. ap (nobr_closed n) kept_whole ∙ skip _ nobr_none refl)

  -- and is in no `select`, if it begins one
  pub select_none : (of kind.Select n && in_scope General (of kind.Select) p.stack) ≡ false
  select_none = ap (λ b. of kind.Select n && b)
      (in_scope_is (of kind.Select) above p.stack calm.alike) ∙ same_none.3
