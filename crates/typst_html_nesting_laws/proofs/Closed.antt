-- What is open once a start tag is read, and once the current node is closed.
use Rattle.std.proofs.Common.{◌≡◌, ℕ, Bool, true, false, not, ◌&&◌, List, [], ◌∷◌, Some, refl, sym, ap, subst, ◌∙◌}
use Rattle.std.specs.Prelude.{if◌then◌else◌, Option}
use Rattle.html_dom_tree.specs.Tree.{Head}
use Rattle.html_page_nesting.specs.Ancestors.{Ancestor, ancestor}
use Rattle.html_page_names.specs.PageNames.{of}
use Rattle.html_page_names.specs.declared.kind.Kind.TheVariants as kind
use Rattle.html_page_stack.specs.{Formats.{Formats, after_current}, Pages.{Page, closed, form_after, settled, settled_closed}}
use Rattle.html_page_stack.specs.OpenElements.{OpenElement, before_table, has, is_of, is_removed, uncovered, with_last_text, with_text, without_current}
use Rattle.typst_html_nesting_laws.proofs.{Branches.{skip}, ListedFormats.{IsInOrder, after_text, order_opened, order_with_text}}
use Rattle.typst_html_nesting_laws.proofs.Templates.{ReadsBody, are_modes, hold_modes, modes_opened, modes_there, modes_with_text}
use Rattle.typst_html_nesting_laws.proofs.Ways.{AreAlike, IsCalm, begun, begun_element, form_of}

-- texts leave the form as it is
pub form_text : (text : List ℕ) (o : OpenElement) (os : List OpenElement) (form : Option ℕ) →
    form_after true (with_text text o ∷ os) form ≡ form_after true (o ∷ os) form
form_text [] o os form = refl
form_text (c ∷ cs) o os form = refl

pub form_of_text : (text : List ℕ) (os : List OpenElement) →
    form_of (with_last_text text os) ≡ form_of os
form_of_text text [] = refl
form_of_text [] (o ∷ os) = refl
form_of_text (c ∷ cs) (o ∷ os) = refl

-- the current node is closed, and nothing else is done; a form in a `template` does not count
pub closed_is : (o : OpenElement) (os : List OpenElement) (p : Page) → p.moved ≡ false →
    closed true (record p { stack = o ∷ os }) ≡ record p {
      text = [];
      moved = false;
      stack = uncovered (without_current (with_text p.text o ∷ os));
      formats = after_current true (o ∷ os) p.formats;
      form = if hold_modes p.templates then p.form else form_after true (o ∷ os) p.form;
    }
closed_is o os p still =
    let text_put : Bool → Page = λ b. record p {
      text = [];
      moved = false;
      stack = if b then before_table (with_text p.text) (o ∷ os) else with_text p.text o ∷ os;
    } in
    let made : Formats → Option ℕ → Page = λ fs form. record p {
      text = [];
      moved = false;
      stack = uncovered (without_current (with_text p.text o ∷ os));
      formats = fs;
      form = form;
    } in
    let text_after = after_current true (with_text p.text o ∷ os) p.formats in
    let left : Option ℕ → Option ℕ =
    λ form. if hold_modes p.templates then p.form else form in
    ap (λ b. settled_closed true (text_put b)) still
    ∙ (ap (λ fs. made fs (left (form_after true (with_text p.text o ∷ os) p.form)))
    (after_text p.text o os p.formats)
    ∙ ap (λ form. made (after_current true (o ∷ os) p.formats) (left form))
    (form_text p.text o os p.form))

-- what is open where nothing was removed
pub still_open : (o : OpenElement) (os : List OpenElement) → is_removed o.space ≡ false →
    uncovered (o ∷ os) ≡ o ∷ os
still_open o os h = rw h refl

-- texts leave the open elements alike
pub alike_text : (text : List ℕ) (above : List Ancestor) (os : List OpenElement) →
    AreAlike above os → AreAlike above (with_last_text text os)
alike_text text [] [] h = h
alike_text [] (a ∷ above) (o ∷ os) h = h
alike_text (c ∷ cs) (a ∷ above) (o ∷ os) h =
    (record { name = h.0.name; attrs = h.0.attrs; space = h.0.space }, h.1)
alike_text text above os h = absurd h

-- once a start tag is read, its element is open too
pub calm_begun : (above : List Ancestor) (h : Head) (p : Page) → IsCalm above p →
    ReadsBody (begun_element h above p.start) p.templates →
    IsCalm (ancestor h above ∷ above) (begun h above p)
calm_begun above h p c reads =
    let it = begun_element h above p.start in
    let outer = (settled p).stack in
    let e : outer ≡ with_last_text p.text p.stack = skip _ c.moved refl in
    let modes : are_modes outer p.templates ≡ true =
    subst (λ os. are_modes os p.templates ≡ true) (sym e)
    (modes_with_text p.text p.stack p.templates c.modes) in
    record {
      alike = (
        record { name = refl; attrs = refl; space = refl },
        subst (AreAlike above) (sym e) (alike_text p.text above p.stack c.alike),
      );
      ordered = order_opened it outer p.formats
          (subst (λ os. IsInOrder os p.formats) (sym e)
          (order_with_text p.text p.stack p.formats c.ordered));
      modes = modes_opened it outer p.templates modes reads;
      form = ap (λ b. if not b && is_of (of kind.Form) it then Some p.start else p.form)
          (modes_there outer p.templates modes)
          ∙ ap (λ f. if not (has (of kind.Template) outer) && is_of (of kind.Form) it
          then Some p.start else f) (c.form ∙ sym (ap form_of e ∙ form_of_text p.text p.stack));
      moved = refl;
      framesets = c.framesets;
      unmade = refl;
      tables = c.tables;
    }
