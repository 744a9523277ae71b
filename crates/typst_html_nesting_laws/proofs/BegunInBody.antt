-- The start tag of an element that stays in a body opens it, and does nothing else.
use Rattle.std.{proofs.Common.{◌≡◌, ℕ, true, false, not, ◌&&◌, List, refl, sym, ap, ◌∙◌}, specs.Prelude.{None, is_some}}
use Rattle.std.proofs.lemmas.Bool.{and_left, and_right, false≢true, or_left, or_parts}
use Rattle.html_names_core.specs.Kinds.{is_void}
use Rattle.html_page_nesting.specs.{Ancestors.{Ancestor}, Contents.{has_unread_end}, NestingRules.{body_misnesting}}
use Rattle.html_page_nesting.specs.{Surroundings.{surroundings_of}, declared.surroundings.Surroundings.{Surroundings}}
use Rattle.html_page_nesting.specs.declared.misnesting.Misnesting.TheVariants as why
use Rattle.html_page_names.specs.PageNames.{of}
use Rattle.html_page_names.specs.declared.kind.Kind.TheVariants as kind
use Rattle.html_page_stack.specs.{OpenElements.{at, has, is_table_context}, Pages.{Page, Start, StartTag, Taken}, declared.modes.Mode.{Mode, TheVariants.{InBody, InCaption, InCell}}}
use Rattle.html_page_tree.specs.{PageBodies.{barred_by_tag, element_begun, head_element, in_body_begun, in_body_start, inserted, is_hidden_input, is_nested}, PageTrees.{by_mode}}
use Rattle.typst_html_nesting_laws.proofs.{Branches.{either, if_none, second_false, skip, decide}, Ways.{IsCalm, is_body_mode}}
use Rattle.typst_html_nesting_laws.proofs.ClosedBefore.{ClosesNone, closes_none, no_form, nothing_closed, nothing_formatted, select_none}
use Rattle.typst_html_nesting_laws.proofs.{KindFacts.{fails_of, names, outside_of}, Tables.{parent_there}}
use Rattle.typst_html_nesting_laws.proofs.{Opened.{Opens, head_begun, leaf_begun, not_void, one_of, opened_as, opened_plain, void_of}, Templates.{modes_there}}

-- the rules of an element of HTML in a body
pub record StaysInBody (n : List ℕ) (around : Surroundings) : Type 0 where
  pub part : of kind.TablePart n ≡ false
  pub root : of kind.Root n ≡ false
  pub misplaced : of kind.Misplaced n ≡ false
  pub image : of kind.Image n ≡ false
  pub frameset : of kind.Frameset n ≡ false
  pub form : (of kind.Form n && around.open_elements.form) ≡ false
  pub closing : ClosesNone n around

pub stays_in_body : (n : List ℕ) (around : Surroundings) → body_misnesting n around ≡ None →
    StaysInBody n around
stays_in_body n around h =
    let a = if_none why.OutsideTable h in
    let b = if_none why.NeverRead a.1 in
    let c = if_none why.FormInForm b.1 in
    let d = if_none why.Filled c.1 in
    let read = or_parts _ _ (or_parts _ _ b.0).0 in
    let places = or_parts _ _ read.0 in
    let roots = or_parts _ _ places.0 in
    record {
      part = a.0;
      root = roots.0;
      misplaced = roots.1;
      image = places.1;
      frameset = read.1;
      form = c.0;
      closing = closes_none n around d.1;
    }

module _ (tag : StartTag) (above : List Ancestor) (p q : Page) (calm : IsCalm above p)
    (ops : Opens tag p q) (stays : StaysInBody tag.name (surroundings_of above))
    (ends : has_unread_end tag.name ≡ false) (outside : at is_table_context p.stack ≡ false) where
  abbrev n : List ℕ
  n = tag.name

  form_none : is_nested n p ≡ false
  form_none = ap (λ b. not b && (of kind.Form n && is_some p.form))
      (modes_there p.stack p.templates calm.modes) ∙ decide (has (of kind.Template) p.stack)
      (λ t. and_left _ _ (ap not t))
      (λ t. and_right _ _ (decide (of kind.Form n) (λ h. and_right _ _ (ap is_some (calm.form
      ∙ no_form above p.stack calm.alike t (second_false stays.form h)))) (and_left _ _)))

  -- the element is opened
  insert_taken : of kind.HeadContent n ≡ false → inserted tag p ≡ one_of (is_void n) q
  insert_taken head =
      let no_leaf = outside_of (of kind.HeadContent) kind.HeadLeaf n (unfold names in refl) head in
      let no_column = outside_of (of kind.TablePart) kind.Col n (unfold names in refl) stays.part in
      either (of kind.Leaf n) (λ h. rw (void_of n ends (or_left _ _ h))
      (leaf_begun tag p q ops outside (fails_of (of kind.Svg) kind.Leaf n (unfold names in refl) h)
      (fails_of (of kind.Math) kind.Leaf n (unfold names in refl) h)))
      (λ leaf. either (of kind.Svg n)
      (λ h. rw (fails_of is_void kind.Svg n (unfold names in refl) h) (ops.svg outside h))
      (λ a. either (of kind.Math n)
      (λ h. rw (fails_of is_void kind.Math n (unfold names in refl) h) (ops.math outside h))
      (λ b. rw (not_void n leaf no_leaf no_column) (ops.plain outside a b))))

  begin_taken : of kind.HeadContent n ≡ false → element_begun tag p ≡ one_of (is_void n) q
  begin_taken head =
      rw (
        nothing_closed n above p calm stays.closing,
        nothing_formatted n above p calm stays.closing,
      ) (insert_taken head)

  -- no frameset may come any more
  barred : barred_by_tag tag p ≡ p
  barred = either (of kind.BarsFrameset n && not (is_hidden_input tag))
      (λ h. ap (λ r. record p { framesets = r }) (sym calm.framesets)) (λ h. refl)

  body_start_taken : in_body_start tag p ≡ Taken (opened_as n q)
  body_start_taken = ap (in_body_begun tag) barred ∙ skip _ stays.root
      (either (of kind.HeadContent n)
      (λ h. ap (λ d. Taken (head_element d tag p)) (parent_there p.stack outside)
      ∙ ap Taken (head_begun tag p q ops h ends))
      (λ head. skip _ stays.frameset (skip _ stays.misplaced (skip _ stays.image (skip _ form_none
      (skip _ (select_none n above p calm stays.closing) (ap Taken (begin_taken head
      ∙ opened_plain n q (outside_of (of kind.HeadContent) kind.Template n (unfold names in refl)
      head)))))))))

  -- in each mode of a body
  pub body_taken : (m : Mode) → is_body_mode m ≡ true →
      by_mode m (Start tag) p ≡ Taken (opened_as n q)
  body_taken InBody h = body_start_taken
  body_taken InCaption h = skip _ stays.part body_start_taken
  body_taken InCell h = skip _ stays.part body_start_taken
  body_taken _ h = absurd (false≢true h)
