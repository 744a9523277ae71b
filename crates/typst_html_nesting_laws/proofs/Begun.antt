-- The start tag of an element that breaks no rule opens it, and does nothing else.
use Rattle.std.{proofs.Common.{◌≡◌, ◌<◌, ℕ, Bool, true, false, not, ◌||◌, List, [], ◌∷◌, length, refl, sym, ap, ◌∙◌}, specs.Prelude.{None}}
use Rattle.std.proofs.lemmas.Bool.{and_from, and_parts, both_ways, false≢true, not-false, not-true, or_from, or_left, or_right, true_from_ne_false}
use Rattle.html_names_core.specs.Kinds.{is_foreign_self_closing}
use Rattle.html_dom_tree.specs.Tree.{Head, NodesView}
use Rattle.html_page_nesting.specs.Ancestors.{Ancestor, begun_space, is_in, is_read_as_html, place_in, place_of, reading_in, reading_of, space_of}
use Rattle.html_page_nesting.specs.Ancestors as nest
use Rattle.html_page_nesting.specs.{Contents.{has_unread_end}, NestingRules.{body_misnesting, element_misnesting, named_misnesting}}
use Rattle.html_page_nesting.specs.{Surroundings.{surroundings_of}, declared.reading.{Place.{Place}, Space.{Space, TheVariants.{Html}}}}
use Rattle.html_page_nesting.specs.declared.surroundings.Surroundings.{Surroundings}
use Rattle.html_page_nesting.specs.declared.reading.Place.TheVariants as place
use Rattle.html_page_names.specs.{ForeignNames.{lowered}, PageNames.{of}}
use Rattle.html_page_names.specs.declared.kind.Kind.TheVariants as kind
use Rattle.html_page_stack.specs.{OpenElements.{is_at, is_of, mode}, Pages.{Again, Page, Start, StartTag, Turn, Taken}}
use Rattle.html_page_stack.specs.declared.modes.TemplateMode.TheVariants as modes
use Rattle.html_page_tree.specs.PageTrees.{by_mode, in_mode, is_foreign_token, page_mode, start_in_template, template_mode, text_ended, token_read, turn}
use Rattle.typst_html_nesting_laws.proofs.{Alike.{at_is, html_is, length_is, mode_is, start_foreign}, BegunForeign.{foreign_taken}, Modes.{mode_in, told_in}}
use Rattle.typst_html_nesting_laws.proofs.{BegunInBody.{body_taken, stays_in_body}, BegunInTables.{place_taken}, Opened.{Opens, head_begun, made, one_of, opened_as, void_of}}
use Rattle.typst_html_nesting_laws.proofs.{Branches.{decide, either, else_none, of_two, pick, skip}, KeptTags.{begun_as, reading_small, small_begun, written_opens}}
use Rattle.typst_html_nesting_laws.proofs.{KindFacts.{agree_of, names, outside_of, passes_of}, Readers.{written_tag}, Rules.{content_fits, named_kept, stays_foreign, tag_fits}}
use Rattle.typst_html_nesting_laws.proofs.{Stands.{parts}, Tables.{at_place, outside_foreign, outside_in_body}}
use Rattle.typst_html_nesting_laws.proofs.Templates.{ReadsBody, TemplateModes, are_modes, body_mode, head_mode, is_template, modes_read, reads_body, reads_inside}
use Rattle.typst_html_nesting_laws.proofs.{Turns.{is_told, read_mode, stack_mode, turn_taken, turns_taken}, Ways.{IsCalm, IsSteady, begun, begun_element, ends_at_once, is_page_place, open_space}}

-- by the rules of HTML, in each place, where the innermost `template` is read as a body
module _ (tag : StartTag) (above : List Ancestor) (p q : Page) (calm : IsCalm above p)
    (steady : IsSteady above p.stack) (ops : Opens tag p q)
    (ends : has_unread_end tag.name ≡ false) (inside : is_page_place (place_of above) ≡ false)
    (reads : reads_body p.templates ≡ true) where
  abbrev result : Turn
  result = Taken (opened_as tag.name q)

  by_place : (l : Place) → place_of above ≡ l → named_misnesting l tag.name (surroundings_of above)
      ≡ None → by_mode (page_mode p) (Start tag) p ≡ result
  by_place place.Page e h = absurd (false≢true (sym inside ∙ ap is_page_place e))
  by_place place.Body e h =
      ap (λ m. by_mode m (Start tag) p) (body_mode p calm.framesets calm.modes reads)
      ∙ body_taken tag above p q calm ops (stays_in_body tag.name (surroundings_of above) h) ends
      (outside_in_body p.stack (steady e)) (read_mode (mode p.stack)) (steady e)
  by_place l e h =
      let there = mode_is _ above p.stack calm.alike (ap mode_in e) in
      ap (λ m. by_mode m (Start tag) p)
      (stack_mode p calm.framesets (ap is_told there ∙ told_in l _ refl) ∙ there)
      ∙ place_taken tag p q ops ends l (at_place l above p.stack calm.alike e) (else_none _ h).0

-- a `template` holds the content of a body, and is read by the rules of HTML

template_place : (above : List Ancestor) → is_in (of kind.Template) above ≡ true →
    place_of above ≡ place.Body
template_place [] e = absurd (false≢true e)
template_place (a ∷ above) e =
    let both = and_parts (nest.is_html a.space) _ e in
    pick _ both.0 (agree_of (place_in (is_in (of kind.Head) above)) (λ l. place.Body) kind.Template
    a.head.name (unfold names in refl) both.1)

template_reads : (above : List Ancestor) (n : List ℕ) → is_in (of kind.Template) above ≡ true →
    is_read_as_html (reading_of above) n ≡ true
template_reads [] n e = refl
template_reads (a ∷ above) n e =
    by_space a.space (and_parts (nest.is_html a.space) _ e).0 where
      by_space : (s : Space) → nest.is_html s ≡ true →
          is_read_as_html (reading_in s a.head) n ≡ true
      by_space Html h = refl
      by_space s h = absurd (false≢true h)

-- content of a head is of HTML
head_html : (n : List ℕ) → of kind.HeadContent n ≡ true → nest.is_html (begun_space n) ≡ true
head_html n h = agree_of (λ m. nest.is_html (begun_space m)) (λ m. true) kind.HeadContent n
    (unfold names in refl) h

-- the element is begun, once the innermost `template` is read in the first of these modes
pub record IsBegun (above : List Ancestor) (h : Head) (p : Page) : Type 0 where
  pub modes : TemplateModes
  pub ordered : are_modes p.stack modes ≡ true
  pub reads : ends_at_once h ≡ false → ReadsBody (begun_element h above p.start) modes
  pub is : token_read (Start (written_tag h)) p
      ≡ one_of (ends_at_once h) (begun h above (record p { templates = modes }))

-- no text is behind it
none_ended : (b : Bool) (h : Head) (above : List Ancestor) (p : Page) →
    text_ended (one_of b (begun h above p)) ≡ one_of b (begun h above p)
none_ended true h above p = refl
none_ended false h above p = refl

module _ (above : List Ancestor) (h : Head) (kids : NodesView)
    (inside : is_page_place (place_of above) ≡ false)
    (rules : element_misnesting h kids (surroundings_of above) ≡ None) where
  abbrev around : Surroundings
  around = surroundings_of above

  abbrev tag : StartTag
  tag = written_tag h

  -- an element that is read by the rules of HTML
  module _ (read : is_read_as_html (reading_of above) h.name ≡ true) where
    in_space : space_of (reading_of above) h.name ≡ begun_space h.name
    in_space = rw read refl

    small : lowered h.name ≡ h.name
    small = small_begun h.name (rw in_space at (tag_fits h kids around rules).case)

    unclosed : is_foreign_self_closing h.name ≡ false
    unclosed = (content_fits h kids around rules read).unclosed

    unread : has_unread_end tag.name ≡ false
    unread = ap has_unread_end small ∙ (content_fits h kids around rules read).ends

    abbrev begins : Page → Page
    begins p = made (open_space (space_of (reading_of above) h.name)) h.name h.attrs p

    opens_it : (p : Page) → length p.stack < p.limit → Opens tag p (begins p)
    opens_it p fits = written_opens h p (space_of (reading_of above) h.name) fits in_space
        (tag_fits h kids around rules) small unclosed

    begins_it : (p : Page) → IsCalm above p →
        opened_as tag.name (begins p) ≡ one_of (ends_at_once h) (begun h above p)
    begins_it p calm = ap (λ n. opened_as n (begins p)) small
        ∙ begun_as h above p calm.framesets in_space unclosed

    named : named_misnesting (place_of above) tag.name around ≡ None
    named = ap (λ n. named_misnesting (place_of above) n around) small
        ∙ named_kept h kids around rules read

  -- whether the token is one of HTML
  token_foreign : (p : Page) → IsCalm above p →
      is_foreign_token (Start tag) p.stack ≡ not (is_read_as_html (reading_of above) h.name)
  token_foreign p calm = start_foreign tag above p.stack calm.alike
      ∙ ap not (reading_small (reading_of above) h.name (tag_fits h kids around rules).case)

  -- where the innermost `template` is read as a body, in one turn
  module _ (p : Page) (calm : IsCalm above p) (steady : IsSteady above p.stack)
      (fits : length p.stack < p.limit) (reads : reads_body p.templates ≡ true) where
    turned : turn (Start tag) p ≡ Taken (one_of (ends_at_once h) (begun h above p))
    turned = either (is_foreign_token (Start tag) p.stack)
        (λ e. let other = not-true _ (sym (token_foreign p calm) ∙ e) in
        foreign_taken above h kids p calm (tag_fits h kids around rules) fits
        (outside_foreign tag p.stack e) other (stays_foreign h kids around rules other))
        (λ e. let read = not-false _ (sym (token_foreign p calm) ∙ e) in
        by_place tag above p (begins read p) calm steady (opens_it read p fits) (unread read)
        inside reads (place_of above) refl (named read) ∙ ap Taken (begins_it read p calm))

    begun_once : IsBegun above h p
    begun_once = record {
      modes = p.templates;
      ordered = calm.modes;
      reads = λ e. or_right (is_template (begun_element h above p.start)) _
          (or_right (is_of (of kind.Raw) (begun_element h above p.start)) _ reads);
      is = turn_taken (Start tag) p (one_of (ends_at_once h) (begun h above p)) refl calm.tables turned
          ∙ none_ended (ends_at_once h) h above p;
    }

  -- in a `template` in which nothing but content of the head was begun
  module _ (p : Page) (calm : IsCalm above p) (steady : IsSteady above p.stack)
      (fits : length p.stack < p.limit) (at : is_at (of kind.Template) p.stack ≡ true)
      (waits : reads_body p.templates ≡ false) where
    in_template : is_in (of kind.Template) above ≡ true
    in_template = sym (at_is (of kind.Template) above p.stack calm.alike) ∙ at

    read_here : is_read_as_html (reading_of above) h.name ≡ true
    read_here = template_reads above h.name in_template

    place_here : place_of above ≡ place.Body
    place_here = template_place above in_template

    turn_here : turn (Start tag) p ≡ start_in_template tag p
    turn_here = skip _ (token_foreign p calm ∙ ap not read_here) (ap (λ m. by_mode m (Start tag) p)
        (head_mode p calm.framesets at calm.modes waits))

    abbrev next : Page
    next = in_mode modes.Body p

    calm_next : IsCalm above next
    calm_next = record {
      alike = calm.alike;
      ordered = calm.ordered;
      modes = modes_read p.stack p.templates at calm.modes;
      form = calm.form;
      moved = calm.moved;
      framesets = calm.framesets;
      unmade = calm.unmade;
      tables = calm.tables;
    }

    rules_here : body_misnesting tag.name around ≡ None
    rules_here = sym (ap (λ l. named_misnesting l tag.name around) place_here) ∙ named read_here

    no_part : of kind.TablePart tag.name ≡ false
    no_part = (stays_in_body tag.name around rules_here).part

    reads_as_body : template_mode tag.name ≡ modes.Body
    reads_as_body =
        let x = parts tag.name p.stack no_part in
        skip _ (or_from _ _ (or_from _ _ x.3 x.4) x.1)
        (skip _ (outside_of (of kind.TablePart) kind.Col tag.name (unfold names in refl) no_part)
        (skip _ x.2 (skip _ x.0 refl)))

    -- content of the head
    in_head_reads : of kind.HeadContent tag.name ≡ true → ends_at_once h ≡ false →
        ReadsBody (begun_element h above p.start) p.templates
    in_head_reads head e =
        let it = begun_element h above p.start in
        let n = h.name in
        let html : nest.is_html (space_of (reading_of above) n) ≡ true =
        ap nest.is_html (in_space read_here) ∙ head_html n (sym (ap (of kind.HeadContent)
        (small read_here)) ∙ head) in
        let here = html_is (space_of (reading_of above) n) ∙ html in
        let test = λ (m : List ℕ). (of kind.Template m || of kind.Raw m) || of kind.HeadLeaf m in
        of_two (passes_of test kind.HeadContent n (unfold names in refl)
        (sym (ap (of kind.HeadContent) (small read_here)) ∙ head))
        (λ k. of_two k (λ t. or_left (is_template it) _ (and_from _ _ here t))
        (λ r. or_right (is_template it) _
        (or_left (is_of (of kind.Raw) it) _ (and_from _ _ here r))))
        (λ l. absurd (both_ways _ e (or_right (is_foreign_self_closing n) _
        (void_of n (content_fits h kids around rules read_here).ends
        (or_right (of kind.Leaf n) _ l)))))

    begun_in_head : of kind.HeadContent tag.name ≡ true → IsBegun above h p
    begun_in_head head = record {
      modes = p.templates;
      ordered = calm.modes;
      reads = in_head_reads head;
      is = turn_taken (Start tag) p (one_of (ends_at_once h) (begun h above p)) refl calm.tables
          (turn_here ∙ pick _ head (ap Taken (head_begun tag p (begins read_here p)
          (opens_it read_here p fits) head (unread read_here) ∙ begins_it read_here p calm)))
          ∙ none_ended (ends_at_once h) h above p;
    }

    -- and what is not
    begun_in_body : of kind.HeadContent tag.name ≡ false → IsBegun above h p
    begun_in_body other = record {
      modes = next.templates;
      ordered = calm_next.modes;
      reads = λ e. or_right (is_template (begun_element h above p.start)) _
          (or_right (is_of (of kind.Raw) (begun_element h above p.start)) _ refl);
      is = turns_taken (Start tag) p next (one_of (ends_at_once h) (begun h above next)) refl
          calm.tables
          (turn_here ∙ skip _ other (ap (λ m. Again (in_mode m p) (Start tag)) reads_as_body))
          (turned next calm_next steady fits refl) ∙ none_ended (ends_at_once h) h above next;
    }

    pub begun_waiting : IsBegun above h p
    begun_waiting = decide (of kind.HeadContent tag.name) begun_in_head begun_in_body

pub start_taken : (above : List Ancestor) (h : Head) (kids : NodesView) (p : Page) →
    IsCalm above p → IsSteady above p.stack → is_at (of kind.Raw) p.stack ≡ false →
    is_page_place (place_of above) ≡ false →
    element_misnesting h kids (surroundings_of above) ≡ None → length above < p.limit →
    IsBegun above h p
start_taken above h kids p calm steady raw inside rules deep =
    let fits : length p.stack < p.limit = rw (length_is above p.stack calm.alike) deep in
    decide (reads_body p.templates) (begun_once above h kids inside rules p calm steady fits)
    (λ waits. begun_waiting above h kids inside rules p calm steady fits
    (true_from_ne_false _ (λ e. both_ways _ waits
    (reads_inside p.stack p.templates calm.modes e raw))) waits)
