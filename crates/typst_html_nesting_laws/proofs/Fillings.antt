-- An element is opened, filled and closed: what stands in it leads to a page with one child more.
use Rattle.std.proofs.Common.{◌≡◌, ℕ, ◌+◌, Bool, true, false, not, ◌&&◌, ◌||◌, List, [], ◌∷◌, ◌++◌, codes, refl, sym, ap, ◌∙◌, arith, None, Some}
use Rattle.std.proofs.lemmas.Bool.{and_from, and_parts, and_right, both_ways, false_from_ne_true, false≢true, not_from_false}
use Rattle.std.specs.Prelude.{if◌then◌else◌, Option}
use Rattle.html_names_core.specs.{Characters.{IsOf, all, is_tag_char, is_text_char}, Kinds.{is_escapable_raw, is_raw}}
use Rattle.html_dom_tree.specs.PlainTree.{branch, Plains, plain, put_words, nodes_normal}
use Rattle.html_dom_tree.specs.Tree.{Head, NodeView, text_node, element_node, NodesView, none, node, with_last}
use Rattle.html_page_nesting.specs.{Ancestors.{Ancestor, is_html, reading_of, space_of}, WrittenTags.{begins_with_letter}}
use Rattle.html_page_nesting.specs.{Contents.{begin_with_feed, is_raw_when_read}, ScriptTexts.{hides_end}}
use Rattle.html_page_nesting.specs.WrittenTexts.{has_return, is_empty}
use Rattle.typst_html_encode.proofs.{Plainly.{shut}, References.{raw_good}, Runs.{left_empty, right_empty, test_fails}}
use Rattle.typst_html_encode.specs.{Content.{by_kind, content_kind}, FrameWriters.{Frames}, Reader.{drops_feed}}
use Rattle.typst_html_encode.specs.ExportFaults.{closing_faults, nodes_faults, nodes_raw_faults, raw_content_faults}
use Rattle.typst_html_encode.specs.Text.{begins_with_feed, end_tag_text, escaped_text, escaping_of, feed_text, nodes_raw_text, nodes_text, start_tag_text}
use Rattle.typst_html_encode.specs.declared.fault.ExportFault.{ExportFault}
use Rattle.typst_html_encode.specs.declared.fault.ExportFault.TheVariants as fault
use Rattle.html_text.specs.ClosingTags.{holds_closing}
use Rattle.html_page_names.specs.{ForeignNames.{lowered}, PageNames.{of}}
use Rattle.html_page_names.specs.declared.kind.Kind.TheVariants as kind
use Rattle.html_page_stack.specs.{Formats.{Formats, after_current}, Pages.{Page, StartTag, End, Start, form_after}}
use Rattle.html_page_stack.specs.OpenElements.{OpenElement, is_at, is_of, is_removed, placed, uncovered, with_text, without_current}
use Rattle.html_page_stack.specs.OpenElements as open_elements
use Rattle.html_page_stack.specs.declared.modes.Space.TheVariants as spaces
use Rattle.html_page_tree.specs.PageTrees.{token_read}
use Rattle.html_page_read.specs.{PageReading.{run}, PageTokens.{PageReader}}
use Rattle.typst_html_nesting_laws.proofs.{Alike.{html_is, html_space}, Branches.{of_two, second_false}, Closed.{closed_is, still_open}}
use Rattle.typst_html_nesting_laws.proofs.Templates.{closed_own, hold_modes, is_template, modes_behind, modes_closed, modes_without_text}
use Rattle.typst_html_nesting_laws.proofs.{EndTags.{end_emits}, RawTexts.{IsWithin, escapable_emits, raw_emits}}
use Rattle.typst_html_nesting_laws.proofs.Forms.{AreGathered, AreOrdered, IsFilled, Moment, are_texts, filled_normal, later, on, put_last, put_nodes, put_texted, put_texts, texted_children, texts_by_faults, with_text_is}
use Rattle.typst_html_nesting_laws.proofs.InnerTexts.{feed_is, first_feed, joined_is, none_closes, plain_texts, plains_written, texts_clean, texts_good, texts_written}
use Rattle.typst_html_nesting_laws.proofs.KindFacts.{dropped_feed, escapable_same, fails_of, feed_dropped, names, not_escapable, raw_keeps, script_or_style}
use Rattle.typst_html_nesting_laws.proofs.ListedFormats.{IsInOrder, order_closed, order_without_text}
use Rattle.typst_html_nesting_laws.proofs.{Rules.{ContentFits, ForeignFits}, Ways.{begun, begun_element}}
use Rattle.typst_html_nesting_laws.proofs.Readers.{Emits, Takes, behind, data_at, raw_at, run_on, written_tag}

-- whether a line feed is still dropped behind a node, and behind nodes
abbrev pub fresh_after : Bool → NodeView → Bool
fresh_after fresh (text_node s span) = fresh && is_empty s
fresh_after fresh (element_node h kids) = false
fresh_after fresh n = fresh

abbrev pub fresh_behind : Bool → NodesView → Bool
fresh_behind fresh none = fresh
fresh_behind fresh (node n ns) = fresh_behind (fresh_after fresh n) ns

-- behind a start tag of an element that is no element of text alone
pub behind_data : (tag : StartTag) (place : ℕ) (p : Page) → is_at (of kind.Raw) p.stack ≡ false →
    is_at (of kind.Plaintext) p.stack ≡ false → behind (Start tag) place p
    ≡ data_at (of kind.DropsFeed tag.name && is_at (of kind.DropsFeed) p.stack) (place + 1) p
behind_data tag place p h k = rw (h, k) refl

behind_raw : (tag : StartTag) (place : ℕ) (p : Page) → is_at (of kind.Raw) p.stack ≡ true →
    behind (Start tag) place p
    ≡ raw_at (of kind.DropsFeed tag.name && is_at (of kind.DropsFeed) p.stack) (place + 1) p
behind_raw tag place p h = rw h refl

-- the form behind an element, by whether it is a `template`, one is open around it, and it is itself
-- a form
form_by : (template inside form : Bool) (start : ℕ) (before : Option ℕ) →
    (template ≡ true → form ≡ false) → (form ≡ true → inside ≡ false → before ≡ None) →
    (if template || inside then (if not inside && form then Some start else before)
    else (if form && true then None
    else (if not inside && form then Some start else before))) ≡ before
form_by true true form start before other alone = refl
form_by true false true start before other alone = absurd (false≢true (sym (other refl)))
form_by true false false start before other alone = refl
form_by false true form start before other alone = refl
form_by false false true start before other alone = sym (alone refl refl)
form_by false false false start before other alone = refl

module _ (above : List Ancestor) (h : Head) (p : Page) (o : OpenElement) (os : List OpenElement)
    (c : NodesView) (t : List ℕ) (m : Moment) where
  -- the page behind the start tag, the element, and those around it
  abbrev pub opened_page : Page
  opened_page = begun h above (on p o os c t m)

  abbrev pub opened : OpenElement
  opened = begun_element h above m.start

  abbrev pub around : List OpenElement
  around = with_text t (record o { children = c }) ∷ os

  abbrev pub opened_moment : Moment
  opened_moment = record {
    start = m.start;
    formats = opened_page.formats;
    templates = opened_page.templates;
  }

  -- behind its end tag, which begins at that moment
  abbrev pub closed_moment : Moment → Moment
  closed_moment n = record n {
    formats = after_current true (opened ∷ around) n.formats;
    templates = modes_behind opened n.templates;
  }

  pub formats_behind : (fs : Formats) → IsInOrder (opened ∷ around) fs →
      IsInOrder (o ∷ os) (after_current true (opened ∷ around) fs)
  formats_behind fs h = order_without_text t (record o { children = c }) os _
      (order_closed opened around fs h)

  pub order_behind : (n : Moment) → AreOrdered (opened ∷ around) n →
      AreOrdered (o ∷ os) (closed_moment n)
  order_behind n h = (
    formats_behind n.formats h.0,
    modes_without_text t (record o { children = c }) os _
        (modes_closed opened around n.templates h.1),
  )

  -- as a child, once it is filled
  abbrev pub with_child : (children : NodesView) → NodesView
  with_child children =
      with_last (texted_children o.head.span c t) (element_node opened.head children)

  -- the form behind its end tag
  abbrev pub last_form : Moment → Option ℕ
  last_form n = if hold_modes n.templates then opened_page.form
      else form_after true (opened ∷ around) opened_page.form

  -- it is that before its start tag, unless it is a form in another, in no `template`
  abbrev pub FormIsAlone : Type 0
  FormIsAlone = is_of (of kind.Form) opened ≡ true → hold_modes m.templates ≡ false →
      p.form ≡ None

  pub form_back : (n : Moment) →
      hold_modes n.templates ≡ (is_template opened || hold_modes m.templates) → FormIsAlone →
      last_form n ≡ p.form
  form_back n same alone =
      ap (λ b. if b then opened_page.form
      else form_after true (opened ∷ around) opened_page.form) same
      ∙ form_by (is_template opened) (hold_modes m.templates) (is_of (of kind.Form) opened) m.start
      p.form template_alone alone
    where
      template_alone : is_template opened ≡ true → is_of (of kind.Form) opened ≡ false
      template_alone e =
          let html = open_elements.is_html opened.space in
          and_right html (of kind.Form h.name) (fails_of (of kind.Form) kind.Template h.name
          (unfold names in refl) (and_parts html (of kind.Template h.name) e).1)

  abbrev page_of : List OpenElement → Option ℕ → Moment → Page
  page_of stack form n = record p {
    text = [];
    moved = false;
    stack = stack;
    start = n.start;
    formats = n.formats;
    templates = n.templates;
    form = form;
    unmade = [];
  }

  pub closes : p.unmade ≡ [] → is_removed o.space ≡ false → (children : NodesView) (words : List ℕ) (n : Moment) →
      last_form n ≡ p.form → closed_own opened (on opened_page opened around children words n)
      ≡ on p o os (with_child (texted_children m.start children words)) [] (closed_moment n)
  closes made stays children words n form =
      let y : OpenElement = with_text t (record o { children = c }) in
      let x : OpenElement = record opened { children = texted_children m.start children words } in
      let z : OpenElement = record o {
        children = with_child (texted_children m.start children words);
      } in
      let behind = closed_moment n in
      let with_modes : Page → Page =
      λ r. record r { templates = modes_behind opened n.templates } in
      ap with_modes (closed_is (record opened { children = children }) around
      (on opened_page opened around children words n) refl)
      ∙ (ap (λ w. page_of (uncovered (without_current (w ∷ y ∷ os))) (last_form n) behind)
      (with_text_is words opened children)
      ∙ (ap (λ w. page_of (uncovered (placed x w ∷ os)) (last_form n) behind) (with_text_is t o c)
      ∙ (ap (λ s. page_of s (last_form n) behind) (still_open z os stays)
      ∙ (ap (λ f. page_of (z ∷ os) f behind) form
      ∙ ap (λ u. record (page_of (z ∷ os) p.form behind) { unmade = u }) (sym made)))))

  pub child_normal : (children kids : NodesView) → nodes_normal children ≡ nodes_normal kids →
      (k : Plains) → put_nodes (with_child children) k
      ≡ put_nodes c (put_words t (plain (branch h.name h.attrs (nodes_normal kids)) k))
  child_normal children kids e k =
      put_last (texted_children o.head.span c t) (element_node opened.head children) k
      ∙ (ap (λ n. put_nodes (texted_children o.head.span c t) (plain (branch h.name h.attrs n) k)) e
      ∙ put_texted o.head.span c t (plain (branch h.name h.attrs (nodes_normal kids)) k))

  -- from the start tag to the end tag
  abbrev pub element_closed : p.unmade ≡ [] → is_removed o.space ≡ false → ((n : Moment) →
      AreOrdered (opened ∷ around) n → last_form n ≡ p.form) → (q behind_start : PageReader)
      (rest : List ℕ) (kids : NodesView) → run q (start_tag_text h) ≡ behind_start →
      IsFilled behind_start rest h.name kids opened_page opened around →
      ((children : NodesView) (words : List ℕ) (n : Moment) → AreOrdered (opened ∷ around) n →
      token_read (End (lowered h.name)) (on opened_page opened around children words n)
      ≡ closed_own opened (on opened_page opened around children words n)) →
      AreGathered q (start_tag_text h ++ rest) false p o os c t (node (element_node h kids) none)
  element_closed made stays form q behind_start rest kids starts f ends =
      let kept = texted_children m.start f.children f.words in
      let after : Page = on p o os (with_child kept) [] (closed_moment f.moment) in
      record {
        children = with_child kept;
        words = [];
        place = f.place;
        moment = closed_moment f.moment;
        ordered = order_behind f.moment f.ordered;
        is = run_on q behind_start _ (start_tag_text h) rest starts (f.is after
            (ends f.children f.words f.moment f.ordered
            ∙ closes made stays f.children f.words f.moment (form f.moment f.ordered)));
        same = child_normal kept kids (filled_normal m.start f);
      }

-- the nodes are read, whatever text stands before
abbrev pub KidsAreGathered : Frames → (level : ℕ) → NodesView → Page → OpenElement →
    List OpenElement → Type 0
KidsAreGathered frames level kids p o os = (pre_span fresh : Bool) (place : ℕ) (m : Moment) →
    AreOrdered (o ∷ os) m → nodes_faults frames pre_span false kids ≡ [] →
    (fresh ≡ true → begin_with_feed kids ≡ false) →
    AreGathered (data_at fresh place (on p o os none [] m)) (nodes_text frames pre_span true
    (shut level) kids) (fresh_behind fresh kids) p o os none [] kids

module _ (frames : Frames) (level : ℕ) (name : List ℕ) (kids : NodesView) (p : Page)
    (o : OpenElement) (os : List OpenElement) where
  -- nodes, and the end tag
  pub nodes_filled : IsOf is_tag_char name → begins_with_letter name ≡ true →
      KidsAreGathered frames level kids p o os → (pre_span fresh : Bool) (place : ℕ) (m : Moment) →
      AreOrdered (o ∷ os) m → nodes_faults frames pre_span false kids ≡ [] →
      (fresh ≡ true → begin_with_feed kids ≡ false) →
      IsFilled (data_at fresh place (on p o os none [] m))
      (nodes_text frames pre_span true (shut level) kids ++ end_tag_text name) name kids p o os
  nodes_filled n l all pre_span fresh place m order f first =
      let g = all pre_span fresh place m order f first in
      let last = fresh_behind fresh kids in
      let e = end_emits name n l last g.place (on p o os g.children g.words g.moment) in
      record {
        children = g.children;
        words = g.words;
        moment = later e.start g.moment;
        ordered = g.ordered;
        place = e.place + 1;
        is = λ after r. run_on _ _ _ (nodes_text frames pre_span true (shut level) kids)
            (end_tag_text name) g.is (e.is after r);
        same = g.same;
      }

  -- a line feed that is added is dropped, and no other
  fed : (x f : Bool) (text : List ℕ) (place : ℕ) (m : Moment) → AreOrdered (o ∷ os) m →
      (x ≡ true → f ≡ true) → (x ≡ false → f ≡ true → begin_with_feed kids ≡ false) →
      ((fresh : Bool) (place : ℕ) (m : Moment) → AreOrdered (o ∷ os) m →
      (fresh ≡ true → begin_with_feed kids ≡ false) →
      IsFilled (data_at fresh place (on p o os none [] m)) text name kids p o os) →
      IsFilled (data_at f place (on p o os none [] m))
      ((if x then codes "\n" else []) ++ text) name kids p o os
  fed true true text place m order h k fill =
      let g = fill false (place + 1) (later place m) order (λ e. absurd (false≢true e)) in record {
        children = g.children;
        words = g.words;
        moment = g.moment;
        ordered = g.ordered;
        place = g.place;
        is = g.is;
        same = g.same;
      }
  fed true false text place m order h k fill = absurd (false≢true (h refl))
  fed false f text place m order h k fill = fill f place m order (k refl)

-- what stands between the tags, in plain writing
abbrev pub inside : Frames → (level : ℕ) → Head → NodesView → List ℕ
inside frames level h kids = by_kind (content_kind h.name) (nodes_raw_text kids)
    (escaped_text (escaping_of false) (nodes_raw_text kids))
    (nodes_text frames h.pre_span true (shut level) kids)

-- and all that follows the start tag
abbrev pub filling : Frames → (level : ℕ) → Head → NodesView → List ℕ
filling frames level h kids =
    feed_text h kids ++ (inside frames level h kids ++ end_tag_text h.name)

abbrev pub inside_faults : Frames → Head → NodesView → List ExportFault
inside_faults frames h kids = by_kind (content_kind h.name) (raw_content_faults h kids)
    (nodes_raw_faults (escaping_of false) kids) (nodes_faults frames h.pre_span false kids)

-- a line feed is written before one that would be dropped
abbrev is_fed : Head → NodesView → Bool
is_fed h kids = drops_feed h.name && begins_with_feed kids

undropped_by : (n : List ℕ) → of kind.DropsFeed n ≡ false → drops_feed n ≡ false
undropped_by n e = false_from_ne_true _ (λ d. false≢true (sym e ∙ dropped_feed n d))

-- what raw elements hold; the escaping of their faults is found, as it has no name here
raw_texts : (h : Head) (ns : NodesView) → raw_content_faults h ns ≡ [] → are_texts ns ≡ true
raw_texts h ns f = let clean = left_empty _ (closing_faults h ns) f in
    first_of (search (texts_by_faults, clean), grind (arith, texts_by_faults, clean))

raw_chars : (h : Head) (ns : NodesView) → raw_content_faults h ns ≡ [] →
    all is_text_char (nodes_raw_text ns) ≡ true
raw_chars h ns f = let clean = left_empty _ (closing_faults h ns) f in
    first_of (search (raw_good, clean), grind (arith, raw_good, clean))

module _ (frames : Frames) (level : ℕ) (above : List Ancestor) (h : Head) (kids : NodesView)
    (p : Page) (o : OpenElement) (os : List OpenElement) (c : NodesView) (t : List ℕ) (m : Moment)
    (order : AreOrdered (opened above h p o os c t m ∷ around above h p o os c t m)
    (opened_moment above h p o os c t m))
    (named : IsOf is_tag_char h.name) (letter : begins_with_letter h.name ≡ true)
    (returns : has_return (nodes_raw_text kids) ≡ false)
    (faultless : inside_faults frames h kids ≡ []) where
  abbrev page : Page
  page = opened_page above h p o os c t m

  abbrev it : OpenElement
  it = opened above h p o os c t m

  abbrev outer : List OpenElement
  outer = around above h p o os c t m

  -- whether a line feed is dropped
  abbrev drops : Bool
  drops = of kind.DropsFeed (lowered h.name) && is_of (of kind.DropsFeed) it

  -- what follows the start tag
  abbrev Filled : (place : ℕ) → Type 0
  Filled place = IsFilled (behind (Start (written_tag h)) place page)
      (filling frames level h kids) h.name kids page it outer

  data_filled : is_of (of kind.Raw) it ≡ false → is_of (of kind.Plaintext) it ≡ false →
      KidsAreGathered frames level kids page it outer →
      (pre_span : Bool) → nodes_faults frames pre_span false kids ≡ [] →
      inside frames level h kids ≡ nodes_text frames pre_span true (shut level) kids →
      (is_fed h kids ≡ true → drops ≡ true) → (is_fed h kids ≡ false →
      drops ≡ true → begin_with_feed kids ≡ false) → (place : ℕ) → Filled place
  data_filled raw plaintext all pre_span f same x y place = rw (raw, plaintext, same)
      (fed frames level h.name kids page it outer (is_fed h kids) drops
      (nodes_text frames pre_span true (shut level) kids ++ end_tag_text h.name) (place + 1)
      (opened_moment above h p o os c t m) order x y (λ fresh place n ordered first.
      nodes_filled frames level h.name kids page it outer named letter all pre_span fresh place n
      ordered f first))

  -- of an element of HTML
  module _ (html : is_html (space_of (reading_of above) h.name) ≡ true)
      (small : lowered h.name ≡ h.name) (fits : ContentFits h kids) where
    html_it : open_elements.is_html it.space ≡ true
    html_it = html_is (space_of (reading_of above) h.name) ∙ html

    drops_it : of kind.DropsFeed h.name ≡ true → drops ≡ true
    drops_it e = and_from _ _ (ap (of kind.DropsFeed) small ∙ e) (and_from _ _ html_it e)

    it_drops : drops ≡ true → of kind.DropsFeed h.name ≡ true
    it_drops e = sym (ap (of kind.DropsFeed) small) ∙ (and_parts _ _ e).0

    fed_drops : is_fed h kids ≡ true → drops ≡ true
    fed_drops e = drops_it (dropped_feed h.name (and_parts _ _ e).0)

    no_feed : is_fed h kids ≡ false → drops ≡ true → begin_with_feed kids ≡ false
    no_feed e d = of_two (feed_dropped h.name (it_drops d))
        (λ k. sym (feed_is kids returns) ∙ second_false e k) fits.listing

    pub html_filled : of kind.Raw h.name ≡ false → of kind.Plaintext h.name ≡ false →
        is_raw h.name ≡ false → is_escapable_raw h.name ≡ false →
        KidsAreGathered frames level kids page it outer → (place : ℕ) → Filled place
    html_filled raw plaintext r e all place =
        data_filled (and_right _ _ raw) (and_right _ _ plaintext) all h.pre_span
        (rw (r, e) at faultless) (rw (r, e) refl) fed_drops no_feed place

    -- of text alone
    module _ (raw : of kind.Raw h.name ≡ true) (takes : Takes (λ c. true) page) where
      in_html : it.space ≡ spaces.Html
      in_html = html_space _ html

      within : IsWithin h.name page
      within = record {
        current = refl;
        escapable = ap (λ s. open_elements.is_html s && of kind.EscapableRaw h.name) in_html;
        script = ap (λ s. open_elements.is_html s && of kind.Script h.name) in_html;
      }

      raw_it : is_of (of kind.Raw) it ≡ true
      raw_it = and_from _ _ html_it raw

      -- what follows the start tag is read as the texts, and the end tag
      text_filled : (place : ℕ) → are_texts kids ≡ true → Emits (raw_at drops (place + 1) page)
          (filling frames level h kids) (End h.name) (record page { text = nodes_raw_text kids }) →
          Filled place
      text_filled place texts e = record {
        children = none;
        words = nodes_raw_text kids;
        moment = later e.start (opened_moment above h p o os c t m);
        ordered = order;
        place = e.place + 1;
        is = λ after r. ap (λ q. run q (filling frames level h kids))
            (behind_raw (written_tag h) place page raw_it) ∙ e.is after (sym (ap (λ n. token_read
            (End n) (on page it outer none (nodes_raw_text kids)
            (later e.start (opened_moment above h p o os c t m)))) small) ∙ r);
        same = put_texts kids texts;
      }

      script_ends : of kind.Script h.name ≡ true → hides_end (nodes_raw_text kids) ≡ false
      script_ends e = sym (ap hides_end (joined_is kids)) ∙ fits.script e

      -- in which no references are read
      pub raw_filled : is_escapable_raw h.name ≡ false → inside frames level h kids
          ≡ nodes_raw_text kids → are_texts kids ≡ true → all is_text_char (nodes_raw_text kids)
          ≡ true → holds_closing h.name (nodes_raw_text kids) ≡ false → (place : ℕ) → Filled place
      raw_filled escapable same texts good shuts place =
          let keeps = raw_keeps h.name raw escapable in
          let kept : drops ≡ false = and_right _ _ (and_right _ _ keeps) in
          text_filled place texts (rw (kept, undropped_by h.name keeps, same)
          (raw_emits within takes (nodes_raw_text kids) (place + 1) raw
          (escapable_same h.name ∙ escapable) good returns shuts script_ends))

      -- in which they are
      pub escapable_filled : is_raw h.name ≡ false → is_escapable_raw h.name ≡ true → (place : ℕ) →
          Filled place
      escapable_filled r escapable place =
          let f : nodes_raw_faults (escaping_of false) kids ≡ [] = rw (r, escapable) at faultless in
          let texts = texts_by_faults (escaping_of false) kids f in
          text_filled place texts (rw (r, escapable)
          (escapable_emits within takes (escapable_same h.name ∙ escapable) raw
          (nodes_raw_text kids)
          (raw_good (escaping_of false) kids f) returns (is_fed h kids) drops (place + 1) fed_drops
          (λ x y. first_feed kids texts (no_feed y x))))

      -- each element of text alone
      pub alone_filled : (r e : Bool) → is_raw h.name ≡ r → is_escapable_raw h.name ≡ e →
          (place : ℕ) → Filled place
      alone_filled true e x y place =
          let f : raw_content_faults h kids ≡ [] = rw x at faultless in
          raw_filled (not_escapable h.name x) (rw x refl) (raw_texts h kids f)
          (raw_chars h kids f) (test_fails (holds_closing h.name (nodes_raw_text kids))
          (fault.RawClosing (record { 0 = h.span })) (right_empty _ _ f)) place
      alone_filled false true x y place = escapable_filled x y place
      alone_filled false false x y place =
          let read : is_raw_when_read h.name ≡ true = and_from _ _ raw
          (not_from_false (of kind.ScriptOrStyle h.name || of kind.EscapableRaw h.name)
          (rw (script_or_style h.name, escapable_same h.name, x, y) refl)) in
          let plain = fits.plain read in
          let texts = plain_texts h.pre_span kids plain in
          let f : nodes_faults frames h.pre_span false kids ≡ [] = rw (x, y) at faultless in
          let good = texts_good frames h.pre_span kids texts.0 f in
          let same : inside frames level h kids
          ≡ nodes_text frames h.pre_span true (shut level) kids = rw (x, y) refl in
          raw_filled y (same ∙ plains_written frames h.pre_span true level kids plain good) texts.0
          good (none_closes h.name (nodes_raw_text kids) texts.1) place

  -- of an element of SVG or MathML
  module _ (html : is_html (space_of (reading_of above) h.name) ≡ false) (fits : ForeignFits h kids)
      (all : KidsAreGathered frames level kids page it outer) where
    html_not : open_elements.is_html it.space ≡ false
    html_not = html_is (space_of (reading_of above) h.name) ∙ html

    drops_not : drops ≡ false
    drops_not = and_right _ _ (ap (λ b. b && of kind.DropsFeed h.name) html_not)

    fed_not : is_fed h kids ≡ true → drops ≡ true
    fed_not e =
        let both = and_parts _ _ e in
        absurd (both_ways _ (feed_is kids returns ∙ fits.feed both.0) both.1)

    -- texts alone, or nodes
    by_nodes : (pre_span : Bool) → nodes_faults frames pre_span false kids ≡ [] →
        inside frames level h kids ≡ nodes_text frames pre_span true (shut level) kids →
        (place : ℕ) → Filled place
    by_nodes pre_span f same place = data_filled (ap (λ b. b && of kind.Raw h.name) html_not)
        (ap (λ b. b && of kind.Plaintext h.name) html_not) all pre_span f same fed_not (λ x d. absurd (false≢true (sym drops_not ∙ d))) place

    pub foreign_filled : (r e : Bool) → is_raw h.name ≡ r → is_escapable_raw h.name ≡ e →
        (place : ℕ) → Filled place
    foreign_filled true e x y place =
        let f : raw_content_faults h kids ≡ [] = rw x at faultless in
        let good = raw_chars h kids f in
        let same : inside frames level h kids ≡ nodes_raw_text kids = rw x refl in
        by_nodes false (texts_clean frames kids (raw_texts h kids f) good)
        (same ∙ sym (plains_written frames false true level kids (fits.plain x) good)) place
    foreign_filled false true x y place =
        let f : nodes_raw_faults (escaping_of false) kids ≡ [] = rw (x, y) at faultless in
        let texts = texts_by_faults (escaping_of false) kids f in
        let same : inside frames level h kids
        ≡ escaped_text (escaping_of false) (nodes_raw_text kids) = rw (x, y) refl in
        by_nodes false (texts_clean frames kids texts (raw_good (escaping_of false) kids f))
        (same ∙ sym (texts_written frames true level kids texts)) place
    foreign_filled false false x y place =
        by_nodes h.pre_span (rw (x, y) at faultless) (rw (x, y) refl) place
