-- Nodes that break no rule are read as they are.
use Rattle.std.proofs.Common.{◌≡◌, ℕ, suc, ◌+◌, ◌<◌, ◌≤◌, Bool, true, false, ◌&&◌, ◌||◌, List, [], ◌∷◌, ◌++◌, Some, None, length, refl, sym, ap, subst, ◌∙◌, append-nil, arith}
use Rattle.std.proofs.lemmas.Bool.{and_left, and_parts, and_right, both_ways, false_from_ne_true, false≢true, ltb-false, true≢false}
use Rattle.std.specs.{List.{list_all}, Prelude.{if◌then◌else◌}}
use Rattle.html_names_core.specs.Kinds.{is_escapable_raw, is_foreign_self_closing, is_raw, is_void}
use Rattle.html_dom_tree.{proofs.Basics.{put_twice}, specs.FrameFree.{NodeIsFrameFree, NodesAreFrameFree}}
use Rattle.html_dom_tree.specs.Tree.{Head, NodeView, tag_node, text_node, element_node, frame_node, NodesView, none, node}
use Rattle.html_page_nesting.specs.{Ancestors.{Ancestor, ancestor, is_html, place_of, reading_of, space_of}, Contents.{begin_with_feed}}
use Rattle.html_page_nesting.specs.{Misnested.{Finding, found, node_misnested, nodes_misnested}, Surroundings.{surroundings_of}}
use Rattle.html_page_nesting.specs.{NestingRules.{element_misnesting, stranger_misnesting, text_misnesting}, declared.reading.Space.{Space}}
use Rattle.html_page_nesting.specs.{WrittenTexts.{has_return, is_empty, is_white, is_white_char}, declared.reading.Place.{Place}}
use Rattle.html_page_nesting.specs.declared.misnesting.Misnesting.TheVariants as why
use Rattle.html_page_nesting.specs.declared.reading.Place.TheVariants as place
use Rattle.typst_html_encode.{proofs.{Plainly.{shut}, Runs.{left_empty, right_empty}}, specs.{FrameWriters.{Frames}, Layout.{due_after}}}
use Rattle.typst_html_encode.specs.ExportFaults.{attrs_faults, node_faults, nodes_faults, text_faults, void_faults}
use Rattle.typst_html_encode.specs.ReadingBack.{HeadIsNamed, NodeIsNamed, NodesAreNamed}
use Rattle.typst_html_encode.specs.Text.{escaped_text, escaping_of, node_text, nodes_raw_text, nodes_text, start_tag_text}
use Rattle.html_page_names.specs.{ForeignNames.{lowered}, PageNames.{of}}
use Rattle.html_page_names.specs.declared.kind.Kind.TheVariants as kind
use Rattle.html_page_stack.specs.{OpenElements.{OpenElement, is_of, is_removed}, Pages.{Page, End, Start}}
use Rattle.html_page_tree.specs.PageTrees.{token_read}
use Rattle.html_page_read.specs.{PageReading.{run}, PageTokens.{PageReader}}
use Rattle.html_page_stack.specs.Pages.{most_attrs}
use Rattle.typst_html_nesting_laws.proofs.{Alike.{html_is, html_space, never_removed}, Begun.{IsBegun, start_taken}, Branches.{else_none, if_none, decide}}
use Rattle.typst_html_nesting_laws.proofs.{Closed.{calm_begun}, ClosedBefore.{no_form}, Ended.{end_taken}, InnerTexts.{all_pass, no_return, no_returns}}
use Rattle.typst_html_nesting_laws.proofs.Fillings.{FormIsAlone, KidsAreGathered, alone_filled, around, behind_data, child_normal, closed_moment, closes, element_closed, foreign_filled, form_back, fresh_behind, html_filled, filling, formats_behind, inside_faults, last_form, opened, opened_moment, opened_page, with_child}
use Rattle.typst_html_nesting_laws.proofs.Forms.{AreGathered, AreOrdered, IsFilled, Moment, gathered_on, later, no_children, on, put_nodes, texted_children, with_text_is}
use Rattle.typst_html_nesting_laws.proofs.{KeptTags.{lowered_differ, small_html}, KindFacts.{escapable_of, names, none_of, once_keeps, raw_of}}
use Rattle.typst_html_nesting_laws.proofs.{ListedFormats.{order_opened, order_with_text}, Opened.{one_of}}
use Rattle.typst_html_nesting_laws.proofs.Templates.{ReadsBody, are_modes, closed_own, closed_plain, has_with_text, is_template, modes_back, modes_deeper, modes_there}
use Rattle.typst_html_nesting_laws.proofs.{Readers.{Emits, Takes, behind, data_at, written_tag}, StartTags.{start_emits}}
use Rattle.typst_html_nesting_laws.proofs.Rules.{ContentFits, TagFits, content_fits, foreign_fits, form_alone, found_none, html_read, named_kept, still_no_page, tag_fits}
use Rattle.typst_html_nesting_laws.proofs.Stands.{named_no_plaintext}
use Rattle.typst_html_nesting_laws.proofs.{Steady.{steady_begun}, Taken.{body_takes, raw_takes, white_takes}}
use Rattle.typst_html_nesting_laws.{proofs.Texts.{begins_with_lf, text_leads}, specs.TreesStay.{NodeIsReadable, NodesAreReadable}}
use Rattle.typst_html_nesting_laws.proofs.Ways.{AreAlike, IsCalm, IsSteady, ends_at_once, form_of, is_page_place}

-- a page in whose current node nodes are read
pub record IsInside (above : List Ancestor) (p : Page) (o : OpenElement) (os : List OpenElement) :
    Type 0 where
  pub calm : (c : NodesView) (t : List ℕ) (m : Moment) → AreOrdered (o ∷ os) m →
      IsCalm above (on p o os c t m)
  pub steady : (c : NodesView) → IsSteady above (record o { children = c } ∷ os)
  pub place : is_page_place (place_of above) ≡ false
  pub raw : is_of (of kind.Raw) o ≡ false
  pub plaintext : is_of (of kind.Plaintext) o ≡ false
  pub limit : 512 < p.limit

-- nodes there, at some index of a parent, in which nothing is misnested
pub record NodesFit (above : List Ancestor) (ns : NodesView) : Type 0 where
  pub path : List ℕ
  pub index : ℕ
  pub named : NodesAreNamed ns
  pub frame_free : NodesAreFrameFree ns
  pub readable : NodesAreReadable ns
  pub nested : nodes_misnested path index above ns ≡ []

-- and an element
pub record ElementFits (above : List Ancestor) (h : Head) (kids : NodesView) : Type 0 where
  pub named : HeadIsNamed h
  pub few : length h.attrs ≤ most_attrs
  pub shallow : length above ≤ 512
  pub fits : element_misnesting h kids (surroundings_of above) ≡ None
  pub below : NodesFit (ancestor h above ∷ above) kids

pub rest_fits : {above : List Ancestor} {n : NodeView} {ns : NodesView} →
    NodesFit above (node n ns) → NodesFit above ns
unfolding NodesAreNamed NodesAreFrameFree NodesAreReadable nodes_misnested
rest_fits f = record {
  path = f.path;
  index = suc f.index;
  named = f.named.1;
  frame_free = f.frame_free.1;
  readable = f.readable.1;
  nested = right_empty _ _ f.nested;
}

shallow_by : (deep : Bool) (path : List ℕ) (span : ℕ) (more : List Finding) →
    (if deep then found path span (Some why.TooDeep) else more) ≡ [] → (deep ≡ false) × (more ≡ [])
shallow_by true path span more h = (cc, cc)
shallow_by false path span more h = (refl, h)

pub element_fits : {above : List Ancestor} {h : Head} {kids ns : NodesView} →
    NodesFit above (node (element_node h kids) ns) → ElementFits above h kids
unfolding NodeIsNamed NodesAreNamed NodeIsFrameFree NodesAreFrameFree NodeIsReadable
    NodesAreReadable node_misnested nodes_misnested
element_fits f =
    let x = shallow_by _ _ _ _ (left_empty _ _ f.nested) in
    record {
      named = f.named.0.0;
      few = f.readable.0.0;
      shallow = ltb-false _ _ x.0;
      fits = found_none _ _ _ (left_empty _ _ x.1);
      below = record {
        path = f.path ++ f.index ∷ [];
        index = 0;
        named = f.named.0.1;
        frame_free = f.frame_free.0;
        readable = f.readable.0.1;
        nested = right_empty _ _ x.1;
      };
    }

pub text_fits : {above : List Ancestor} {s : List ℕ} {span : ℕ} {ns : NodesView} →
    NodesFit above (node (text_node s span) ns) → text_misnesting s (surroundings_of above) ≡ None
unfolding node_misnested nodes_misnested
text_fits f = found_none _ _ _ (left_empty _ _ f.nested)

-- a calm page stays so, whatever children the current node has
pub calm_on : (above : List Ancestor) (p : Page) (o : OpenElement) (os : List OpenElement)
    (c : NodesView) (t : List ℕ) (m : Moment) → p.stack ≡ o ∷ os → IsCalm above p →
    AreOrdered (o ∷ os) m → IsCalm above (on p o os c t m)
calm_on above p o os c t m e calm order = record {
  alike = alike_with above (subst (AreAlike above) e calm.alike);
  ordered = order.0;
  modes = order.1;
  form = calm.form ∙ ap form_of e;
  moved = refl;
  framesets = calm.framesets;
  unmade = calm.unmade;
  tables = calm.tables;
} where
  alike_with : (above : List Ancestor) → AreAlike above (o ∷ os) →
      AreAlike above (record o { children = c } ∷ os)
  alike_with [] h = h
  alike_with (a ∷ above) h = (record { name = h.0.name; attrs = h.0.attrs; space = h.0.space }, h.1)

-- characters of a text are taken
record AreTaken (p : Page) (s : List ℕ) : Type 0 where
  passes : ℕ → Bool
  takes : Takes passes p
  all : list_all passes s ≡ true

taken_in : (w : Place) (above : List Ancestor) (p : Page) (s : List ℕ) → place_of above ≡ w →
    IsCalm above p → IsSteady above p.stack → is_page_place (place_of above) ≡ false →
    (if has_return s then Some why.CarriageReturn
    else (if is_white s then None else stranger_misnesting w)) ≡ None → AreTaken p s
taken_in place.Page above p s e calm steady n m = absurd (true≢false (sym (ap is_page_place e) ∙ n))
taken_in place.Body above p s e calm steady n m = record {
  passes = λ c. true;
  takes = body_takes above p calm steady e;
  all = all_pass s;
}
taken_in w above p s e calm steady n m = record {
  passes = is_white_char;
  takes = white_takes above p calm n (λ b. let x = sym e ∙ b in cc);
  all = (else_none _ (if_none why.CarriageReturn m).1).0;
}

pub text_gathered : (above : List Ancestor) (p : Page) (o : OpenElement) (os : List OpenElement)
    (c : NodesView) (t : List ℕ) (m : Moment) (pre_span fresh : Bool) (place : ℕ) (text : List ℕ)
    (span : ℕ) (passes : ℕ → Bool) → AreOrdered (o ∷ os) m →
    Takes passes (on p o os c t m) → list_all passes text ≡ true →
    text_faults (escaping_of pre_span) span text ≡ [] → text_misnesting text (surroundings_of above)
    ≡ None → (fresh ≡ true → begins_with_lf text ≡ false) →
    AreGathered (data_at fresh place (on p o os c t m)) (escaped_text (escaping_of pre_span) text)
    (fresh && is_empty text) p o os c t (node (text_node text span) none)
text_gathered above p o os c t m pre_span fresh place text span passes order takes all f n first =
    let l = text_leads pre_span text span passes f (no_return text (surroundings_of above) n) all
    fresh place (on p o os c t m) takes first in
    record {
      children = c;
      words = t ++ text;
      place = l.place;
      moment = later l.start m;
      ordered = order;
      is = l.is;
      same = λ k. ap (put_nodes c) (sym (put_twice t text k));
    }

-- behind a text a line feed may still be dropped
first_behind : (fresh : Bool) (text : List ℕ) (span : ℕ) (ns : NodesView) →
    (fresh ≡ true → begin_with_feed (node (text_node text span) ns) ≡ false) →
    (fresh && is_empty text) ≡ true → begin_with_feed ns ≡ false
first_behind fresh [] span ns h e = h (and_parts _ _ e).0
first_behind fresh (x ∷ xs) span ns h e = absurd (false≢true (and_parts _ _ e).1)

first_in : (fresh : Bool) (text : List ℕ) (span : ℕ) (ns : NodesView) →
    (fresh ≡ true → begin_with_feed (node (text_node text span) ns) ≡ false) → fresh ≡ true →
    begins_with_lf text ≡ false
first_in fresh [] span ns h e = refl
first_in fresh (x ∷ xs) span ns h e = h e

-- its start tag is read as one
pub element_starts : {above : List Ancestor} {h : Head} {kids : NodesView} →
    ElementFits above h kids → attrs_faults h.span h.attrs ≡ [] → (fresh : Bool) (place : ℕ)
    (p : Page) → Emits (data_at fresh place p) (start_tag_text h) (Start (written_tag h)) p
element_starts {above} {h} {kids} f values fresh place p =
    let tag = tag_fits h kids (surroundings_of above) f.fits in
    start_emits h h.span f.named tag.letter values tag.returns
    (lowered_differ (space_of (reading_of above) h.name) h tag) f.few fresh place p

-- nodes that are read wherever they stand
abbrev pub AreLed : Frames → NodesView → Type 0
AreLed frames ns = (pre_span due : Bool) (level : ℕ) (above : List Ancestor) (p : Page)
    (o : OpenElement) (os : List OpenElement) (fresh : Bool) (place : ℕ) (c : NodesView)
    (t : List ℕ) (m : Moment) → IsInside above p o os → AreOrdered (o ∷ os) m →
    NodesFit above ns → nodes_faults frames pre_span false ns ≡ [] →
    (fresh ≡ true → begin_with_feed ns ≡ false) →
    AreGathered (data_at fresh place (on p o os c t m))
    (nodes_text frames pre_span due (shut level) ns) (fresh_behind fresh ns) p o os c t ns

-- the nodes of an element in which they can be read
pub kids_gathered : (frames : Frames) (level : ℕ) (above : List Ancestor) (p : Page)
    (o : OpenElement) (os : List OpenElement) (kids : NodesView) → AreLed frames kids →
    IsInside above p o os → NodesFit above kids → KidsAreGathered frames level kids p o os
kids_gathered frames level above p o os kids led there fit pre_span fresh place m order clean =
    led pre_span true level above p o os fresh place none [] m there order fit clean

-- what follows a start tag
abbrev pub rest : Frames → (level : ℕ) → Head → NodesView → List ℕ
rest frames level h kids = if ends_at_once h then [] else filling frames level h kids

module _ (frames : Frames) (level : ℕ) {above : List Ancestor} {h : Head} {kids : NodesView}
    {p : Page} {o : OpenElement} {os : List OpenElement} (there : IsInside above p o os)
    (f : ElementFits above h kids) (values : attrs_faults h.span h.attrs ≡ [])
    (c : NodesView) (t : List ℕ) where
  -- behind the start tag, which begins at that moment
  module _ (m : Moment) (order : AreOrdered (o ∷ os) m) where
    abbrev page : Page
    page = opened_page above h p o os c t m

    abbrev it : OpenElement
    it = opened above h p o os c t m

    abbrev space : Space
    space = space_of (reading_of above) h.name

    abbrev outer : List OpenElement
    outer = around above h p o os c t m

    -- the element around it stays open, and the form is afterwards what it was
    stays : is_removed o.space ≡ false
    stays = never_removed above (record o { children = c }) os (there.calm c t m order).alike

    made : p.unmade ≡ []
    made = (there.calm c t m order).unmade

    alone : FormIsAlone above h p o os c t m
    alone e outside =
        let calm = there.calm c t m order in
        let both = and_parts _ _ e in
        calm.form ∙ no_form above (record o { children = c } ∷ os) calm.alike
        (sym (modes_there (record o { children = c } ∷ os) m.templates order.1) ∙ outside)
        (form_alone above h kids there.place f.fits (sym (html_is space) ∙ both.0) both.1)

    returns : (n : Moment) → AreOrdered (it ∷ outer) n → last_form above h p o os c t m n ≡ p.form
    returns n x = form_back above h p o os c t m n (modes_there (it ∷ outer) n.templates x.1
        ∙ ap (λ b. is_template it || b) (has_with_text t (record o { children = c }) os
        ∙ sym (modes_there (record o { children = c } ∷ os) m.templates order.1))) alone

    steady_outer : IsSteady above outer
    steady_outer = subst (λ x. IsSteady above (x ∷ os)) (sym (with_text_is t o c))
        (there.steady (texted_children o.head.span c t))

    no_plaintext : is_html space ≡ true → of kind.Plaintext h.name ≡ false
    no_plaintext x = let around = surroundings_of above in
        named_no_plaintext (place_of above) h.name around there.place
        (named_kept h kids around f.fits (html_read _ _ x))

    plaintext_it : is_of (of kind.Plaintext) it ≡ false
    plaintext_it = decide (is_html space) (λ x. and_right _ _ (no_plaintext x))
        (λ x. ap (λ b. b && of kind.Plaintext h.name) (html_is space ∙ x))

    -- the element has content
    module _ (e : ends_at_once h ≡ false) (reads : ReadsBody it m.templates) where
      calm_page : IsCalm (ancestor h above ∷ above) page
      calm_page = calm_begun above h (on p o os c t m) (there.calm c t m order) reads

      order_page : AreOrdered (it ∷ outer) (opened_moment above h p o os c t m)
      order_page = (calm_page.ordered, calm_page.modes)

      calm_filled : (children : NodesView) (words : List ℕ) (n : Moment) →
          AreOrdered (it ∷ outer) n →
          IsCalm (ancestor h above ∷ above) (on page it outer children words n)
      calm_filled children words n x =
          calm_on (ancestor h above ∷ above) page it outer children words n refl calm_page x

      inside_it : (is_html (space_of (reading_of above) h.name) && of kind.Raw h.name) ≡ false →
          IsInside (ancestor h above ∷ above) page it outer
      inside_it r = record {
        calm = calm_filled;
        steady = λ children. steady_begun above h kids outer calm_page.alike.1
            steady_outer there.place f.fits e r (record it { children = children })
            (record { name = refl; attrs = refl; space = refl });
        place = still_no_page above h kids there.place f.fits;
        raw = ap (λ b. b && of kind.Raw h.name) (html_is (space_of (reading_of above) h.name)) ∙ r;
        plaintext = plaintext_it;
        limit = there.limit;
      }

      ends_it : (children : NodesView) (words : List ℕ) (n : Moment) →
          AreOrdered (it ∷ outer) n →
          token_read (End (lowered h.name)) (on page it outer children words n)
          ≡ closed_own it (on page it outer children words n)
      ends_it children words n x = end_taken above h kids (on page it outer children words n)
          (record it { children = children }) outer refl
          (calm_filled children words n x) steady_outer there.place f.fits e

      fill : AreLed frames kids → inside_faults frames h kids ≡ [] →
          (place : ℕ) → IsFilled (behind (Start (written_tag h)) place page)
          (filling frames level h kids) h.name kids page it outer
      fill led g place = by_kind (is_html space) (of kind.Raw h.name) refl refl where
        tag : TagFits space h
        tag = tag_fits h kids (surroundings_of above) f.fits

        returns : has_return (nodes_raw_text kids) ≡ false
        returns =
            no_returns f.below.path f.below.index (ancestor h above ∷ above) kids f.below.nested

        small : is_html space ≡ true → lowered h.name ≡ h.name
        small x = small_html _ _ x tag.case

        content : is_html space ≡ true → ContentFits h kids
        content x = content_fits h kids (surroundings_of above) f.fits (html_read _ _ x)

        gathered : (is_html space && of kind.Raw h.name) ≡ false →
            KidsAreGathered frames level kids page it outer
        gathered r = kids_gathered frames level (ancestor h above ∷ above) page it outer kids led
            (inside_it r) f.below

        by_kind : (html raw : Bool) → is_html space ≡ html → of kind.Raw h.name ≡ raw →
            IsFilled (behind (Start (written_tag h)) place page) (filling frames level h kids)
            h.name kids page it outer
        by_kind true true x y =
            alone_filled frames level above h kids p o os c t m order_page f.named.0
            tag.letter returns g x (small x) (content x) y
            (raw_takes (ancestor h above ∷ above) page it outer calm_page refl (html_space _ x) y)
            (is_raw h.name) (is_escapable_raw h.name) refl refl place
        by_kind true false x y =
            html_filled frames level above h kids p o os c t m order_page f.named.0
            tag.letter returns g x (small x) (content x) y (no_plaintext x)
            (false_from_ne_true _ (λ r. both_ways _ y (raw_of h.name r)))
            (false_from_ne_true _ (λ r. both_ways _ y (escapable_of h.name r)))
            (gathered (and_right _ _ y)) place
        by_kind false raw x y =
            foreign_filled frames level above h kids p o os c t m order_page f.named.0
            tag.letter returns g x (foreign_fits h kids (surroundings_of above) f.fits x)
            (gathered (ap (λ b. b && of kind.Raw h.name) x))
            (is_raw h.name) (is_escapable_raw h.name) refl refl place

  module _ (fresh : Bool) (place : ℕ) (m : Moment) (order : AreOrdered (o ∷ os) m) where
    abbrev before : PageReader
    before = data_at fresh place (on p o os c t m)

    starts : Emits before (start_tag_text h) (Start (written_tag h)) (on p o os c t m)
    starts = element_starts f values fresh place (on p o os c t m)

    begun_there : IsBegun above h (on p o os c t (later starts.start m))
    begun_there = start_taken above h kids (on p o os c t (later starts.start m))
        (there.calm c t (later starts.start m) order)
        (there.steady c) there.raw there.place f.fits (omega (arith, f.shallow, there.limit))

    -- where its start tag begins, in a `template` that is read as it stands there
    abbrev at_start : Moment
    at_start = record (later starts.start m) { templates = begun_there.modes }

    abbrev order_there : AreOrdered (o ∷ os) at_start
    order_there = (order.0, begun_there.ordered)

    abbrev page_there : Page
    page_there = page at_start order_there

    begins : token_read (Start (written_tag h)) (on p o os c t (later starts.start m))
        ≡ one_of (ends_at_once h) page_there
    begins = begun_there.is

    -- an element that is its start tag alone
    once : ends_at_once h ≡ true → void_faults h.span kids ≡ [] → AreGathered before
        (start_tag_text h ++ []) false p o os c t (node (element_node h kids) none)
    once e clean =
        let x = it at_start order_there in
        let first = opened_moment above h p o os c t at_start in
        let last = closed_moment above h p o os c t at_start first in
        let after : Page = on p o os (with_child above h p o os c t at_start none) [] last in
        let plain : is_template x ≡ false = and_right _ _ (none_of
        (λ n. is_foreign_self_closing n || is_void n) kind.Template h.name (unfold names in refl) e)
        in
        let ends : token_read (Start (written_tag h)) (on p o os c t (later starts.start m))
        ≡ after = begins ∙ (ap (λ b. one_of b page_there) e ∙ (sym (closed_plain x page_there plain)
        ∙ closes above h p o os c t at_start (made at_start order_there)
        (stays at_start order_there) none [] first
        (form_back above h p o os c t at_start first (modes_deeper x at_start.templates)
        (alone at_start order_there)))) in
        record {
          children = with_child above h p o os c t at_start none;
          words = [];
          place = starts.place + 1;
          moment = last;
          ordered = (
            formats_behind above h p o os c t at_start page_there.formats
                (order_opened x (outer at_start order_there) at_start.formats
                (order_with_text t (record o { children = c } ∷ os) at_start.formats order.0)),
            ap (are_modes (o ∷ os)) (modes_back x at_start.templates) ∙ begun_there.ordered,
          );
          is = ap (run before) (append-nil (start_tag_text h)) ∙ (starts.is after ends
              ∙ (behind_data (written_tag h) starts.place after there.raw there.plaintext
              ∙ ap (λ b. data_at b (starts.place + 1) after)
              (and_left _ _ (once_keeps h.name e))));
          same = child_normal above h p o os c t at_start none kids (no_children h.span kids clean);
        }

    -- an element with content
    whole : AreLed frames kids → ends_at_once h ≡ false → inside_faults frames h kids ≡ [] →
        AreGathered before (start_tag_text h ++ filling frames level h kids) false p o os c t
        (node (element_node h kids) none)
    whole led e g = element_closed above h p o os c t at_start (made at_start order_there)
        (stays at_start order_there)
        (returns at_start order_there) before
        (behind (Start (written_tag h)) starts.place page_there) (filling frames level h kids)
        kids (starts.is page_there (begins ∙ ap (λ b. one_of b page_there) e))
        (fill at_start order_there e (begun_there.reads e) led g starts.place)
        (ends_it at_start order_there e (begun_there.reads e))

    pub element_gathered : AreLed frames kids →
        (if ends_at_once h then void_faults h.span kids else inside_faults frames h kids) ≡ [] →
        AreGathered before (start_tag_text h ++ rest frames level h kids) false p o os c t
        (node (element_node h kids) none)
    element_gathered led clean = decide (ends_at_once h) (λ e. rw e (once e (rw e at clean)))
        (λ e. rw e (whole led e (rw e at clean)))

pub nodes_lead : (frames : Frames) (ns : NodesView) → AreLed frames ns
unfolding node_text nodes_text node_faults nodes_faults NodeIsFrameFree NodesAreFrameFree
nodes_lead frames none pre_span due level above p o os fresh place c t m there order f clean first =
    record {
      children = c;
      words = t;
      place = place;
      moment = m;
      ordered = order;
      is = refl;
      same = λ k. refl;
    }
nodes_lead frames (node (tag_node tag) ns)
    pre_span due level above p o os fresh place c t m there order f clean first =
    gathered_on {xs = []} (record {
      children = c;
      words = t;
      place = place;
      moment = m;
      ordered = order;
      is = refl;
      same = λ k. refl;
    }) (nodes_lead frames ns pre_span due level above p o os fresh place c t m there order
    (rest_fits f) clean first)
nodes_lead frames (node (text_node text span) ns) pre_span due level above p o os fresh place c t m
    there order f clean first =
    let fits = text_fits f in
    let x = taken_in (place_of above) above (on p o os c t m) text refl
    (there.calm c t m order) (there.steady c) there.place fits in
    let g = text_gathered above p o os c t m pre_span fresh place text span x.passes order x.takes
    x.all (left_empty _ _ clean) fits (first_in fresh text span ns first) in
    gathered_on g (nodes_lead frames ns pre_span false level above p o os
    (fresh && is_empty text) g.place g.children g.words g.moment there g.ordered (rest_fits f)
    (right_empty _ _ clean) (first_behind fresh text span ns first))
nodes_lead frames (node (frame_node b) ns)
    pre_span due level above p o os fresh place c t m there order f clean first =
    absurd f.frame_free.0
nodes_lead frames (node (element_node h kids) ns) pre_span due level above p o os fresh place c t m
    there order f clean first =
    let g = element_gathered frames (level + 1) there (element_fits f)
    (left_empty _ _ (left_empty _ _ clean)) c t fresh place m order (nodes_lead frames kids)
    (right_empty _ _ (left_empty _ _ clean)) in
    gathered_on g
    (nodes_lead frames ns pre_span (due_after due (element_node h kids)) level above p o os false
    g.place g.children g.words g.moment there g.ordered (rest_fits f) (right_empty _ _ clean)
    (λ e. absurd (false≢true e)))
