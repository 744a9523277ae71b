-- The text of a page is read as its root: the document type, `html`, `head`, `body`, and the end.
use Rattle.std.proofs.Common.{◌≡◌, ℕ, ◌+◌, ◌<◌, Bool, true, false, ◌||◌, List, [], ◌∷◌, ◌++◌, codes, length, refl, sym, ap, subst, ◌∙◌, append-nil, append_assoc, arith, None, Ok}
use Rattle.std.{proofs.lemmas.Bool.{and_left, and_parts, and_right, both_ways, false≢true, or_from, or_right}, specs.Prelude.{if◌then◌else◌}}
use Rattle.html_names_core.specs.Names.{stands_in}
use Rattle.html_dom_tree.{proofs.Basics.{put_twice}, specs.PlainTree.{branch, Plains, no_plains, plain, put_words, nodes_normal}}
use Rattle.html_dom_tree.specs.Tree.{Head, tag_node, text_node, element_node, frame_node, NodesView, none, node, ElementView, with_last}
use Rattle.html_page_nesting.specs.Ancestors.{Ancestor, ancestor, is_in, place_in, place_inside, place_of, reading_in, reading_of, space_of}
use Rattle.html_page_nesting.specs.{PageRoots.{is_complete, stage_behind_nodes}, Surroundings.{surroundings_of}}
use Rattle.html_page_nesting.specs.{WrittenTexts.{is_white, is_white_char}, declared.{page.Stage.{Stage}, reading.Place.{Place}}}
use Rattle.html_page_nesting.specs.declared.page.Stage.TheVariants as stage
use Rattle.html_page_nesting.specs.declared.reading.Place.TheVariants as places
use Rattle.html_page_nesting.specs.declared.reading.Reading.TheVariants as reading
use Rattle.html_page_nesting.specs.declared.reading.Space.TheVariants as nest
use Rattle.typst_html_encode.{proofs.{Plainly.{shut}, Runs.{left_empty, right_empty}}, specs.{FrameWriters.{Frames}, Layout.{due_after}}}
use Rattle.typst_html_encode.specs.{ExportFaults.{attrs_faults, node_faults, nodes_faults, void_faults}, ReadingBack.{NodeIsNamed}}
use Rattle.typst_html_encode.specs.Text.{end_tag_text, escaped_text, escaping_of, node_text, nodes_text, start_tag_text}
use Rattle.html_page_names.specs.{ForeignNames.{lowered}, PageNames.{of}}
use Rattle.html_page_names.specs.declared.kind.Kind.TheVariants as kind
use Rattle.html_page_stack.{proofs.Children.{element_counts}, specs.declared.modes.Mode.{Mode}}
use Rattle.html_page_stack.specs.OpenElements.{OpenElement, at, completed, has_elements, is_of, is_removed, is_table_context, mode, placed, root_of, with_text}
use Rattle.html_page_stack.specs.OpenElements as open_elements
use Rattle.html_page_stack.specs.Pages.{Notes, Page, Token, Char, Start, End, Finish, closed, first_page, opened, settled, Taken}
use Rattle.html_page_stack.specs.declared.modes.Mode.TheVariants.{BeforeHtml, BeforeHead, InHead, AfterHead, InBody}
use Rattle.html_page_stack.specs.declared.modes.FramesetRule.TheVariants as frameset
use Rattle.html_page_stack.specs.declared.modes.Space.TheVariants as spaces
use Rattle.html_page_stack.specs.declared.modes.TableRule.TheVariants as rule
use Rattle.html_page_tree.specs.PageTrees.{behind_token, by_mode, text_ended, token_read}
use Rattle.html_page_read.specs.{DocumentTypes.{table_rule}, PageReading.{PageResult, answered, first_reader, page_result, root_made, run}}
use Rattle.html_page_read.specs.PageTokens.{PageReader, finished}
use Rattle.typst_html_nesting_laws.proofs.{Branches.{either_way, else_none}, Closed.{calm_begun}, EndTags.{end_emits}, InnerTexts.{no_return}}
use Rattle.typst_html_nesting_laws.proofs.Fillings.{around, behind_data, element_closed, form_back, inside_faults, nodes_filled, opened as opened_element, opened_moment, opened_page}
use Rattle.typst_html_nesting_laws.proofs.Forms.{AreGathered, AreOrdered, IsFilled, Moment, filled_normal, later, normal_is, on, put_last, put_nodes, put_texted, texted_children, with_text_is}
use Rattle.typst_html_nesting_laws.proofs.{KeptTags.{begun_plain, opened_back}, KindFacts.{names}, Rules.{found_none, tag_fits}, Texts.{text_leads}}
use Rattle.typst_html_nesting_laws.proofs.ListedFormats.{order_opened}
use Rattle.typst_html_nesting_laws.proofs.Nodes.{ElementFits, IsInside, NodesFit, calm_on, element_fits, element_starts, kids_gathered, nodes_lead, rest, rest_fits, text_fits}
use Rattle.typst_html_nesting_laws.proofs.Readers.{Emits, Takes, data_at, lowered_attrs, run_on, started, written_tag}
use Rattle.typst_html_nesting_laws.proofs.RootParts.{IsPart, begins_named, mode_of, name_of, part_names, part_of}
use Rattle.typst_html_nesting_laws.{proofs.{Tables.{is_table_mode, outside_texts, text_kept}, Templates.{closed_plain, has_with_text, hold_modes, is_template, modes_opened, modes_there, reads_body, reads_inside}, Turns.{IsWhole, end_whole, finish_whole, html_token, is_told, mode_taken, read_mode}}, specs.TreesStay.{NodeIsReadable, TreesStay, no_notes}}
use Rattle.typst_html_nesting_laws.proofs.Ways.{IsCalm, begun, begun_element, ends_at_once, is_body_mode, is_page_place, open_space}

-- one of the three elements, where it breaks no rule and is without a fault
record PartFits (frames : Frames) (above : List Ancestor) (h : Head) (kids : NodesView) :
    Type 0 where
  part : IsPart h.name
  fits : ElementFits above h kids
  values : attrs_faults h.span h.attrs ≡ []
  content : (if ends_at_once h then void_faults h.span kids else inside_faults frames h kids) ≡ []
  as_html : reading_of above ≡ reading.AsHtml

-- its start tag, and what follows it
module _ {frames : Frames} {above : List Ancestor} {h : Head} {kids : NodesView}
    (x : PartFits frames above h kids) (level : ℕ) where
  part_space : space_of (reading_of above) h.name ≡ nest.Html
  part_space = ap (λ r. space_of r h.name) x.as_html ∙ x.part.space

  part_starts : (place : ℕ) (p : Page) →
      Emits (data_at false place p) (start_tag_text h) (Start (written_tag h)) p
  part_starts place p = element_starts x.fits x.values false place p

  -- the reader behind it
  part_begun : (place : ℕ) (p : Page) → length p.stack < p.limit →
      at is_table_context p.stack ≡ false → ((s : ℕ) → token_read (Start (written_tag h))
      (started s p) ≡ text_ended (opened (lowered h.name) (lowered_attrs h.attrs) (started s p))) →
      run (data_at false place p) (start_tag_text h) ≡ data_at false
      ((part_starts place p).place + 1) (begun h above (started (part_starts place p).start p))
  part_begun place p limit outside reads =
      let e = part_starts place p in
      let before = started e.start p in
      let after = begun h above before in
      e.is after (reads e.start ∙ ap text_ended (opened_back h before limit outside
      (space_of (reading_of above) h.name) part_space
      (tag_fits h kids (surroundings_of above) x.fits.fits)
      ∙ begun_plain h above before (and_right _ _ x.part.template)))
      ∙ (behind_data (written_tag h) e.place after (and_right _ _ x.part.raw)
      (and_right _ _ x.part.plaintext)
      ∙ ap (λ b. data_at b (e.place + 1) after) (and_left _ _
      (ap (of kind.DropsFeed) x.part.small ∙ x.part.drops)))

  part_rest : rest frames level h kids
      ≡ nodes_text frames h.pre_span true (shut level) kids ++ end_tag_text h.name
  part_rest = let y = x.part in
      rw (y.closed_alone, y.void, y.fed, y.written_raw, y.escapable) refl

  part_faults : nodes_faults frames h.pre_span false kids ≡ []
  part_faults = let y = x.part in
      rw (y.closed_alone, y.void, y.written_raw, y.escapable) at x.content

  -- its children, and its end tag
  part_filled : (p : Page) (o : OpenElement) (os : List OpenElement) →
      IsInside (ancestor h above ∷ above) p o os → (place : ℕ) (m : Moment) →
      AreOrdered (o ∷ os) m → IsFilled (data_at false place (on p o os none [] m))
      (rest frames level h kids) h.name kids p o os
  part_filled p o os there place m order = rw part_rest
      (nodes_filled frames level h.name kids p o os x.fits.named.0
      (tag_fits h kids (surroundings_of above) x.fits.fits).letter
      (kids_gathered frames level (ancestor h above ∷ above) p o os kids (nodes_lead frames kids)
      there x.fits.below) h.pre_span false place m order part_faults (λ e. absurd (false≢true e)))

-- the end of a text is read as a root, with children that have this normal form
pub record RootIsRead (r : PageReader) (o : OpenElement) (k : Plains) : Type 0 where
  pub root : ElementView
  pub is : page_result (finished r).page ≡ Ok (root, no_notes)
  pub head : root.0 ≡ o.head
  pub same : nodes_normal root.1 ≡ k

-- a text, and what follows it
root_on : {o : OpenElement} {k : Plains} (q r : PageReader) (xs ys : List ℕ) → run q xs ≡ r →
    RootIsRead (run r ys) o k → RootIsRead (run q (xs ++ ys)) o k
root_on {o} {k} q r xs ys e h =
    subst (λ x. RootIsRead x o k) (sym (run_on q r (run r ys) xs ys e refl)) h

root_as : {o : OpenElement} {k : Plains} (q : PageReader) (xs ys : List ℕ) → xs ≡ ys →
    RootIsRead (run q ys) o k → RootIsRead (run q xs) o k
root_as {o} {k} q xs ys e h = subst (λ l. RootIsRead (run q l) o k) (sym e) h

root_same : {r : PageReader} {o : OpenElement} {k l : Plains} → k ≡ l → RootIsRead r o k →
    RootIsRead r o l
root_same e h = record { root = h.root; is = h.is; head = h.head; same = h.same ∙ e }

-- the root that is made where one element stands in it, and no text behind
abbrev root_at : OpenElement → OpenElement → ElementView
root_at u v = ((placed u v).head, (placed u v).children)

abbrev made_at : OpenElement → OpenElement → Notes → PageResult
made_at u v notes = Ok (root_at u v, notes)

-- the page within `html`
pub record InRoot (above : List Ancestor) (p : Page) (o : OpenElement) : Type 0 where
  pub calm : (c : NodesView) (t : List ℕ) (m : Moment) → AreOrdered (o ∷ []) m →
      IsCalm above (on p o [] c t m)
  pub tables : p.tables ≡ rule.ClosesP
  pub framesets : p.framesets ≡ frameset.Ignored
  pub limit : 512 < p.limit
  pub notes : p.notes ≡ no_notes
  pub refusal : p.refusal ≡ None
  pub name : o.head.name ≡ codes "html"
  pub space : o.space ≡ spaces.Html
  pub as_html : reading_of above ≡ reading.AsHtml

-- a text that is no page does not become one
other_stays : (ns : NodesView) → is_complete (stage_behind_nodes stage.Other ns) ≡ false
other_stays none = refl
other_stays (node n ns) = other_stays ns

stage_by : (b : Bool) (s : Stage) (ns : NodesView) →
    is_complete (stage_behind_nodes (if b then s else stage.Other) ns) ≡ true →
    (b ≡ true) × (is_complete (stage_behind_nodes s ns) ≡ true)
stage_by true s ns h = (refl, h)
stage_by false s ns h = absurd (both_ways _ (other_stays ns) h)

-- behind the body nothing is written, and nothing stands in the normal form
nothing_behind : (frames : Frames) (pre_span due : Bool) (level : ℕ) (ns : NodesView) →
    is_complete (stage_behind_nodes stage.BehindBody ns) ≡ true → (k : Plains) →
    (nodes_text frames pre_span due (shut level) ns ≡ []) × (put_nodes ns k ≡ k)
unfolding node_text nodes_text
nothing_behind frames pre_span due level none h k = (refl, refl)
nothing_behind frames pre_span due level (node (tag_node t) ns) h k =
    nothing_behind frames pre_span due level ns h k
nothing_behind frames pre_span due level (node (text_node [] span) ns) h k =
    nothing_behind frames pre_span false level ns h k
nothing_behind frames pre_span due level (node n ns) h k = absurd (both_ways _ (other_stays ns) h)

module _ {above : List Ancestor} {p : Page} {o : OpenElement} (inner : InRoot above p o) where
  -- tokens within `html`, whose mode is by whether it has the head
  root_taken : (token : Token) (c : NodesView) (t : List ℕ) (m : Moment) (b : Bool) (r : Page) →
      IsWhole token (on p o [] c t m) → has_elements c ≡ b →
      by_mode (if b then AfterHead else BeforeHead) token (on p o [] c t m) ≡ Taken r →
      token_read token (on p o [] c t m) ≡ behind_token token r
  root_taken token c t m b r whole has h =
      let it : OpenElement = record o { children = c } in
      mode_taken token (on p o [] c t m) (if b then AfterHead else BeforeHead) r
      whole inner.tables inner.framesets (either_way is_told b refl refl)
      (html_token token it [] inner.space)
      (unfold names in (mode_of (codes "html") it [] inner.name inner.space)
      ∙ ap (λ x. if x then AfterHead else BeforeHead) has) h

  -- it is no `template`, and holds more than text
  root_plain : is_template o ≡ false
  unfolding names
  root_plain = and_right _ _ (ap (of kind.Template) inner.name)

  root_filled : is_of (of kind.Raw) o ≡ false
  unfolding names
  root_filled = and_right _ _ (ap (of kind.Raw) inner.name)

  -- it is no table
  root_outside : (c : NodesView) → at is_table_context (record o { children = c } ∷ []) ≡ false
  unfolding names
  root_outside c = rw (inner.space, inner.name) refl

  -- white space behind the head
  white_there : (c : NodesView) (t : List ℕ) (m : Moment) → has_elements c ≡ true →
      Takes is_white_char (on p o [] c t m)
  white_there c t m has x text start passes some = root_taken (Char x) c text (later start m) true
      (on p o [] c (text ++ x ∷ []) (later start m)) refl has (rw passes refl)

-- the head or the body in the root, which its start tag opens, and the mode that it brings
module _ {frames : Frames} {above : List Ancestor} {h : Head} {kids : NodesView} {p : Page}
    {o : OpenElement} (level : ℕ) (x : PartFits frames above h kids) (inner : InRoot above p o)
    (c : NodesView) (t : List ℕ) (m : Moment) (order : AreOrdered (o ∷ []) m) (here : ℕ)
    (has : Bool) (elements : has_elements c ≡ has)
    (opens : (q : Page) → by_mode (if has then AfterHead else BeforeHead) (Start (written_tag h)) q
    ≡ Taken (opened (lowered h.name) (lowered_attrs h.attrs) q))
    (own : Mode) (told : is_told own ≡ true) (brings : (it : OpenElement)
    (os : List OpenElement) → it.head.name ≡ h.name → it.space ≡ spaces.Html →
    mode (it ∷ os) ≡ own)
    (l : Place) (stands : place_of (ancestor h above ∷ above) ≡ l)
    (inside : is_page_place l ≡ false)
    (steady : l ≡ places.Body → is_body_mode (read_mode own) ≡ true) where
  abbrev reader : PageReader
  reader = data_at false here (on p o [] c t m)

  abbrev begins : Emits reader (start_tag_text h) (Start (written_tag h)) (on p o [] c t m)
  begins = part_starts x level here (on p o [] c t m)

  abbrev at_start : Moment
  at_start = later begins.start m

  -- behind its start tag, the page, the element, and those around it
  abbrev page : Page
  page = opened_page above h p o [] c t at_start

  abbrev it : OpenElement
  it = opened_element above h p o [] c t at_start

  abbrev outer : List OpenElement
  outer = around above h p o [] c t at_start

  -- no `template` is open
  around_it : open_elements.has (of kind.Template) (o ∷ []) ≡ false
  around_it = or_from _ _ (root_plain inner) refl

  plain_it : is_template it ≡ false
  plain_it = and_right _ _ x.part.template

  reads_here : reads_body m.templates ≡ true
  reads_here = reads_inside (o ∷ []) m.templates order.1 (root_plain inner) (root_filled inner)

  calm_page : IsCalm (ancestor h above ∷ above) page
  calm_page = calm_begun above h (on p o [] c t at_start) (inner.calm c t at_start order)
      (or_right (is_template it) _ (or_right (is_of (of kind.Raw) it) _ reads_here))

  html_it : it.space ≡ spaces.Html
  html_it = ap open_space (part_space x level)

  mode_it : (children : NodesView) → mode (record it { children = children } ∷ outer) ≡ own
  mode_it children = brings (record it { children = children }) outer refl html_it

  begun_there : run reader (start_tag_text h) ≡ data_at false (begins.place + 1) page
  begun_there = part_begun x level here (on p o [] c t m)
      (omega (arith, inner.limit)) (root_outside inner c)
      (λ start. root_taken inner (Start (written_tag h)) c t (later start m) has
      (opened (lowered h.name) (lowered_attrs h.attrs) (on p o [] c t (later start m))) refl elements
      (opens (on p o [] c t (later start m))))

  -- nodes are read in it
  there : IsInside (ancestor h above ∷ above) page it outer
  there = record {
    calm = λ children words n order_in.
        calm_on (ancestor h above ∷ above) page it outer children words n refl calm_page order_in;
    steady = λ children e. ap (λ n. is_body_mode (read_mode n)) (mode_it children)
        ∙ steady (sym stands ∙ e);
    place = ap is_page_place stands ∙ inside;
    raw = and_right _ _ x.part.raw;
    plaintext = and_right _ _ x.part.plaintext;
    limit = inner.limit;
  }

  filled : IsFilled (data_at false (begins.place + 1) page) (rest frames level h kids) h.name kids
      page it outer
  filled = part_filled x level page it outer there (begins.place + 1)
      (opened_moment above h p o [] c t at_start) (calm_page.ordered, calm_page.modes)

  -- and in it none is open but those that its nodes begin and end
  none_open : (n : Moment) → AreOrdered (it ∷ outer) n → hold_modes n.templates ≡ false
  none_open n order_in = modes_there (it ∷ outer) n.templates order_in.1
      ∙ or_from _ _ plain_it (has_with_text t (record o { children = c }) [] ∙ around_it)

  -- a token in it
  own_taken : (token : Token) (children : NodesView) (words : List ℕ) (n : Moment) (r : Page) →
      IsWhole token (on page it outer children words n) → by_mode own token (on page it outer children words n) ≡ Taken r →
      token_read token (on page it outer children words n) ≡ behind_token token r
  own_taken token children words n r whole h = mode_taken token
      (on page it outer children words n) own r whole calm_page.tables calm_page.framesets told
      (html_token token (record it { children = children }) outer html_it) (mode_it children) h

  -- the head, whose end tag closes it
  head_read : ((q : Page) → by_mode own (End (lowered h.name)) q ≡ Taken (closed true q)) →
      (g : AreGathered reader (start_tag_text h ++ rest frames level h kids) false p o [] c t
      (node (element_node h kids) none)) × (has_elements g.children ≡ true)
  head_read closes = (
    element_closed above h p o [] c t at_start (inner.calm c t at_start order).unmade
        (ap is_removed inner.space)
        (λ n order_in. form_back above h p o [] c t at_start n
        (none_open n order_in ∙ sym (ap (λ b. b || hold_modes m.templates) plain_it
        ∙ (modes_there (o ∷ []) m.templates order.1 ∙ around_it)))
        (λ e. absurd (both_ways _ x.part.form (and_parts _ _ e).1)))
        reader (data_at false (begins.place + 1) page)
        (rest frames level h kids) kids begun_there filled
        (λ children words n order_in. own_taken (End (lowered h.name)) children words n
        (closed true (on page it outer children words n))
        (end_whole (lowered h.name) (on page it outer children words n) refl)
        (closes (on page it outer children words n))
        ∙ sym (closed_plain it (on page it outer children words n) plain_it)),
    element_counts (texted_children o.head.span c t) it.head
        (texted_children begins.start filled.children filled.words),
  )

  -- the body, whose end tag and that of the root do nothing
  body_read : is_table_mode own ≡ false → ((n : List ℕ) → of kind.Root n ≡ true → (q : Page) →
      by_mode own (End n) q ≡ Taken q) →
      ((q : Page) → by_mode own Finish q ≡ Taken q) →
      of kind.Root (lowered h.name) ≡ true → (root : List ℕ) → of kind.Root (lowered root) ≡ true →
      ((fresh : Bool) (place : ℕ) (q : Page) →
      Emits (data_at fresh place q) (end_tag_text root) (End (lowered root)) q) → RootIsRead
      (run reader ((start_tag_text h ++ rest frames level h kids) ++ end_tag_text root)) o
      (put_nodes c (put_words t (plain (branch h.name h.attrs (nodes_normal kids)) no_plains)))
  body_read outside stays finishes is_own root is_root ends =
      let children = filled.children in
      let words = filled.words in
      let last : ℕ → Page = λ start. on page it outer children words (later start filled.moment) in
      let first = filled.moment.start in
      let e = ends false filled.place (last first) in
      let y : OpenElement = with_text t (record o { children = c }) in
      let z : OpenElement = record it { children = texted_children begins.start children words } in
      let w : OpenElement = record o { children = texted_children o.head.span c t } in
      let goes_on : (start : ℕ) → text_ended (last start) ≡ last start =
      λ start. text_kept (last start) (outside_texts (record it { children = children } ∷ outer)
      (ap is_table_mode (mode_it children) ∙ outside)) in
      let ended : (n : List ℕ) (start : ℕ) → of kind.Root n ≡ true → token_read (End n) (last start)
      ≡ last start = λ n start k. own_taken (End n) children words (later start filled.moment)
      (last start) (end_whole n (last start) refl) (stays n k (last start)) ∙ goes_on start in
      let whole =
      run_on reader _ _ (start_tag_text h ++ rest frames level h kids) (end_tag_text root)
      (run_on reader _ _ (start_tag_text h) (rest frames level h kids) begun_there
      (filled.is (last first) (ended (lowered h.name) first is_own)))
      (e.is (last e.start) (ended (lowered root) e.start is_root)) in
      let over = own_taken Finish children words (later (e.place + 1) filled.moment)
      (last (e.place + 1)) (finish_whole (last (e.place + 1))
      (none_open filled.moment filled.ordered)) (finishes (last (e.place + 1)))
      ∙ goes_on (e.place + 1) in
      let end : Page = settled (last (e.place + 1)) in
      record {
        root = root_at z w;
        is = ap (λ r. page_result (finished r).page) whole ∙ (ap page_result over
            ∙ (ap (λ f. answered f end) inner.refusal
            ∙ (ap (λ u. root_made (root_of (u ∷ y ∷ [])) end) (with_text_is words it children)
            ∙ (ap (λ v. made_at z v p.notes) (with_text_is t o c) ∙ ap (made_at z w) inner.notes))));
        head = refl;
        same = normal_is (with_last w.children (completed z))
            ∙ (put_last w.children (completed z) no_plains
            ∙ (ap (λ n. put_nodes w.children (plain (branch h.name h.attrs n) no_plains))
            (filled_normal begins.start filled)
            ∙ put_texted o.head.span c t (plain (branch h.name h.attrs (nodes_normal kids))
            no_plains)));
      }

-- the end tags of the body and of the root leave a page as it is
root_stays : (n : List ℕ) → of kind.Root n ≡ true → (q : Page) →
    by_mode InBody (End n) q ≡ Taken q
root_stays n h q = rw h refl

module _ (frames : Frames) (pre_span : Bool) (level : ℕ) {above : List Ancestor} {p : Page}
    {o : OpenElement} (inner : InRoot above p o) (root : List ℕ)
    (is_root : of kind.Root (lowered root) ≡ true) (ends : (fresh : Bool) (place : ℕ) (q : Page) →
    Emits (data_at fresh place q) (end_tag_text root) (End (lowered root)) q) where
  abbrev before : (place : ℕ) → NodesView → (t : List ℕ) → Moment → PageReader
  before place c t m = data_at false place (on p o [] c t m)

  abbrev contents : Head → NodesView → List ℕ
  contents h kids = start_tag_text h ++ rest frames (level + 1) h kids

  module _ (h : Head) (kids ns : NodesView) (f : ElementFits above h kids)
      (clean : nodes_faults frames pre_span false (node (element_node h kids) ns) ≡ [])
      (c : NodesView) (t : List ℕ) (m : Moment) (order : AreOrdered (o ∷ []) m)
      (place : ℕ) where
    part_fits : stands_in part_names h.name ≡ true → PartFits frames above h kids
    unfolding node_faults nodes_faults
    part_fits name = record {
      part = part_of h.name name;
      fits = f;
      values = left_empty _ _ (left_empty _ _ clean);
      content = right_empty _ _ (left_empty _ _ clean);
      as_html = inner.as_html;
    }

    -- where the children of that part stand
    place_part : (name : List ℕ) (x : PartFits frames above h kids) → h.name ≡ name →
        place_of (ancestor h above ∷ above) ≡ place_in (is_in (of kind.Head) above) name
    place_part name x e = ap (λ y. place_inside (is_in (of kind.Head) above) y h.name)
        (part_space x level) ∙ ap (place_in (is_in (of kind.Head) above)) e

    body_behind : h.name ≡ codes "body" → has_elements c ≡ true →
        RootIsRead (run (before place c t m) (contents h kids ++ end_tag_text root)) o
        (put_nodes c (put_words t (plain (branch h.name h.attrs (nodes_normal kids)) no_plains)))
    unfolding names
    body_behind name has =
        let x = part_fits (ap (stands_in part_names) name) in
        let low : lowered h.name ≡ codes "body" = x.part.small ∙ name in
        let no_html = ap (of kind.Html) low in
        let is_body = ap (of kind.Body) low in
        body_read (level + 1) x inner c t m order place true has
        (λ q. rw (no_html, is_body) refl) InBody refl
        (λ it os e html. mode_of (codes "body") it os (e ∙ name) html) places.Body
        (place_part (codes "body") x name) refl (λ e. refl) refl root_stays
        (λ q. refl)
        (ap (of kind.Root) low) root is_root ends

    head_first : h.name ≡ codes "head" → has_elements c ≡ false →
        (g : AreGathered (before place c t m) (contents h kids) false p o [] c t
        (node (element_node h kids) none)) × (has_elements g.children ≡ true)
    unfolding names
    head_first name none_yet =
        let x = part_fits (ap (stands_in part_names) name) in
        let low : lowered h.name ≡ codes "head" = x.part.small ∙ name in
        let is_head = ap (of kind.Head) low in
        head_read (level + 1) x inner c t m order place false none_yet
        (λ q. begins_named (codes "head") (written_tag h) q low) InHead refl
        (λ it os e html. mode_of (codes "head") it os (e ∙ name) html) places.Head
        (place_part (codes "head") x name) refl (λ e. absurd (cc)) (λ q. rw is_head refl)

  -- behind the head
  behind_head : (ns : NodesView) (due : Bool) (place : ℕ) (c : NodesView) (t : List ℕ)
      (m : Moment) → AreOrdered (o ∷ []) m → has_elements c ≡ true →
      is_complete (stage_behind_nodes stage.BehindHead ns) ≡ true →
      NodesFit above ns → nodes_faults frames pre_span false ns ≡ [] →
      RootIsRead (run (before place c t m) (nodes_text frames pre_span due
      (shut level) ns ++ end_tag_text root)) o (put_nodes c (put_words t (put_nodes ns no_plains)))
  unfolding node_text nodes_text node_faults nodes_faults
  behind_head none due place c t m order has done f clean = absurd (false≢true done)
  behind_head (node (tag_node tag) ns) due place c t m order has done f clean =
      behind_head ns due place c t m order has done (rest_fits f) clean
  behind_head (node (text_node text span) ns) due place c t m order has done f clean =
      let white = stage_by (is_white text) stage.BehindHead ns done in
      let l = text_leads pre_span text span is_white_char (left_empty _ _ clean)
      (no_return text (surroundings_of above) (text_fits f)) white.0 false place
      (on p o [] c t m) (white_there inner c t m has) (λ k. absurd (false≢true k)) in
      let written = escaped_text (escaping_of pre_span) text in
      let more = nodes_text frames pre_span false (shut level) ns in
      root_as (before place c t m) _ _ (append_assoc written more (end_tag_text root))
      (root_on (before place c t m) _ written (more ++ end_tag_text root) l.is
      (root_same (ap (put_nodes c) (sym (put_twice t text _)))
      (behind_head ns false l.place c (t ++ text) (later l.start m) order has white.1
      (rest_fits f) (right_empty _ _ clean))))
  behind_head (node (element_node h kids) ns) due place c t m order has done f clean =
      let body = stage_by (of kind.Body h.name) stage.BehindBody ns done in
      let behind = due_after due (element_node h kids) in
      let nothing = nothing_behind frames pre_span behind level ns body.1 no_plains in
      let it = branch h.name h.attrs (nodes_normal kids) in
      root_as (before place c t m) _ _ (ap (λ l. (contents h kids ++ l) ++ end_tag_text root)
      nothing.0 ∙ ap (λ l. l ++ end_tag_text root) (append-nil (contents h kids)))
      (root_same (ap (λ k. put_nodes c (put_words t (plain it k))) (sym nothing.1))
      (body_behind h kids ns (element_fits f) clean c t m order place
      (name_of kind.Body (codes "body") h.name refl body.0) has))
  behind_head (node (frame_node b) ns) due place c t m order has done f clean =
      absurd (both_ways _ (other_stays ns) done)

  -- before it
  first_read : (ns : NodesView) (due : Bool) (place : ℕ) (m : Moment) →
      AreOrdered (o ∷ []) m → is_complete (stage_behind_nodes stage.First ns) ≡ true →
      NodesFit above ns →
      nodes_faults frames pre_span false ns ≡ [] → RootIsRead (run (before place none [] m)
      (nodes_text frames pre_span due (shut level) ns ++ end_tag_text root)) o
      (put_nodes ns no_plains)
  unfolding node_text nodes_text node_faults nodes_faults
  first_read none due place m order done f clean = absurd (false≢true done)
  first_read (node (tag_node tag) ns) due place m order done f clean =
      first_read ns due place m order done (rest_fits f) clean
  first_read (node (text_node [] span) ns) due place m order done f clean =
      first_read ns false place m order done (rest_fits f) clean
  first_read (node (element_node h kids) ns) due place m order done f clean =
      let head = stage_by (of kind.Head h.name) stage.BehindHead ns done in
      let x = head_first h kids ns (element_fits f) clean none [] m order place
      (name_of kind.Head (codes "head") h.name refl head.0) refl in
      let g = x.0 in
      let behind = due_after due (element_node h kids) in
      let more = nodes_text frames pre_span behind (shut level) ns in
      root_as (before place none [] m) _ _
      (append_assoc (contents h kids) more (end_tag_text root))
      (root_on (before place none [] m) _ (contents h kids) (more ++ end_tag_text root) g.is
      (root_same (g.same (put_nodes ns no_plains))
      (behind_head ns behind g.place g.children g.words g.moment g.ordered x.1
      head.1 (rest_fits f) (right_empty _ _ clean))))
  first_read (node n ns) due place m order done f clean = absurd (both_ways _ (other_stays ns) done)

-- the root

-- a page of the document type that is written
abbrev typed : (limit : ℕ) → Page
typed limit = record (first_page limit) { tables = rule.ClosesP }

type_read : (limit : ℕ) → run (first_reader limit 0) (codes "<!DOCTYPE html>")
    ≡ data_at false 15 (typed limit)
unfolding table_rule
type_read limit = refl

module _ (frames : Frames) (limit : ℕ) (h : Head) (kids : NodesView) (deep : 512 < limit)
    (name : h.name ≡ codes "html") (x : PartFits frames [] h kids)
    (complete : is_complete (stage_behind_nodes stage.First kids) ≡ true) where
  abbrev starts : Emits (data_at false 15 (typed limit)) (start_tag_text h) (Start (written_tag h))
      (typed limit)
  starts = part_starts x 0 15 (typed limit)

  abbrev root_page : Page
  root_page = begun h [] (started starts.start (typed limit))

  -- the moment behind its start tag
  abbrev root_moment : Moment
  root_moment = record {
    start = starts.start;
    formats = root_page.formats;
    templates = root_page.templates;
  }

  root_order : AreOrdered (begun_element h [] starts.start ∷ []) root_moment
  root_order =
      let it = begun_element h [] starts.start in (
        order_opened it [] [] refl,
        modes_opened it [] [] refl
            (or_right (is_template it) _ (or_right (is_of (of kind.Raw) it) _ refl)),
      )

  root_space : space_of reading.AsHtml h.name ≡ nest.Html
  root_space = part_space x 0

  in_root : InRoot (ancestor h [] ∷ []) root_page (begun_element h [] starts.start)
  in_root = record {
    calm = λ c t m order. record {
      alike = (record { name = refl; attrs = refl; space = refl }, tt);
      ordered = order.0;
      modes = order.1;
      form = refl;
      moved = refl;
      framesets = refl;
      unmade = refl;
      tables = refl;
    };
    tables = refl;
    framesets = refl;
    limit = deep;
    notes = refl;
    refusal = refl;
    name = name;
    space = ap open_space root_space;
    as_html = ap (λ s. reading_in s h) root_space;
  }

  root_read : RootIsRead (run (first_reader limit 0) (codes "<!DOCTYPE html>"
      ++ ((start_tag_text h ++ rest frames 0 h kids) ++ []))) (begun_element h [] starts.start)
      (put_nodes kids no_plains)
  unfolding names
  root_read =
      let tag = tag_fits h kids (surroundings_of []) x.fits.fits in
      let low : lowered h.name ≡ codes "html" = x.part.small ∙ name in
      let nodes = nodes_text frames h.pre_span true (shut 0) kids ++ end_tag_text h.name in
      let begins : (s : ℕ) → token_read (Start (written_tag h)) (started s (typed limit))
      ≡ text_ended (opened (lowered h.name) (lowered_attrs h.attrs) (started s (typed limit))) =
      λ s. mode_taken (Start (written_tag h)) (started s (typed limit)) BeforeHtml
      (opened (lowered h.name) (lowered_attrs h.attrs) (started s (typed limit))) refl
      refl refl refl refl refl
      (begins_named (codes "html") (written_tag h) (started s (typed limit)) low) in
      root_on (first_reader limit 0) (data_at false 15 (typed limit)) (codes "<!DOCTYPE html>")
      ((start_tag_text h ++ rest frames 0 h kids) ++ []) (type_read limit)
      (root_as (data_at false 15 (typed limit)) _ (start_tag_text h ++ nodes)
      (append-nil (start_tag_text h ++ rest frames 0 h kids)
      ∙ ap (λ l. start_tag_text h ++ l) (part_rest x 0))
      (root_on (data_at false 15 (typed limit)) (data_at false (starts.place + 1) root_page)
      (start_tag_text h) nodes
      (part_begun x 0 15 (typed limit) (omega (arith, deep)) refl begins)
      (first_read frames h.pre_span 0 in_root h.name (ap (of kind.Root) low)
      (λ fresh at q. end_emits h.name x.fits.named.0 tag.letter fresh at q) kids true
      (starts.place + 1)
      root_moment root_order complete x.fits.below
      (part_faults x 0))))

pub trees_stay : TreesStay
unfolding NodeIsNamed NodeIsReadable node_text node_faults names
trees_stay frames limit e kept deep =
    let h = e.0 in
    let kids = e.1 in
    let rules = else_none _ (found_none _ _ _ (left_empty _ _ kept.nested)) in
    let page = and_parts _ _ rules.0 in
    let name = name_of kind.Html (codes "html") h.name refl page.0 in
    let x : PartFits frames [] h kids = record {
      part = part_of h.name (ap (stands_in part_names) name);
      fits = record {
        named = kept.named.0;
        few = kept.readable.0;
        shallow = omega arith;
        fits = rules.1;
        below = record {
          path = [];
          index = 0;
          named = kept.named.1;
          frame_free = kept.frame_free;
          readable = kept.readable.1;
          nested = right_empty _ _ kept.nested;
        };
      };
      values = left_empty _ _ kept.clean;
      content = right_empty _ _ kept.clean;
      as_html = refl;
    } in
    let r = root_read frames limit h kids deep name x page.1 in
    record {
      root = r.root;
      read = r.is;
      same = ap (λ g. branch g.name g.attrs (nodes_normal r.root.1)) r.head
          ∙ ap (branch h.name h.attrs) (r.same ∙ sym (normal_is kids));
    }
