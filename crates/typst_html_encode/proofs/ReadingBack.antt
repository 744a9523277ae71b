-- Elements and lists of nodes are read back.
use Rattle.std.proofs.Common.{◌≡◌, ℕ, zero, suc, Bool, true, false, ◌&&◌, ◌||◌, inl, inr, eqb, List, [], ◌∷◌, ◌++◌, Option, Some, None, codes, refl, ap, ◌∙◌, arith, append_assoc, append-nil}
use Rattle.std.proofs.lemmas.{Bool.{cases_Bool}, Bool.Decides.{nat_tests}}
use Rattle.std.specs.Prelude.{if◌then◌else◌}
use Rattle.html_names_core.specs.Characters.{IsOf, is_tag_char, is_element_text_char}
use Rattle.html_names_core.specs.Kinds.{is_void, is_foreign_self_closing, is_raw, is_escapable_raw}
use Rattle.html_dom_tree.specs.Tree.{Head, tag_node, text_node, element_node, frame_node, NodesView, none, node, ElementView}
use Rattle.typst_html_encode.specs.References.{numeric, reference_to}
use Rattle.typst_html_encode.specs.declared.escape.Escaping.TheVariants as escaping
use Rattle.html_text.specs.ClosingTags.{holds_closing}
use Rattle.typst_html_encode.specs.{Content.{content_kind, by_kind}, declared.fault.ExportFault.{ExportFault}}
use Rattle.typst_html_encode.proofs.{LinesEnd.{lines_end}, Normals.{joined, joined_is, texts_alone, with_text_none}}
use Rattle.typst_html_encode.proofs.{Plainly.{shut, plain_stays, ends_plainly}, RawBack.{raw_back}, RawNames.{raw_is, stays_shut}}
use Rattle.typst_html_encode.proofs.{References.{chars_read, raw_good, text_read}, Runs.{read_on, left_empty, right_empty, test_fails}}
use Rattle.typst_html_encode.proofs.TagsBack.{started, start_read, end_read}
use Rattle.typst_html_encode.specs.ExportFaults.{attrs_faults, void_faults, nodes_raw_faults, closing_faults, raw_content_faults, node_faults, nodes_faults, document_faults}
use Rattle.typst_html_encode.specs.FrameWriters.{Frames}
use Rattle.typst_html_encode.specs.Indented.{with_indent, node_layout, nodes_layout, content_layout, element_layout, RawEndsWell, NodeEndsWell, NodesEndWell, ElementEndsWell}
use Rattle.typst_html_encode.specs.Layout.{deeper, margin_inside, spaces, indent, indent_where, feed_where, wants_pretty_around, is_pretty_inside, has_indent, is_by_lines, lines_text, raw_text}
use Rattle.typst_html_encode.specs.Reader.{drops_feed, ◌then◌, Outside, Content, Fresh, Less, Open, ReaderState, with_text, complete, holds_text_alone, run, final_root, read}
use Rattle.typst_html_encode.specs.ReadingBack.{HeadIsNamed, NodeIsNamed, NodesAreNamed, ElementIsNamed, PlainReadsBack, ReadsBack}
use Rattle.typst_html_encode.specs.Text.{root_margin, plain_options, pretty_options, char_text, escaped_text, escaping_of, attrs_text, tag_close, end_tag_text, ends_at_once, begins_with_feed, feed_text, nodes_raw_text, node_text, nodes_text, document_text}
use Rattle.typst_html_encode.specs.declared.{layout.Margin.{Margin}, options.HtmlOptions.{HtmlOptions}}
use Rattle.html_dom_tree.specs.FrameFree.{NodeIsFrameFree, NodesAreFrameFree, ElementIsFrameFree}
use Rattle.html_dom_tree.specs.PlainTree.{Plain, Plains, branch, no_plains, plain, put_words, nodes_normal, element_normal}

-- no line feed stands first
abbrev pub starts_with_feed : List ℕ → Bool
starts_with_feed [] = false
starts_with_feed (c ∷ cs) = eqb c 10

fresh_read : (s : List Open) (xs ys : List ℕ) → starts_with_feed xs ≡ false →
    run (Fresh s) (xs ++ 60 ∷ ys) ≡ run (Content [] s) (xs ++ 60 ∷ ys)
fresh_read s [] ys h = refl
fresh_read s (c ∷ cs) ys h = rw (h, run) refl

numeric_first : (c : ℕ) (xs : List ℕ) → starts_with_feed (numeric c ++ xs) ≡ false
unfolding numeric
numeric_first c xs = refl

reference_first : (c : ℕ) (xs : List ℕ) → starts_with_feed (reference_to c ++ xs) ≡ false
reference_first c xs = grind (arith, nat_tests, numeric_first c xs)

first_char : (full : Bool) (c : ℕ) (xs : List ℕ) → eqb c 10 ≡ false →
    starts_with_feed (char_text (escaping_of full) c ++ xs) ≡ false
first_char true c xs h = reference_first c xs
first_char false c xs h = elim (cases_Bool (is_element_text_char c)) [
  | inl e ↦ rw e h
  | inr e ↦ rw e (reference_first c xs)
]

-- blanks

spaces_read : (n : ℕ) (text : List ℕ) (s : List Open) →
    run (Content text s) (spaces n) ≡ Content (text ++ spaces n) s
spaces_read zero text s = rw append-nil refl
spaces_read (suc n) text s = spaces_read n ((text ++ 32 ∷ []) ++ 32 ∷ []) s ∙ simp append_assoc

indent_read : (level : ℕ) (text : List ℕ) (s : List Open) →
    run (Content text s) (indent level) ≡ Content (text ++ indent level) s
unfolding indent
indent_read level text s = spaces_read level (text ++ 10 ∷ []) s ∙ simp append_assoc

-- within an element: what has been gathered of its children after these
abbrev gathered : List ℕ → Open → List Open → NodesView → ReaderState
gathered text o os ns = let j = joined o.children text ns in Content j.1
    (record o { children = j.0 } ∷ os)

-- an indent is a text
where_read : (b : Bool) (level : ℕ) (text : List ℕ) (o : Open) (os : List Open) (xs : List ℕ)
    (ns : NodesView) →
    ((t : List ℕ) → run (Content t (o ∷ os)) xs ≡ gathered t o os ns) →
    run (Content text (o ∷ os)) (indent_where b level ++ xs)
    ≡ gathered text o os (with_indent b level ns)
where_read true level text o os xs ns h =
    read_on _ (indent level) xs (indent_read level text (o ∷ os)) (h (text ++ indent level))
where_read false level text o os xs ns h = h text

last_read : (b : Bool) (level : ℕ) (text : List ℕ) (o : Open) (os : List Open) →
    run (Content text (o ∷ os)) (indent_where b level)
    ≡ gathered text o os (with_indent b level none)
last_read true level text o os = indent_read level text (o ∷ os)
last_read false level text o os = refl

-- raw texts

raw_normal : (b : Bool) (s : List ℕ) (ns : NodesView) → nodes_raw_faults escaping.Raw ns ≡ [] →
    put_words (if b then s else nodes_raw_text ns) no_plains
    ≡ nodes_normal (if b then node (text_node s 0) none else ns)
unfolding nodes_normal
raw_normal true s ns f = refl
raw_normal false s ns f = texts_alone escaping.Raw ns f

raw_ends : (b : Bool) (level : ℕ) (name s : List ℕ) → is_raw name ≡ true →
    holds_closing name s ≡ false → (b ≡ true → holds_closing name (s ++ codes "\n") ≡ false) →
    holds_closing name (if b then lines_text level name s else s) ≡ false
raw_ends true level name s r h k = lines_end level name s r (k refl)
raw_ends false level name s r h k = h

no_children : (span : ℕ) (ns : NodesView) → void_faults span ns ≡ [] → no_plains ≡ nodes_normal ns
unfolding nodes_normal
no_children span none h = refl
no_children span (node n ns) h = cc

-- the first characters of what stands inside
no_feed : (c : ℕ) → (eqb c 10 || eqb c 13) ≡ false → eqb c 10 ≡ false
no_feed c h = grind (arith, nat_tests)

texts_start : (ns : NodesView) → nodes_raw_faults escaping.Text ns ≡ [] →
    begins_with_feed ns ≡ false → starts_with_feed (escaped_text escaping.Text (nodes_raw_text ns))
    ≡ false
texts_start none f h = refl
texts_start (node (tag_node m) ns) f h = texts_start ns f h
texts_start (node (text_node [] span) ns) f h = texts_start ns f h
texts_start (node (text_node (c ∷ cs) span) ns) f h =
    first_char false c (escaped_text escaping.Text (cs ++ nodes_raw_text ns)) (no_feed c h)
texts_start (node (element_node h kids) ns) f e = cc
texts_start (node (frame_node b) ns) f e = cc

-- the element right after its start tag
abbrev own : Head → Open
own h = record { name = h.name; attrs = h.attrs; children = no_plains }

module _ (frames : Frames) where
  nodes_start : (ns : NodesView) (full due : Bool) (level : ℕ) → NodesAreFrameFree ns →
      begins_with_feed ns ≡ false → starts_with_feed (nodes_text frames full due (shut level) ns)
      ≡ false
  unfolding node_text nodes_text NodeIsFrameFree NodesAreFrameFree
  nodes_start none full due level w h = refl
  nodes_start (node (tag_node m) ns) full due level w h = nodes_start ns full due level w.1 h
  nodes_start (node (text_node [] span) ns) full due level w h =
      nodes_start ns full false level w.1 h
  nodes_start (node (text_node (c ∷ cs) span) ns) full due level w h =
      let e = escaping_of full in
      let more = nodes_text frames full false (shut level) ns in
      ap starts_with_feed (append_assoc (char_text e c) (escaped_text e cs) more)
      ∙ first_char full c (escaped_text e cs ++ more) (no_feed c h)
  nodes_start (node (element_node h kids) ns) full due level w e = refl
  nodes_start (node (frame_node b) ns) full due level w e = absurd w.0

  module _ (margin : Margin) where
    abbrev rest : Head → NodesView → List ℕ
    rest h ns = if ends_at_once h then [] else (feed_text h ns ++ (by_kind (content_kind h.name)
        (raw_text margin h (nodes_raw_text ns))
        (escaped_text escaping.Text (nodes_raw_text ns))
        (nodes_text frames h.pre_span true (margin_inside margin h ns) ns) ++ end_tag_text h.name))

    abbrev rest_faults : Head → NodesView → List ExportFault
    rest_faults h ns = if ends_at_once h then void_faults h.span ns
        else by_kind (content_kind h.name)
        (raw_content_faults h ns)
        (nodes_raw_faults escaping.Text ns)
        (nodes_faults frames h.pre_span (margin.pretty && is_pretty_inside h ns) ns)

    -- what is known of the children by the recursion
    abbrev KidsRead : Head → NodesView → List Open → Type 0
    KidsRead h ns s = is_escapable_raw h.name ≡ false →
        nodes_faults frames h.pre_span (margin.pretty && is_pretty_inside h ns) ns ≡ [] →
        run (Content [] (own h ∷ s)) (nodes_text frames h.pre_span true
        (margin_inside margin h ns) ns) ≡ gathered [] (own h) s
        (nodes_layout true (margin_inside margin h ns) ns)

    -- the content and the end tag are read, as these nodes: a line feed that is added is dropped,
    -- and no other
    fed : (b d : Bool) (h : Head) (inner : List ℕ) (s : List Open) (ms : NodesView) →
        (b ≡ true → d ≡ false → starts_with_feed inner ≡ false) →
        run (Content [] (own h ∷ s)) (inner ++ end_tag_text h.name)
        ≡ complete h.name h.attrs (nodes_normal ms) s →
        run (if b then Fresh (own h ∷ s) else Content [] (own h ∷ s))
        ((if b && d then codes "\n" else []) ++ (inner ++ end_tag_text h.name))
        ≡ complete h.name h.attrs (nodes_normal ms) s
    fed false d h inner s ms first i = i
    fed true true h inner s ms first i = i
    fed true false h inner s ms first i =
        fresh_read (own h ∷ s) inner (47 ∷ (h.name ++ codes ">")) (first refl refl) ∙ i

    -- what follows the start tag
    rest_read : (h : Head) (ns : NodesView) (s : List Open) → IsOf is_tag_char h.name →
        rest_faults h ns ≡ [] → NodesAreFrameFree ns →
        (is_raw h.name ≡ true → RawEndsWell margin.pretty h ns) → KidsRead h ns s →
        run (started h.name h.attrs s) (rest h ns)
        ≡ complete h.name h.attrs (nodes_normal (content_layout margin h ns)) s
    rest_read h ns s n f w x ih =
        let as_kids = λ (k : Plains). complete h.name h.attrs k s in
        let text = nodes_raw_text ns in
        elim (cases_Bool (is_foreign_self_closing h.name)) [
          | inl p ↦ rw p (ap as_kids (no_children h.span ns (rw p at f)))
          | inr p ↦ elim (cases_Bool (is_void h.name)) [
            | inl q ↦ rw (p, q) (ap as_kids (no_children h.span ns (rw (p, q) at f)))
            | inr q ↦ elim (cases_Bool (is_raw h.name)) [
              | inl u ↦
                  let b = margin.pretty && is_by_lines h in
                  let g : nodes_raw_faults escaping.Raw ns ++ closing_faults h ns ≡ []
                  = rw (p, q, u) at f in
                  let written = raw_text margin h text in
                  let ends : holds_closing h.name written ≡ false = raw_ends b margin.level h.name
                  text u (test_fails _ _ (right_empty _ (closing_faults h ns) g)) (x u) in
                  rw (p, q, u, raw_is h.name u) (raw_back h.name h.attrs s written n ends
                  ∙ ap as_kids (with_text_none written ∙ raw_normal b _ ns (left_empty _ _ g)))
              | inr u ↦ elim (cases_Bool (is_escapable_raw h.name)) [
                | inl v ↦
                    let g : nodes_raw_faults escaping.Text ns ≡ [] = rw (p, q, u, v) at f in
                    rw (p, q, u, v) (fed (drops_feed h.name) (begins_with_feed ns) h
                    (escaped_text escaping.Text text) s ns (λ d k. texts_start ns g k)
                    (read_on _ (escaped_text escaping.Text text) _
                    (chars_read false [] (own h ∷ s) text (raw_good escaping.Text ns g))
                    (end_read (own h) s text n
                    ∙ ap as_kids (with_text_none text ∙ texts_alone escaping.Text ns g))))
                | inr v ↦
                    let inner = margin_inside margin h ns in
                    let all = nodes_text frames h.pre_span true inner ns in
                    let ms = nodes_layout true inner ns in
                    let j = joined no_plains [] ms in
                    rw (p, q, u, v) (fed (drops_feed h.name) (begins_with_feed ns) h all s ms
                    (λ d k. rw (stays_shut margin.pretty h ns d)
                    (nodes_start ns h.pre_span true margin.level w k))
                    (read_on _ all _ (ih v (rw (p, q, u, v) at f))
                    (end_read (record (own h) { children = j.0 }) s j.1 n
                    ∙ ap as_kids (joined_is ms no_plains []))))
              ]
            ]
          ]
        ]

    -- an element, after its `<`
    abbrev tail : Head → NodesView → List ℕ
    tail h ns = (h.name ++ (attrs_text h.attrs ++ tag_close h.name)) ++ rest h ns

    tail_read : (h : Head) (ns : NodesView) (s : List Open) → HeadIsNamed h →
        attrs_faults h.span h.attrs ≡ [] → rest_faults h ns ≡ [] → holds_text_alone s ≡ false →
        NodesAreFrameFree ns → (is_raw h.name ≡ true → RawEndsWell margin.pretty h ns) →
        KidsRead h ns s →
        run (Less s) (tail h ns) ≡ complete h.name h.attrs
        (nodes_normal (content_layout margin h ns)) s
    tail_read h ns s n g f k w x ih =
        read_on _ (h.name ++ (attrs_text h.attrs ++ tag_close h.name)) (rest h ns)
        (start_read h.name h.attrs s h.span n.0 n.1 g k) (rest_read h ns s n.0 f w x ih)

  pub nodes_read : (ns : NodesView) (full due : Bool) (margin : Margin) (text : List ℕ) (o : Open)
      (os : List Open) →
      is_escapable_raw o.name ≡ false → NodesAreNamed ns → NodesAreFrameFree ns →
      NodesEndWell margin.pretty ns → nodes_faults frames full margin.pretty ns ≡ [] →
      run (Content text (o ∷ os)) (nodes_text frames full due margin ns)
      ≡ gathered text o os (nodes_layout due margin ns)
  unfolding node_text nodes_text node_faults nodes_faults node_layout nodes_layout
      NodeIsNamed NodesAreNamed NodeIsFrameFree NodesAreFrameFree NodeEndsWell NodesEndWell
  nodes_read none full due margin text o os e named w x f =
      last_read margin.pretty margin.level text o os
  nodes_read (node (tag_node m) ns) full due margin text o os e named w x f =
      where_read (margin.pretty && has_indent due (tag_node m)) (deeper margin).level text o os
      (nodes_text frames full due margin ns) (node (tag_node m) (nodes_layout due margin ns))
      (λ t. nodes_read ns full due margin t o os e named.1 w.1 x.1 f)
  nodes_read (node (text_node s span) ns) full due margin text o os e named w x f =
      let y = escaping_of full in
      let more = nodes_text frames full false margin ns in
      where_read (margin.pretty && has_indent due (text_node s span))
      (deeper margin).level text o os (escaped_text y s ++ more)
      (node (text_node s span) (nodes_layout false margin ns))
      (λ t. read_on _ (escaped_text y s) more
      (text_read full span t (o ∷ os) s (left_empty _ _ f))
      (nodes_read ns full false margin (t ++ s) o os e named.1 w.1 x.1 (right_empty _ _ f)))
  nodes_read (node (frame_node b) ns) full due margin text o os e named w x f = absurd w.0
  nodes_read (node (element_node h kids) ns) full due margin text o os e named w x f =
      let wants = wants_pretty_around h in
      let inner = deeper margin in
      let more = nodes_text frames full wants margin ns in
      let below = content_layout inner h kids in
      let own_faults : attrs_faults h.span h.attrs ++ rest_faults inner h kids ≡ []
      = left_empty _ _ f in
      where_read (margin.pretty && has_indent due (element_node h kids)) inner.level text o os
      ((60 ∷ tail inner h kids) ++ more)
      (node (element_node h below) (nodes_layout wants margin ns))
      (λ t. let q : Open = record o { children = with_text t o.children } in
      read_on (Content t (o ∷ os)) (60 ∷ tail inner h kids) more
      (tail_read inner h kids (q ∷ os) named.0.0 (left_empty _ _ own_faults)
      (right_empty (attrs_faults h.span h.attrs) _ own_faults) e w.0 x.0.0
      (λ u g. nodes_read kids h.pre_span true (margin_inside inner h kids) [] (own h)
      (q ∷ os) u named.0.1 w.0 x.0.1 g))
      (nodes_read ns full wants margin [] (record q {
        children = q.children then plain (branch h.name h.attrs (nodes_normal below)) no_plains;
      }) os e named.1 w.1 x.1
      (right_empty (attrs_faults h.span h.attrs ++ rest_faults inner h kids) _ f)))

  -- what stands before and after the root
  begun : (pretty : Bool) (xs : List ℕ) → run (Outside None) (indent_where pretty 0 ++ 60 ∷ xs)
      ≡ run (Less []) xs
  unfolding indent
  begun true xs = refl
  begun false xs = refl

  ended : (pretty : Bool) (root : Option Plain) →
      run (Outside root) (feed_where pretty) ≡ Outside root
  ended true root = refl
  ended false root = refl

  whole : (options : HtmlOptions) (e : ElementView) → ElementIsNamed e → ElementIsFrameFree e →
      ElementEndsWell options.pretty e → document_faults frames options e ≡ [] →
      read (document_text frames options e) ≡ Some (branch e.0.name e.0.attrs (nodes_normal
      (content_layout (root_margin options) e.0 e.1)))
  unfolding node_text node_faults NodeIsNamed NodeEndsWell
  whole options e named frameless ended_well no_faults =
      let h = e.0 in
      let kids = e.1 in
      let margin = root_margin options in
      let last = feed_where options.pretty in
      let clean : attrs_faults h.span h.attrs ++ rest_faults margin h kids ≡ [] = no_faults in
      ap final_root (begun options.pretty (tail margin h kids ++ last)
      ∙ read_on (Less []) (tail margin h kids) last
      (tail_read margin h kids [] named.0 (left_empty _ _ clean)
      (right_empty (attrs_faults h.span h.attrs) _ clean) refl frameless ended_well.0
      (λ escapes fine. nodes_read kids h.pre_span true (margin_inside margin h kids) [] (own h) []
      escapes named.1 frameless ended_well.1 fine)) (ended options.pretty _))

  pub plain_reads_back : PlainReadsBack frames
  plain_reads_back e named frameless no_faults =
      whole plain_options e named frameless (ends_plainly e) no_faults
      ∙ ap (λ ns. Some (branch e.0.name e.0.attrs (nodes_normal ns))) (plain_stays e.0 e.1)

  -- a text that is written in either mode
  abbrev pub EitherReadsBack : HtmlOptions → ElementView → List ℕ → Type 0
  EitherReadsBack options e text =
      (options.pretty ≡ false → ElementIsFrameFree e → read text ≡ Some (element_normal e))
      × (options.pretty ≡ true → ElementIsFrameFree e → ElementEndsWell true e →
      read text ≡ Some (element_normal (element_layout e)))

  pub either_reads_back : (options : HtmlOptions) (e : ElementView) (text : List ℕ) →
      text ≡ document_text frames options e →
      ElementIsNamed e → document_faults frames options e ≡ [] → EitherReadsBack options e text
  either_reads_back options e text is named no_faults = (
    λ mode frameless. ap read is
        ∙ (whole options e named frameless (rw mode (ends_plainly e)) no_faults
        ∙ rw mode (ap (λ ns. Some (branch e.0.name e.0.attrs (nodes_normal ns)))
        (plain_stays e.0 e.1))),
    λ mode frameless ended_well. ap read is
        ∙ (whole options e named frameless (rw mode ended_well) no_faults ∙ rw mode refl),
  )

pub reads_back : ReadsBack
reads_back frames = (plain_reads_back frames, whole frames pretty_options)
