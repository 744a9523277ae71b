-- The root of a document of clean items in plain flow, of clean information and of clean nodes of
-- one's own in the head has no fault, with anchors and with the `href` of its links too.
use Rattle.std.proofs.Common.{◌≡◌, ℕ, Bool, true, false, ◌&&◌, List, [], ◌∷◌, ◌++◌, map, drop, codes, Option, Some, None, refl, ap, sym, ◌∙◌, subst, append_assoc, append-nil}
use Rattle.std.{proofs.lemmas.Bool.{and_parts}, proofs.lemmas.List.{drop-drop}, specs.List.{flat_map}, specs.Prelude.{if◌then◌else◌}}
use Rattle.html_names_core.{proofs.Basics.{all_append}, specs.Characters.{all, is_text_char}, specs.Displays.{default_display}}
use Rattle.html_names_core.specs.Kinds.{is_void, is_raw, is_escapable_raw, is_foreign_self_closing, is_mathml, is_token, is_metadata_content}
use Rattle.html_names_core.specs.{Names.{stands_in}, Texts.{TextPair}}
use Rattle.html_dom_tree.specs.Styled.{styled_node, styled_nodes}
use Rattle.html_dom_tree.specs.Tree.{Head, NodeView, text_node, element_node, NodesView, none, node, ElementView, plain_head}
use Rattle.html_dom_tree.specs.Views.{nodes_of}
use Rattle.html_dom_document.specs.Documents.{LocaleView, InfoView}
use Rattle.typst_html_encode.specs.{ExportFaults.{node_faults, nodes_faults}, FaultViews.{export_fault_view}}
use Rattle.typst_html_encode.specs.ExportFaults as writing
use Rattle.typst_html_encode.specs.{FrameWriters.{Frames}, Layout.{allows_pretty_inside, is_pretty_inside, wants_pretty_around}}
use Rattle.typst_html_encode.specs.{Text.{ends_at_once, escaping_of}, declared.options.HtmlOptions.{HtmlOptions}}
use Rattle.html_flow_convert.specs.Items.{ItemsView, no_items}
use Rattle.html_anchors.specs.{Anchors.{nodes_size, nodes_with_anchors, element_with_anchors}, Events.{Event, Targets, events}}
use Rattle.html_anchors.specs.Groups.{cuts}
use Rattle.html_anchors.specs.Links.{Anchors, Hrefs, anchor_hrefs, dest_before, is_open, nodes_with_links, open_dest, root_with_links}
use Rattle.html_anchors.specs.Namings.{namings}
use Rattle.html_links.specs.TreeNames.{Name, element_names}
use Rattle.typst_html_spaces.proofs.{Anchored.{anchors_keep_clean_nodes}, Changed.{holds_then, styled_is_changed}}
use Rattle.typst_html_spaces.proofs.CleanItems.{clean_items_make_clean_nodes}
use Rattle.typst_html_spaces.proofs.CleanNodes.{plain_clean, no_faults_of, no_attrs_faults, clean_nodes_are_written}
use Rattle.typst_html_spaces.proofs.Each.{Each, Each-append}
use Rattle.typst_html_spaces.specs.{CleanItems.{are_clean_items}, CleanNodes.{is_clean_text, are_clean_values, IsCleanValue, AreCleanNodes}}
use Rattle.typst_html_spaces.specs.{DeepNodes.{HoldsOf, HoldsOfAll}, PlainFlow.{is_plain_flow}}
use Rattle.typst_html_export.proofs.{AnchoredRoots.{MadePasses, nodes_are_anchored}, CleanLinks.{href_is_clean}, CleanNames.{clean_namings}}
use Rattle.typst_html_export.proofs.{LinkedRoots.{links_are_anchored}, PlainRoots.{entries_with, root_over, linked_root_is}}
use Rattle.typst_html_export.specs.Assembled.{document_nodes}
use Rattle.typst_html_export.specs.CleanInfo.{are_clean_texts, is_clean_locale, is_clean_info, CleanDocumentsAreWritten, CleanLinkedDocumentsAreWritten}
use Rattle.typst_html_export.specs.DocumentHead.{made_node, charset_node, entry_node, viewport_node, title_node, title_nodes, description_nodes, joined_text, list_meta_nodes, entry_nodes, lang_text}
use Rattle.typst_html_export.specs.Exported.{linked_root, linked_root_with_head, root_faults}
use Rattle.typst_html_export.specs.HeadNodes.{elements_and_texts, AreElementsAndTexts, HeadIsClean, CleanHeadsAreWritten}
use Rattle.typst_html_export.specs.SpacesInDocuments.{ArePlainItems}

-- what stands before all tags gets no anchor

quiet_kept : (x : Targets) (ns : NodesView) (p : Bool) → HoldsOfAll elements_and_texts p ns →
    (used : Name → Bool) (more : List Event) →
    (nodes_with_anchors (namings used (cuts [] (events x ns ++ more))) ns ≡ ns)
    × (drop (nodes_size ns) (namings used (cuts [] (events x ns ++ more)))
    ≡ namings used (cuts [] more))
unfolding events nodes_with_anchors nodes_size
quiet_kept x none p q used more = (refl, refl)
quiet_kept x (node (text_node s span) ns) p q used more =
    let after = quiet_kept x ns p q.1 used more in
    (ap (node (text_node s span)) after.0, after.1)
quiet_kept x (node (element_node h kids) ns) p q used more =
    let inside = quiet_kept x kids h.pre_span q.0.1 used (events x ns ++ more) in
    let after = quiet_kept x ns p q.1 used more in
    let both = append_assoc (events x kids) (events x ns) more in (
      rw (both, inside.0, inside.1, after.0) refl,
      rw both (sym (drop-drop (nodes_size ns) (nodes_size kids)
          (namings used (cuts [] (events x kids ++ (events x ns ++ more)))))
          ∙ (ap (drop (nodes_size ns)) inside.1 ∙ after.1)),
    )
quiet_kept x (node n ns) p q used more = absurd q.0

-- nor an `href`, for which a tag stands before an element

no_dest : (h : Head) (dest : Option ℕ) → dest ≡ None → open_dest h dest ≡ None
no_dest h dest e = by_test (is_open h)
  where
    by_test : (b : Bool) → (if b then dest else None) ≡ None
    by_test true = e
    by_test false = refl

quiet_unlinked : (hrefs : Hrefs) (ns : NodesView) (before : List NodeView) (p : Bool) →
    HoldsOfAll elements_and_texts p ns → dest_before before ≡ None → nodes_with_links hrefs before ns ≡ ns
unfolding nodes_with_links
quiet_unlinked hrefs none before p q e = refl
quiet_unlinked hrefs (node (text_node s span) ns) before p q e =
    ap (node (text_node s span)) (quiet_unlinked hrefs ns (text_node s span ∷ before) p q.1 refl)
quiet_unlinked hrefs (node (element_node h kids) ns) before p q e =
    let inside = quiet_unlinked hrefs kids [] h.pre_span q.0.1 refl in
    let after = quiet_unlinked hrefs ns (element_node h kids ∷ before) p q.1 refl in
    rw (no_dest h (dest_before before) e, inside, after) refl
quiet_unlinked hrefs (node n ns) before p q e = absurd q.0

-- a root of a quiet head and of a body of clean nodes
abbrev root_of_both : (top h g : Head) (kids inside : NodesView) → ElementView
root_of_both top h g kids inside =
    (top, node (element_node h kids) (node (element_node g inside) none))

body_anchored : (x : Targets) (top h g : Head) (kids inside : NodesView) → HoldsOfAll elements_and_texts false kids →
    AreCleanNodes false inside →
    (new : NodesView) × (element_with_anchors x (root_of_both top h g kids inside)
    ≡ root_of_both top h g kids new) × AreCleanNodes false new
unfolding element_with_anchors nodes_with_anchors events
body_anchored x top h g kids inside q c =
    let used : Name → Bool = stands_in (element_names (root_of_both top h g kids inside)) in
    let es = events x inside ++ [] in
    let kept = quiet_kept x kids false q used (events x (node (element_node g inside) none)) in
    let passing : Each (MadePasses IsCleanValue) (namings used (cuts [] es)) =
    subst (λ fs. Each (MadePasses IsCleanValue) (namings used (cuts [] fs)))
    (sym (append-nil (events x inside))) (clean_namings x used inside false c) in (
      nodes_with_anchors (namings used (cuts [] es)) inside,
      rw (kept.0, kept.1) refl,
      anchors_keep_clean_nodes false inside (nodes_with_anchors (namings used (cuts [] es)) inside)
          (nodes_are_anchored (λ a value. IsCleanValue value) inside (namings used (cuts [] es)) passing) c,
    )

-- elements

element_written : (frames : Frames) (pre_span pretty : Bool) (h : Head) (ns : NodesView) →
    are_clean_values h.attrs ≡ true → ends_at_once h ≡ false → is_raw h.name ≡ false →
    is_escapable_raw h.name ≡ false →
    nodes_faults frames h.pre_span (pretty && is_pretty_inside h ns) ns ≡ [] →
    node_faults frames pre_span pretty (element_node h ns) ≡ []
unfolding node_faults
element_written frames pre_span pretty h ns values at_once raw escapable inside =
    rw (no_attrs_faults h.span h.attrs values, at_once, raw, escapable) inside

-- entries of a head

record IsEntry (n : NodeView) : Type 0 where
  quiet : HoldsOf elements_and_texts false (styled_node n)
  written : (frames : Frames) (pretty : Bool) → node_faults frames false pretty (styled_node n) ≡ []

meta_entry : (attrs : List TextPair) → are_clean_values attrs ≡ true →
    IsEntry (made_node (codes "meta") attrs none)
unfolding styled_node node_faults is_void is_foreign_self_closing stands_in
meta_entry attrs e =
    record { quiet = (tt, tt); written = λ frames pretty. rw (no_attrs_faults 0 attrs e) refl }

title_entry : (t : List ℕ) → all is_text_char t ≡ true → IsEntry (title_node t)
unfolding styled_node node_faults is_void is_foreign_self_closing is_raw is_escapable_raw stands_in
title_entry t e = record {
  quiet = (tt, (tt, tt));
  written = λ frames pretty. rw (no_faults_of (escaping_of false) 0 t (plain_clean t e)) refl;
}

named_entry : (name content : List ℕ) → all is_text_char name ≡ true →
    all is_text_char content ≡ true → IsEntry (entry_node name content)
named_entry name content e f =
    meta_entry ((codes "name", name) ∷ (codes "content", content) ∷ []) (rw (e, f) refl)

title_entries : (t : Option (List ℕ)) → is_clean_text t ≡ true → Each IsEntry (title_nodes t)
title_entries None e = tt
title_entries (Some t) e = (title_entry t e, tt)

description_entries : (t : Option (List ℕ)) → is_clean_text t ≡ true →
    Each IsEntry (description_nodes t)
description_entries None e = tt
description_entries (Some t) e = (named_entry (codes "description") t refl e, tt)

others_are_clean : (ts : List (List ℕ)) → are_clean_texts ts ≡ true →
    all is_text_char (flat_map (λ t. codes ", " ++ t) ts) ≡ true
others_are_clean [] e = refl
others_are_clean (t ∷ ts) e =
    let both = and_parts (all is_text_char t) (are_clean_texts ts) e in
    all_append is_text_char (codes ", " ++ t) (flat_map (λ s. codes ", " ++ s) ts)
    (all_append is_text_char (codes ", ") t refl both.0) (others_are_clean ts both.1)

joined_is_clean : (ts : List (List ℕ)) → are_clean_texts ts ≡ true →
    all is_text_char (joined_text ts) ≡ true
joined_is_clean [] e = refl
joined_is_clean (t ∷ ts) e =
    let both = and_parts (all is_text_char t) (are_clean_texts ts) e in
    all_append is_text_char t (flat_map (λ s. codes ", " ++ s) ts) both.0
    (others_are_clean ts both.1)

list_entries : (name : List ℕ) (ts : List (List ℕ)) → all is_text_char name ≡ true →
    are_clean_texts ts ≡ true → Each IsEntry (list_meta_nodes name ts)
list_entries name [] e f = tt
list_entries name (t ∷ ts) e f =
    (named_entry name (joined_text (t ∷ ts)) e (joined_is_clean (t ∷ ts) f), tt)

record InfoParts (info : InfoView) : Type 0 where
  title : is_clean_text info.title ≡ true
  description : is_clean_text info.description ≡ true
  author : are_clean_texts info.author ≡ true
  keywords : are_clean_texts info.keywords ≡ true
  locale : is_clean_locale info.locale ≡ true

info_parts : (info : InfoView) → is_clean_info info ≡ true → InfoParts info
info_parts info e =
    let t = is_clean_text info.title in
    let d = is_clean_text info.description in
    let a = are_clean_texts info.author in
    let k = are_clean_texts info.keywords in
    let four = and_parts (t && d && a && k) (is_clean_locale info.locale) e in
    let three = and_parts (t && d && a) k four.0 in
    let two = and_parts (t && d) a three.0 in
    let one = and_parts t d two.0 in
    record {
      title = one.0;
      description = one.1;
      author = two.1;
      keywords = three.1;
      locale = four.1;
    }

all_entries : (info : InfoView) → InfoParts info →
    Each IsEntry (charset_node ∷ viewport_node ∷ entry_nodes info)
all_entries info parts =
    let authors = list_meta_nodes (codes "authors") info.author in
    let keywords = list_meta_nodes (codes "keywords") info.keywords in
    let descriptions = description_nodes info.description in (
      meta_entry ((codes "charset", codes "utf-8") ∷ []) refl,
      (
        named_entry (codes "viewport") (codes "width=device-width, initial-scale=1") refl refl,
        Each-append IsEntry (title_nodes info.title) (descriptions ++ (authors ++ keywords))
            (title_entries info.title parts.title)
            (Each-append IsEntry descriptions (authors ++ keywords)
            (description_entries info.description parts.description)
            (Each-append IsEntry authors keywords
            (list_entries (codes "authors") info.author refl parts.author)
            (list_entries (codes "keywords") info.keywords refl parts.keywords))),
      ),
    )

-- entries, and then nodes of one's own

entries_quiet : (ns head : List NodeView) → Each IsEntry ns →
    HoldsOfAll elements_and_texts false (styled_nodes (nodes_of head)) →
    HoldsOfAll elements_and_texts false (styled_nodes (nodes_of (ns ++ head)))
unfolding styled_nodes
entries_quiet [] head e own = own
entries_quiet (n ∷ ns) head e own = (e.0.quiet, entries_quiet ns head e.1 own)

entries_written : (frames : Frames) (pretty : Bool) (ns head : List NodeView) → Each IsEntry ns →
    nodes_faults frames false pretty (styled_nodes (nodes_of head)) ≡ [] →
    nodes_faults frames false pretty (styled_nodes (nodes_of (ns ++ head))) ≡ []
unfolding styled_nodes nodes_faults
entries_written frames pretty [] head e own = own
entries_written frames pretty (n ∷ ns) head e own =
    rw (e.0.written frames pretty, entries_written frames pretty ns head e.1 own) refl

styled_quiet : (ns : NodesView) → AreElementsAndTexts ns → AreElementsAndTexts (styled_nodes ns)
styled_quiet ns = holds_then {v = elements_and_texts} {w = elements_and_texts} (record {
  after = λ h i. absurd i;
  around = λ p h s i c. absurd i;
  head = λ h g e b c. tt;
  flag = λ h g e. ap (λ x. x.pre_span) e;
  text = λ p s c. tt;
  tag = λ t c. c;
  frame = λ c. c;
}) (styled_is_changed ns) false

-- the language

region_is_clean : (lang : List ℕ) (region : Option (List ℕ)) → all is_text_char lang ≡ true →
    is_clean_text region ≡ true →
    all is_text_char (lang_text (Some (record { lang = lang; region = region }))) ≡ true
region_is_clean lang None e f = all_append is_text_char lang [] e refl
region_is_clean lang (Some region) e f = all_append is_text_char lang (codes "-" ++ region) e
    (all_append is_text_char (codes "-") region refl f)

lang_is_clean : (locale : Option LocaleView) → is_clean_locale locale ≡ true →
    all is_text_char (lang_text locale) ≡ true
lang_is_clean None e = refl
lang_is_clean (Some locale) e =
    let both = and_parts (all is_text_char locale.lang) (is_clean_text locale.region) e in
    region_is_clean locale.lang locale.region both.0 both.1

-- the root

abbrev made_root : (lang : List ℕ) (kids inside : NodesView) → ElementView
made_root lang kids inside = root_of_both (plain_head (codes "html") ((codes "lang", lang) ∷ []) 0)
    (plain_head (codes "head") [] 0) (plain_head (codes "body") [] 0) kids inside

-- the children of a root and of its head are written as the document is
root_mode : (pretty : Bool) (lang : List ℕ) (kids inside : NodesView) →
    (pretty && is_pretty_inside (made_root lang kids inside).0 (made_root lang kids inside).1) ≡ pretty
unfolding is_pretty_inside allows_pretty_inside wants_pretty_around is_mathml is_token is_metadata_content default_display stands_in
root_mode true lang kids inside = refl
root_mode false lang kids inside = refl

head_mode : (pretty : Bool) (more : NodesView) →
    (pretty && is_pretty_inside (plain_head (codes "head") [] 0)
    (node (styled_node charset_node) more)) ≡ pretty
unfolding styled_node is_pretty_inside allows_pretty_inside wants_pretty_around is_mathml is_token
    is_metadata_content default_display stands_in
head_mode true more = refl
head_mode false more = refl

root_written : (frames : Frames) (pretty : Bool) (lang : List ℕ) (more inside : NodesView) →
    all is_text_char lang ≡ true →
    nodes_faults frames false pretty (node (styled_node charset_node) more) ≡ [] →
    ((p : Bool) → nodes_faults frames false p inside ≡ []) →
    writing.element_faults frames pretty
    (made_root lang (node (styled_node charset_node) more) inside) ≡ []
unfolding nodes_faults is_void is_foreign_self_closing is_raw is_escapable_raw stands_in
root_written frames pretty lang more inside e own below =
    let kids = node (styled_node charset_node) more in
    let root = made_root lang kids inside in
    let head = plain_head (codes "head") [] 0 in
    let body = plain_head (codes "body") [] 0 in
    element_written frames false pretty root.0 root.1 (rw e refl) refl refl refl
    (rw (root_mode pretty lang kids inside) (rw (
      element_written frames false pretty head kids refl refl refl refl (rw (head_mode pretty more) own),
      element_written frames false pretty body inside refl refl refl refl (below _),
    ) refl))

abbrev all_nodes : InfoView → (head : List NodeView) → List NodeView
all_nodes info head = charset_node ∷ viewport_node ∷ (entry_nodes info ++ head)

abbrev head_inside : InfoView → (head : List NodeView) → NodesView
head_inside info head = styled_nodes (nodes_of (all_nodes info head))

root_is_made : (info : InfoView) (head : List NodeView) (ns : NodesView) →
    root_over info (entries_with info head) ns
    ≡ made_root (lang_text info.locale) (head_inside info head) (styled_nodes ns)
unfolding styled_node
root_is_made info head ns = refl

-- what is clean of a document
record CleanParts (info : InfoView) (head : List NodeView) : Type 0 where
  parts : InfoParts info
  alone : AreElementsAndTexts (nodes_of head)

-- the root of such a document: its body is clean
abbrev HasCleanBody : InfoView → (head : List NodeView) → ElementView → Type 0
HasCleanBody info head root = (inside : NodesView)
    × (root ≡ made_root (lang_text info.locale) (head_inside info head) inside)
    × AreCleanNodes false inside

all_quiet : (info : InfoView) (head : List NodeView) → CleanParts info head →
    AreElementsAndTexts (head_inside info head)
all_quiet info head c = entries_quiet (charset_node ∷ viewport_node ∷ entry_nodes info) head
    (all_entries info c.parts) (styled_quiet (nodes_of head) c.alone)

clean_body : (info : InfoView) (head : List NodeView) (items : ItemsView) → CleanParts info head →
    is_plain_flow items ≡ true → are_clean_items items ≡ true →
    HasCleanBody info head (linked_root_with_head info head items no_items)
clean_body info head items c plain clean =
    let ns = document_nodes items in
    let root = linked_root_is info head items plain in
    let anchored = body_anchored root.0 (made_root (lang_text info.locale) none none).0
    (plain_head (codes "head") [] 0) (plain_head (codes "body") [] 0) (head_inside info head)
    (styled_nodes ns) (all_quiet info head c)
    (clean_items_make_clean_nodes None items refl plain clean) in (
      anchored.0,
      root.1 ∙ (ap (element_with_anchors root.0) (root_is_made info head ns) ∙ anchored.1),
      anchored.2,
    )

-- with the `href` of its links
body_linked : (info : InfoView) (head : List NodeView) (root : ElementView)
    (is_place : List ℕ → Bool) (anchor : Anchors) → CleanParts info head →
    HasCleanBody info head root →
    HasCleanBody info head (root_with_links (anchor_hrefs is_place anchor) root)
unfolding nodes_with_links
body_linked info head root is_place anchor c b =
    let hrefs = anchor_hrefs is_place anchor in
    let kept = quiet_unlinked hrefs (head_inside info head) [] false (all_quiet info head c) refl in (
      nodes_with_links hrefs [] b.0,
      ap (root_with_links hrefs) b.1 ∙ rw kept refl,
      anchors_keep_clean_nodes false b.0 (nodes_with_links hrefs [] b.0)
          (links_are_anchored (λ a value. IsCleanValue value) hrefs (href_is_clean is_place anchor) [] b.0) b.2,
    )

clean_body_written : (frames : Frames) (options : HtmlOptions) (info : InfoView)
    (head : List NodeView) (root : ElementView) → CleanParts info head →
    nodes_faults frames false options.pretty (styled_nodes (nodes_of head)) ≡ [] →
    HasCleanBody info head root → root_faults frames options root ≡ []
unfolding styled_nodes
clean_body_written frames options info head root c own b =
    let parts = c.parts in
    let entries = charset_node ∷ viewport_node ∷ entry_nodes info in
    let more = styled_nodes (nodes_of (viewport_node ∷ (entry_nodes info ++ head))) in
    ap (map export_fault_view) (ap (writing.document_faults frames options) b.1
    ∙ root_written frames options.pretty (lang_text info.locale) more b.0
    (lang_is_clean info.locale parts.locale)
    (entries_written frames options.pretty entries head (all_entries info parts) own)
    (λ p. clean_nodes_are_written false b.0 b.2 frames p))

pub clean_heads_are_written : CleanHeadsAreWritten
clean_heads_are_written frames options info head items plain clean known own =
    let c : CleanParts info head = record { parts = info_parts info known; alone = own.alone } in
    clean_body_written frames options info head (linked_root_with_head info head items no_items) c
    own.written (clean_body info head items c plain clean)

-- without nodes of one's own in the head

pub no_head_is_clean : (frames : Frames) (options : HtmlOptions) → HeadIsClean frames options none
unfolding styled_nodes nodes_faults
no_head_is_clean frames options = record { alone = tt; written = refl }

pub clean_documents_are_written : CleanDocumentsAreWritten
clean_documents_are_written frames options info items plain clean known =
    clean_heads_are_written frames options info [] items plain clean known
    (no_head_is_clean frames options)

pub clean_linked_documents_are_written : CleanLinkedDocumentsAreWritten
clean_linked_documents_are_written frames options info items plain clean known is_place anchor =
    let made : ElementView = linked_root info items no_items in
    let root = root_with_links (anchor_hrefs is_place anchor) made in
    let c : CleanParts info [] = record { parts = info_parts info known; alone = tt } in
    clean_body_written frames options info [] root c (no_head_is_clean frames options).written
    (body_linked info [] made is_place anchor c (clean_body info [] items c plain clean))

module _ (frames : Frames) (options : HtmlOptions) (limit : ℕ) (info : InfoView)
    (items notes : ItemsView) (are : ArePlainItems limit items notes)
    (clean : are_clean_items items ≡ true) (known : is_clean_info info ≡ true) where
  pub clean_exports_with_head : (head : List NodeView) →
      HeadIsClean frames options (nodes_of head) →
      root_faults frames options (linked_root_with_head info head items notes) ≡ []
  clean_exports_with_head head own =
      ap (λ n. root_faults frames options (linked_root_with_head info head items n)) are.alone
      ∙ clean_heads_are_written frames options info head items are.plain clean known own

  pub clean_linked_exports : (is_place : List ℕ → Bool) (anchor : Anchors) →
      root_faults frames options
      (root_with_links (anchor_hrefs is_place anchor) (linked_root info items notes)) ≡ []
  clean_linked_exports is_place anchor =
      ap (λ n. root_faults frames options
      (root_with_links (anchor_hrefs is_place anchor) (linked_root info items n))) are.alone
      ∙ clean_linked_documents_are_written frames options info items are.plain clean known is_place anchor
