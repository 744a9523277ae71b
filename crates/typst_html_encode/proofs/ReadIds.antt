-- Pretty writing keeps the texts that elements have by their names and attributes.
use Rattle.std.{proofs.Common.{◌≡◌, ℕ, Bool, true, false, ◌&&◌, List, [], ◌∷◌, ◌++◌, refl, sym, ◌∙◌}, specs.Prelude.{if◌then◌else◌}}
use Rattle.html_dom_tree.specs.PlainTree.{Plains, no_plains, plain, words, branch, put_words, nodes_normal}
use Rattle.html_dom_tree.specs.Tree.{Head, tag_node, text_node, element_node, frame_node, NodesView, none, node}
use Rattle.typst_html_encode.specs.Content.{content_kind, by_kind}
use Rattle.typst_html_encode.specs.ExportFaults.{attrs_faults, node_faults, nodes_faults, nodes_raw_faults, raw_content_faults, void_faults}
use Rattle.typst_html_encode.specs.{FrameWriters.{Frames}, Indented.{content_layout, node_layout, nodes_layout, raw_layout, with_indent}}
use Rattle.typst_html_encode.specs.Layout.{deeper, due_after, has_indent, indent, is_by_lines, is_pretty_inside, lines_text, margin_inside}
use Rattle.typst_html_encode.specs.ReadIds.{ElementTexts, plains_texts, LayoutKeepsTexts}
use Rattle.typst_html_encode.specs.Text.{ends_at_once, nodes_raw_text, root_margin, pretty_options}
use Rattle.typst_html_encode.specs.declared.content.{ContentKind.{ContentKind}, ContentKind.TheVariants.{Raw, EscapableRaw, Nodes}}
use Rattle.typst_html_encode.specs.declared.escape.Escaping.TheVariants as escaping
use Rattle.typst_html_encode.{proofs.Runs.{left_empty, right_empty}, specs.declared.fault.ExportFault.{ExportFault}}
use Rattle.typst_html_encode.specs.declared.layout.Margin.{Margin}

abbrev texts : ElementTexts → NodesView → List (List ℕ)
texts own ns = plains_texts own (nodes_normal ns)

pub past_words : (own : ElementTexts) (s : List ℕ) (ps : Plains) →
    plains_texts own (put_words s ps) ≡ plains_texts own ps
unfolding plains_texts
past_words own [] ps = refl
past_words own (c ∷ cs) no_plains = refl
past_words own (c ∷ cs) (plain (words t) ps) = refl
past_words own (c ∷ cs) (plain (branch name attrs children) ps) = refl

-- in a raw text stands no element
raw_texts : (own : ElementTexts) (ns : NodesView) → nodes_raw_faults escaping.Raw ns ≡ [] →
    texts own ns ≡ []
unfolding plains_texts nodes_normal
raw_texts own none e = refl
raw_texts own (node (tag_node t) ns) e = raw_texts own ns e
raw_texts own (node (text_node s span) ns) e =
    past_words own s (nodes_normal ns)
    ∙ raw_texts own ns (right_empty _ _ e)
raw_texts own (node (element_node h kids) ns) e = cc
raw_texts own (node (frame_node f) ns) e = cc

indent_texts : (own : ElementTexts) (b : Bool) (level : ℕ) (ns : NodesView) →
    texts own (with_indent b level ns) ≡ texts own ns
unfolding plains_texts nodes_normal
indent_texts own true level ns = past_words own (indent level) (nodes_normal ns)
indent_texts own false level ns = refl

-- those of a tree without faults stay as it is laid out
raw_layout_texts : (own : ElementTexts) (by_lines : Bool) (margin : Margin) (h : Head)
    (ns : NodesView) → (margin.pretty && is_by_lines h) ≡ by_lines → nodes_raw_faults escaping.Raw ns ≡ [] →
    texts own (raw_layout margin h ns) ≡ texts own ns
unfolding plains_texts nodes_normal
raw_layout_texts own true margin h ns e clean =
    rw e (past_words own (lines_text margin.level h.name (nodes_raw_text ns)) no_plains
    ∙ sym (raw_texts own ns clean))
raw_layout_texts own false margin h ns e clean = rw e refl

content_texts : (own : ElementTexts) (ends : Bool) (kind : ContentKind) (ns raw laid : NodesView)
    (void_ raw_ text_ nodes_ : List ExportFault) →
    (if ends then void_ else by_kind kind raw_ text_ nodes_) ≡ [] →
    (raw_ ≡ [] → texts own raw ≡ texts own ns) → (nodes_ ≡ [] → texts own laid ≡ texts own ns) →
    texts own (if ends then ns else by_kind kind raw ns laid) ≡ texts own ns
content_texts own true kind ns raw laid void_ raw_ text_ nodes_ e r l = refl
content_texts own false Raw ns raw laid void_ raw_ text_ nodes_ e r l = r e
content_texts own false EscapableRaw ns raw laid void_ raw_ text_ nodes_ e r l = refl
content_texts own false Nodes ns raw laid void_ raw_ text_ nodes_ e r l = l e

module _ (own : ElementTexts) (frames : Frames) where
  abbrev inner_faults : (pretty : Bool) → Head → NodesView → List ExportFault
  inner_faults pretty h ns = if ends_at_once h then void_faults h.span ns
      else by_kind (content_kind h.name) (raw_content_faults h ns)
      (nodes_raw_faults escaping.Text ns)
      (nodes_faults frames h.pre_span (pretty && is_pretty_inside h ns) ns)

  abbrev AreLaidOut : NodesView → Type 0
  AreLaidOut ns = (due : Bool) (margin : Margin) (pre_span pretty : Bool) →
      nodes_faults frames pre_span pretty ns ≡ [] →
      texts own (nodes_layout due margin ns) ≡ texts own ns

  inner_texts : (margin : Margin) (pretty : Bool) (h : Head) (ns : NodesView) → AreLaidOut ns →
      inner_faults pretty h ns ≡ [] → texts own (content_layout margin h ns) ≡ texts own ns
  inner_texts margin pretty h ns below clean =
      content_texts own (ends_at_once h) (content_kind h.name) ns (raw_layout margin h ns)
      (nodes_layout true (margin_inside margin h ns) ns) (void_faults h.span ns)
      (raw_content_faults h ns) (nodes_raw_faults escaping.Text ns)
      (nodes_faults frames h.pre_span (pretty && is_pretty_inside h ns) ns) clean
      (λ e. raw_layout_texts own (margin.pretty && is_by_lines h) margin h ns refl
      (left_empty _ _ e))
      (λ e. below true (margin_inside margin h ns) h.pre_span (pretty && is_pretty_inside h ns) e)

  laid_texts : (ns : NodesView) → AreLaidOut ns
  unfolding nodes_layout node_layout nodes_faults node_faults plains_texts nodes_normal
  laid_texts none due margin pre_span pretty clean = indent_texts own margin.pretty margin.level none
  laid_texts (node (tag_node t) ns) due margin pre_span pretty clean =
      indent_texts own (margin.pretty && has_indent due (tag_node t)) (deeper margin).level _
      ∙ laid_texts ns (due_after due (tag_node t)) margin pre_span pretty clean
  laid_texts (node (text_node s span) ns) due margin pre_span pretty clean =
      indent_texts own (margin.pretty && has_indent due (text_node s span)) (deeper margin).level _
      ∙ (past_words own s _
      ∙ (laid_texts ns (due_after due (text_node s span)) margin pre_span pretty
      (right_empty _ _ clean)
      ∙ sym (past_words own s (nodes_normal ns))))
  laid_texts (node (element_node h kids) ns) due margin pre_span pretty clean =
      let values = attrs_faults h.span h.attrs in
      let here = left_empty (values ++ inner_faults pretty h kids) _ clean in
      let inside = right_empty values (inner_faults pretty h kids) here in
      let behind = right_empty (values ++ inner_faults pretty h kids) _ clean in
      indent_texts own (margin.pretty && has_indent due (element_node h kids)) (deeper margin).level _
      ∙ (rw (
        inner_texts (deeper margin) pretty h kids (laid_texts kids) inside,
        laid_texts ns (due_after due (element_node h kids)) margin pre_span pretty behind,
      ) refl)
  laid_texts (node (frame_node f) ns) due margin pre_span pretty clean =
      indent_texts own (margin.pretty && has_indent due (frame_node f)) (deeper margin).level _
      ∙ laid_texts ns (due_after due (frame_node f)) margin pre_span pretty
      (right_empty _ _ clean)

pub layout_keeps_texts : LayoutKeepsTexts
unfolding node_faults
layout_keeps_texts own frames options root clean =
    inner_texts own frames (root_margin pretty_options) options.pretty root.0 root.1
    (laid_texts own frames root.1)
    (right_empty (attrs_faults root.0.span root.0.attrs) _ clean)
