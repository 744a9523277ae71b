-- Children that are gathered, with the text since the last of them, and their normal form.
use Rattle.std.proofs.Common.{◌≡◌, ℕ, Bool, true, false, List, [], ◌∷◌, ◌++◌, refl, sym, ap, ◌∙◌}
use Rattle.std.proofs.lemmas.Bool.{false≢true}
use Rattle.html_dom_tree.{proofs.Basics.{put_twice}, specs.PlainTree.{branch, Plains, no_plains, plain, put_words, nodes_normal}}
use Rattle.html_dom_tree.specs.Tree.{NodeView, tag_node, text_node, element_node, NodesView, none, node, with_last}
use Rattle.typst_html_encode.{proofs.Runs.{right_empty}, specs.{ExportFaults.{nodes_raw_faults, void_faults}, Text.{nodes_raw_text}}}
use Rattle.html_page_names.specs.ForeignNames.{lowered}
use Rattle.html_page_stack.specs.{Formats.{Formats}, OpenElements.{OpenElement, end_in_text, joined, with_longer_last, with_text}, Pages.{Page, End}}
use Rattle.html_page_tree.specs.PageTrees.{token_read}
use Rattle.html_page_read.specs.{PageReading.{run}, PageTokens.{PageReader}}
use Rattle.typst_html_nesting_laws.proofs.{Branches.{decide}, ListedFormats.{IsInOrder}, Readers.{data_at, run_on}, Templates.{TemplateModes, are_modes}}

-- plain nodes behind a node, and behind nodes
abbrev pub put_node : NodeView → Plains → Plains
put_node (text_node s span) k = put_words s k
put_node (element_node h kids) k = plain (branch h.name h.attrs (nodes_normal kids)) k
put_node n k = k

abbrev pub put_nodes : NodesView → Plains → Plains
put_nodes none k = k
put_nodes (node n ns) k = put_node n (put_nodes ns k)

pub normal_is : (ns : NodesView) → nodes_normal ns ≡ put_nodes ns no_plains
unfolding nodes_normal
normal_is none = refl
normal_is (node (text_node s span) ns) = ap (put_words s) (normal_is ns)
normal_is (node (element_node h kids) ns) =
    ap (plain (branch h.name h.attrs (nodes_normal kids))) (normal_is ns)
normal_is (node n ns) = normal_is ns

pub put_last : (ns : NodesView) (n : NodeView) (k : Plains) →
    put_nodes (with_last ns n) k ≡ put_nodes ns (put_node n k)
put_last none n k = refl
put_last (node m ms) n k = ap (put_node m) (put_last ms n k)

-- children with a text behind them
abbrev pub texted_children : (span : ℕ) → NodesView → (text : List ℕ) → NodesView
texted_children span c [] = c
texted_children span c (x ∷ xs) = joined (x ∷ xs) span c

pub with_text_is : (t : List ℕ) (o : OpenElement) (c : NodesView) → with_text t
    (record o { children = c }) ≡ record o { children = texted_children o.head.span c t }
with_text_is [] o c = refl
with_text_is (x ∷ xs) o c = refl

-- a text that joins the last child
put_longer : (ns : NodesView) (t : List ℕ) (k : Plains) → end_in_text ns ≡ true →
    put_nodes (with_longer_last t ns) k ≡ put_nodes ns (put_words t k)
put_longer none t k h = absurd (false≢true h)
put_longer (node (text_node s span) none) t k h = sym (put_twice s t k)
put_longer (node n none) t k h = absurd (false≢true h)
put_longer (node n (node m ms)) t k h = ap (put_node n) (put_longer (node m ms) t k h)

pub put_texted : (span : ℕ) (c : NodesView) (t : List ℕ) (k : Plains) →
    put_nodes (texted_children span c t) k ≡ put_nodes c (put_words t k)
put_texted span c [] k = refl
put_texted span c (x ∷ xs) k = decide (end_in_text c)
    (λ e. rw e (put_longer c (x ∷ xs) k e)) (λ e. rw e (put_last c (text_node (x ∷ xs) span) k))

-- texts and tags alone
abbrev pub are_texts : NodesView → Bool
are_texts none = true
are_texts (node (tag_node t) ns) = are_texts ns
are_texts (node (text_node s span) ns) = are_texts ns
are_texts (node n ns) = false

pub texts_by_faults : (e : _) (ns : NodesView) → nodes_raw_faults e ns ≡ [] → are_texts ns ≡ true
texts_by_faults e none f = refl
texts_by_faults e (node (tag_node t) ns) f = texts_by_faults e ns f
texts_by_faults e (node (text_node s span) ns) f = texts_by_faults e ns (right_empty _ _ f)
texts_by_faults e (node n ns) f = cc

pub put_texts : (ns : NodesView) → are_texts ns ≡ true → (k : Plains) →
    put_words (nodes_raw_text ns) k ≡ put_nodes ns k
put_texts none h k = refl
put_texts (node (tag_node m) ns) h k = put_texts ns h k
put_texts (node (text_node s span) ns) h k =
    sym (put_twice s (nodes_raw_text ns) k) ∙ ap (put_words s) (put_texts ns h k)
put_texts (node n ns) e k = cc

pub no_children : (span : ℕ) (ns : NodesView) → void_faults span ns ≡ [] →
    nodes_normal none ≡ nodes_normal ns
no_children span none h = refl
no_children span (node n ns) h = cc

-- where the last token began, the active formatting elements, and the modes of templates
pub record Moment : Type 0 where
  pub start : ℕ
  pub formats : Formats
  pub templates : TemplateModes

-- formats and modes are those of these open elements
abbrev pub AreOrdered : List OpenElement → Moment → Type 0
AreOrdered os m = IsInOrder os m.formats × (are_modes os m.templates ≡ true)

-- at another token
abbrev pub later : (start : ℕ) → Moment → Moment
later s m = record m { start = s }

-- a page with these children of the current node, and that text since
abbrev pub on : Page → OpenElement → List OpenElement → NodesView → (text : List ℕ) → Moment → Page
on p o os c t m = record p {
  text = t;
  moved = false;
  stack = record o { children = c } ∷ os;
  start = m.start;
  formats = m.formats;
  templates = m.templates;
}

-- nodes are read, behind children and a text
pub record AreGathered (q : PageReader) (text : List ℕ) (fresh : Bool) (p : Page) (o : OpenElement)
    (os : List OpenElement) (c : NodesView) (t : List ℕ) (ns : NodesView) : Type 0 where
  pub children : NodesView
  pub words : List ℕ
  pub place : ℕ
  pub moment : Moment
  pub ordered : AreOrdered (o ∷ os) moment
  pub is : run q text ≡ data_at fresh place (on p o os children words moment)
  pub same : (k : Plains) →
      put_nodes children (put_words words k) ≡ put_nodes c (put_words t (put_nodes ns k))

-- a node, and then nodes
pub gathered_on : {q : PageReader} {xs ys : List ℕ} {fresh last : Bool} {p : Page} {o : OpenElement}
    {os : List OpenElement} {c : NodesView} {t : List ℕ} {n : NodeView} {ns : NodesView}
    (g : AreGathered q xs fresh p o os c t (node n none)) →
    AreGathered (data_at fresh g.place (on p o os g.children g.words g.moment)) ys last p o os
    g.children g.words ns → AreGathered q (xs ++ ys) last p o os c t (node n ns)
gathered_on {xs = xs} {ys = ys} {ns = ns} g h = record {
  children = h.children;
  words = h.words;
  place = h.place;
  moment = h.moment;
  ordered = h.ordered;
  is = run_on _ _ _ xs ys g.is h.is;
  same = λ k. h.same k ∙ g.same (put_nodes ns k);
}

-- the content of an element is read with its end tag behind it, which does what it does
pub record IsFilled (q : PageReader) (text name : List ℕ) (kids : NodesView) (p : Page)
    (o : OpenElement) (os : List OpenElement) : Type 0 where
  pub children : NodesView
  pub words : List ℕ
  pub moment : Moment
  pub ordered : AreOrdered (o ∷ os) moment
  pub place : ℕ
  pub is : (after : Page) → token_read (End (lowered name)) (on p o os children words moment)
      ≡ after → run q text ≡ data_at false place after
  pub same : (k : Plains) → put_nodes children (put_words words k) ≡ put_nodes kids k

-- the normal form of what was filled in
pub filled_normal : {q : PageReader} {text name : List ℕ} {kids : NodesView} {p : Page}
    {o : OpenElement} {os : List OpenElement} (span : ℕ) (f : IsFilled q text name kids p o os) →
    nodes_normal (texted_children span f.children f.words) ≡ nodes_normal kids
filled_normal {kids = kids} span f = normal_is (texted_children span f.children f.words)
    ∙ (put_texted span f.children f.words no_plains ∙ (f.same no_plains ∙ sym (normal_is kids)))
