-- Nodes that have no fault at any depth.
use Rattle.std.proofs.Common.{◌≡◌, ℕ, Bool, true, false, not, ◌&&◌, ◌||◌, ◌==◌, List, [], ◌∷◌, ◌++◌, None, inl, inr, refl, ap, ◌∙◌, codes, arith}
use Rattle.std.proofs.lemmas.Bool.{cases_Bool, false≢true, and_parts}
use Rattle.html_names_core.specs.{Characters.{all, is_text_char}, Kinds.{is_void}, Texts.{TextPair}}
use Rattle.html_dom_tree.specs.{Attributes.{first}, Styled.{styled_attrs, head_with_style, styled_nodes}}
use Rattle.html_dom_tree.specs.Tree.{Head, tag_node, text_node, element_node, frame_node, NodesView, none, node}
use Rattle.typst_html_encode.specs.ExportFaults.{is_reference, is_bad, char_faults, text_faults, attrs_faults, void_faults, node_faults}
use Rattle.typst_html_encode.specs.{Layout.{is_pretty_inside}, Text.{ends_at_once, escaping_of}}
use Rattle.typst_html_spaces.proofs.{Changed.{holds_then, styled_is_changed}, MadeHeads.{MadeCss, plain, made_css, MadeHead}}
use Rattle.typst_html_spaces.proofs.ReadyElements.{plain_is_not_raw, plain_is_not_escapable, plain_is_not_foreign}
use Rattle.typst_html_spaces.specs.CleanNodes.{are_clean_values, is_no_return, IsCleanText, IsCleanHead, clean, AreCleanNodes, CleanNodesAreWritten}
use Rattle.typst_html_spaces.specs.{DeepNodes.{Wanted, is_empty, HoldsOfAll}, PlainFlow.{is_plain_name}}

-- texts

good : (a b d : Bool) → a ≡ true → (b ≡ true → not d ≡ true) → (not a || (b && d)) ≡ false
good a b d e f = grind arith

pub plain_clean : (s : List ℕ) → all is_text_char s ≡ true → IsCleanText false s
plain_clean s e = (e, λ t. absurd (false≢true t))

no_char_faults : (e : _) (span c : ℕ) → is_bad e c ≡ false → char_faults e span c ≡ []
no_char_faults e span c h = rw h refl

no_text_faults : (e : _) (span : ℕ) (s : List ℕ) → all is_text_char s ≡ true →
    (is_reference e ≡ true → all is_no_return s ≡ true) → text_faults e span s ≡ []
no_text_faults e span [] h k = refl
no_text_faults e span (c ∷ cs) h k =
    let both = and_parts _ _ h in
    let fine : is_bad e c ≡ false = good (is_text_char c) (is_reference e) (c == 13) both.0
    (λ r. (and_parts _ _ (k r)).0) in
    ap (λ fs. fs ++ text_faults e span cs) (no_char_faults e span c fine)
    ∙ no_text_faults e span cs both.1 (λ r. (and_parts _ _ (k r)).1)

pub no_faults_of : (e : _) (span : ℕ) (s : List ℕ) → IsCleanText (is_reference e) s →
    text_faults e span s ≡ []
no_faults_of e span s c = no_text_faults e span s c.0 c.1

-- attributes

pub no_attrs_faults : (span : ℕ) (attrs : List TextPair) → are_clean_values attrs ≡ true →
    attrs_faults span attrs ≡ []
no_attrs_faults span [] e = refl
no_attrs_faults span (p ∷ ps) e =
    let both = and_parts _ _ e in
    let own : IsCleanText false p.1 = plain_clean p.1 both.0 in
    rw no_faults_of (no_attrs_faults span ps both.1)

pub clean_values-append : (ps qs : List TextPair) → are_clean_values ps ≡ true →
    are_clean_values qs ≡ true → are_clean_values (ps ++ qs) ≡ true
clean_values-append [] qs e f = f
clean_values-append (p ∷ ps) qs e f =
    let both = and_parts (all is_text_char p.1) (are_clean_values ps) e in
    rw (both.0) (clean_values-append ps qs both.1 f)

made_values : (c : MadeCss) (attrs : List TextPair) → first attrs (codes "style") ≡ None →
    are_clean_values attrs ≡ true → are_clean_values (styled_attrs (made_css c) attrs) ≡ true
made_values plain attrs n e = e
made_values c attrs n e = rw n (clean_values-append attrs _ e refl)

-- heads

-- as conversion makes it, and clean
pub record MadeClean (h : Head) (is_empty : Bool) : Type 0 where
  pub made : MadeHead h
  pub values : are_clean_values h.attrs ≡ true
  pub void : is_void h.name ≡ true → is_empty ≡ true

ends_by_void : (h : Head) → is_plain_name h.name ≡ true → ends_at_once h ≡ is_void h.name
ends_by_void h e = rw (plain_is_not_foreign h.name e) refl

-- nodes that conversion makes, and the same with their css in attributes

abbrev pub made_clean : Wanted
made_clean = record clean { head = MadeClean }

styled_head : (h : Head) (b : Bool) → MadeClean h b → IsCleanHead (head_with_style h) b
styled_head h b c = record {
  named = c.made.named;
  values = rw (c.made.css_is) (made_values c.made.kind h.attrs c.made.no_style c.values);
  void = c.void;
}

pub styled_are_clean : (ns : NodesView) → HoldsOfAll made_clean false ns →
    AreCleanNodes false (styled_nodes ns)
styled_are_clean ns = holds_then {v = made_clean} {w = clean} (record {
  after = λ h i. absurd i;
  around = λ p h s i c. absurd i;
  head = λ h g e b c. rw e (styled_head h b c);
  flag = λ h g e. ap (λ x. x.pre_span) e;
  text = λ p s c. c;
  tag = λ t c. c;
  frame = λ c. c;
}) (styled_is_changed ns) false

-- they are written

no_void_faults : (span : ℕ) (ns : NodesView) → is_empty ns ≡ true → void_faults span ns ≡ []
no_void_faults span none e = refl
no_void_faults span (node n ns) e = absurd (false≢true e)

as_references : (p : Bool) → is_reference (escaping_of p) ≡ p
as_references true = refl
as_references false = refl

pub clean_nodes_are_written : CleanNodesAreWritten
unfolding node_faults
clean_nodes_are_written p none c frames pretty = refl
clean_nodes_are_written p (node (tag_node t) ns) c frames pretty =
    clean_nodes_are_written p ns c.1 frames pretty
clean_nodes_are_written p (node (text_node s span) ns) c frames pretty =
    let own : IsCleanText (is_reference (escaping_of p)) s = rw (as_references p) c.0 in
    rw no_faults_of (clean_nodes_are_written p ns c.1 frames pretty)
clean_nodes_are_written p (node (element_node h kids) ns) c frames pretty =
    let own = c.0.0 in
    let values = no_attrs_faults h.span h.attrs own.values in
    let at_once = ends_by_void h own.named in
    let more = clean_nodes_are_written p ns c.1 frames pretty in
    elim (cases_Bool (is_void h.name)) [
      | inl e ↦ rw (values, at_once, e, no_void_faults h.span kids (own.void e)) more
      | inr e ↦ rw (
        values,
        at_once,
        e,
        plain_is_not_raw h.name own.named,
        plain_is_not_escapable h.name own.named,
        clean_nodes_are_written h.pre_span kids c.0.1 frames (pretty && is_pretty_inside h kids),
      ) more
    ]
clean_nodes_are_written p (node (frame_node f) ns) c frames pretty = absurd c.0
