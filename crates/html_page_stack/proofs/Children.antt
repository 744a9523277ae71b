-- Elements with one child more: whether some child is an element, and texts that are not empty.
use Rattle.std.proofs.Common.{◌≡◌, ◌<◌, arith, ℕ, zero, suc, Bool, true, false, ◌||◌, inl, inr, List, [], ◌∷◌, ◌++◌, refl, sym, ap, ◌∙◌, eqb, get_or, length, set, chars}
use Rattle.std.proofs.{Math.Dec.{eqb-suc-zero}, StrCases.{chars_of_empty}}
use Rattle.std.{proofs.Math.Bool.{or-false}, proofs.lemmas.Bool.{cases_Bool, eqb-true, false≢true}, proofs.lemmas.Str.{encodes-chars}, specs.Str.{IsUtf8}}
use lib.Utf8.{encodes}
use Rattle.html_dom_tree.specs.Tree.{Head, tag_node, text_node, element_node, frame_node, NodeView, NodesView, none, node, with_last}
use Rattle.html_dom_tree.specs.{Views.{node_view, nodes_view}, declared.node.HtmlNode.{HtmlNode}}
use Rattle.html_page_stack.specs.OpenElements.{OpenElement, end_in_text, has_elements, is_text, joined, longer, with_head_child, with_inner_child, with_last_nodes, with_longer_last, with_text}

last_counts_not : (ns : NodesView) (text : List ℕ) (span : ℕ) →
    has_elements (with_last ns (text_node text span)) ≡ has_elements ns
last_counts_not none text span = refl
last_counts_not (node (tag_node t) ns) text span = last_counts_not ns text span
last_counts_not (node (text_node s n) ns) text span = last_counts_not ns text span
last_counts_not (node (element_node h children) ns) text span = refl
last_counts_not (node (frame_node f) ns) text span = last_counts_not ns text span

longer_counts : (n : NodeView) (more : List ℕ) →
    has_elements (node (longer more n) none) ≡ has_elements (node n none)
longer_counts (tag_node t) more = refl
longer_counts (text_node s span) more = refl
longer_counts (element_node h children) more = refl
longer_counts (frame_node f) more = refl

last_longer_counts : (ns : NodesView) (more : List ℕ) →
    has_elements (with_longer_last more ns) ≡ has_elements ns
last_longer_counts none more = refl
last_longer_counts (node n none) more = longer_counts n more
last_longer_counts (node (tag_node t) (node m ms)) more = last_longer_counts (node m ms) more
last_longer_counts (node (text_node s span) (node m ms)) more = last_longer_counts (node m ms) more
last_longer_counts (node (element_node h children) (node m ms)) more = refl
last_longer_counts (node (frame_node f) (node m ms)) more = last_longer_counts (node m ms) more

-- a text more is no element more, whether it joins another or not
pub text_counts : (ns : NodesView) (text : List ℕ) (span : ℕ) →
    has_elements (joined text span ns) ≡ has_elements ns
text_counts ns text span = elim (cases_Bool (end_in_text ns)) [
  | inl e ↦ rw e (last_longer_counts ns text)
  | inr e ↦ rw e (last_counts_not ns text span)
]

-- whether the last of the nodes is a text
pub last_is_text : (ns : List HtmlNode) (n : HtmlNode) →
    end_in_text (nodes_view (ns ++ n ∷ [])) ≡ is_text (node_view n)
last_is_text [] n = refl
last_is_text (m ∷ []) n = refl
last_is_text (m ∷ k ∷ ks) n = last_is_text (k ∷ ks) n

-- where the last node is the one that changes
pub last_changed : (ns : List HtmlNode) (old : HtmlNode) (at : ℕ) → suc at ≡ length ns →
    old ≡ get_or ns at old → (more : List ℕ) (new : HtmlNode) →
    node_view new ≡ longer more (node_view old) →
    nodes_view (set ns at new) ≡ with_longer_last more (nodes_view ns)
last_changed [] old at e is more new h = absurd (omega (arith, e))
last_changed (n ∷ []) old zero e is more new h = ap (λ v. node v none)
    (h ∙ ap (λ m. longer more (node_view m)) is)
last_changed (n ∷ []) old (suc at) e is more new h = absurd (omega (arith, e))
last_changed (n ∷ m ∷ ms) old zero e is more new h = absurd (omega (arith, e))
last_changed (n ∷ m ∷ ms) old (suc at) e is more new h =
    ap (node (node_view n)) (last_changed (m ∷ ms) old at (omega (arith, e)) is more new h)

pub element_counts : (ns : NodesView) (h : Head) (children : NodesView) →
    has_elements (with_last ns (element_node h children)) ≡ true
element_counts none h children = refl
element_counts (node (tag_node t) ns) h children = element_counts ns h children
element_counts (node (text_node s n) ns) h children = element_counts ns h children
element_counts (node (element_node g kids) ns) h children = refl
element_counts (node (frame_node f) ns) h children = element_counts ns h children

pub head_counts : (ns : NodesView) (child : NodeView) →
    has_elements (with_head_child child ns) ≡ has_elements ns
head_counts none child = refl
head_counts (node (tag_node t) ns) child = refl
head_counts (node (text_node s n) ns) child = refl
head_counts (node (element_node g kids) ns) child = refl
head_counts (node (frame_node f) ns) child = refl

last_counts : (ns : NodesView) (n : NodeView) →
    has_elements (with_last ns n) ≡ (has_elements ns || has_elements (node n none))
last_counts none n = refl
last_counts (node (tag_node t) ns) n = last_counts ns n
last_counts (node (text_node s span) ns) n = last_counts ns n
last_counts (node (element_node h kids) ns) n = refl
last_counts (node (frame_node f) ns) n = last_counts ns n

one_counts : (n : NodeView) (ms : NodesView) →
    has_elements (node n ms) ≡ (has_elements (node n none) || has_elements ms)
one_counts (tag_node t) ms = refl
one_counts (text_node s span) ms = refl
one_counts (element_node h kids) ms = refl
one_counts (frame_node f) ms = refl

or_or : (a b c : Bool) → ((a || b) || c) ≡ (a || (b || c))
or_or true b c = refl
or_or false b c = refl

pub nodes_count : (ns ms : NodesView) →
    has_elements (with_last_nodes ns ms) ≡ (has_elements ns || has_elements ms)
nodes_count ns none = sym (or-false (has_elements ns))
nodes_count ns (node m ms) = nodes_count (with_last ns m) ms
    ∙ (ap (λ b. b || has_elements ms) (last_counts ns m)
    ∙ (or_or (has_elements ns) (has_elements (node m none)) (has_elements ms)
    ∙ ap (λ b. has_elements ns || b) (sym (one_counts m ms))))

-- where the first node is the one with a child more
pub first_changed : (ns : List HtmlNode) (old : HtmlNode) → 0 < length ns → old ≡ get_or ns 0 old →
    (child : NodeView) (new : HtmlNode) → node_view new ≡ with_inner_child child (node_view old) →
    nodes_view (set ns 0 new) ≡ with_head_child child (nodes_view ns)
first_changed [] old some is child new e = absurd (omega arith)
first_changed (n ∷ ns) old some is child new e = ap (λ v. node v (nodes_view ns))
    (e ∙ ap (λ m. with_inner_child child (node_view m)) is)

pub last_kept : (ns : List HtmlNode) (old : HtmlNode) (at : ℕ) → suc at ≡ length ns →
    old ≡ get_or ns at old → (new : HtmlNode) → node_view new ≡ node_view old →
    nodes_view (set ns at new) ≡ nodes_view ns
last_kept [] old at e is new h = absurd (omega (arith, e))
last_kept (n ∷ []) old zero e is new h = ap (λ v. node v none) (h ∙ ap node_view is)
last_kept (n ∷ []) old (suc at) e is new h = absurd (omega (arith, e))
last_kept (n ∷ m ∷ ms) old zero e is new h = absurd (omega (arith, e))
last_kept (n ∷ m ∷ ms) old (suc at) e is new h =
    ap (node (node_view n)) (last_kept (m ∷ ms) old at (omega (arith, e)) is new h)

text_by : (cs bs : List ℕ) (o : OpenElement) → encodes cs ≡ bs → eqb (length bs) 0 ≡ false →
    with_text cs o ≡ record o { children = joined cs o.head.span o.children }
text_by [] bs o e h = absurd (false≢true (sym h ∙ ap (λ l. eqb (length l) 0) (sym e)))
text_by (c ∷ cs) bs o e h = refl

some_chars : (cs bs : List ℕ) → encodes cs ≡ bs → eqb (length bs) 0 ≡ false →
    eqb (length cs) 0 ≡ false
some_chars [] bs e h = absurd (false≢true (sym h ∙ ap (λ l. eqb (length l) 0) (sym e)))
some_chars (c ∷ cs) bs e h = eqb-suc-zero (length cs)

-- whether a text is empty, by its bytes
pub empty_by : (bs : List ℕ) → IsUtf8 bs → eqb (length (chars bs)) 0 ≡ eqb (length bs) 0
empty_by bs u = elim (cases_Bool (eqb (length bs) 0)) [
  | inl e ↦ ap (λ cs. eqb (length cs) 0) (chars_of_empty bs (eqb-true _ 0 e)) ∙ sym e
  | inr e ↦ some_chars (chars bs) bs (encodes-chars bs u) e ∙ sym e
]

-- a text that is not empty, by its bytes
pub some_text : (bs : List ℕ) (o : OpenElement) → IsUtf8 bs → eqb (length bs) 0 ≡ false →
    with_text (chars bs) o ≡ record o { children = joined (chars bs) o.head.span o.children }
some_text bs o u h = text_by (chars bs) bs o (encodes-chars bs u) h
