-- A cursor counts what the definition counts.
use Rattle.std.proofs.Common.{◌≡◌, ℕ, suc, ◌+◌, List, [], ◌∷◌, Bool, true, false, if◌then◌else◌, length, refl, sym, ap, ◌∙◌, arith}
use Rattle.std.specs.List.{zip}
use Rattle.html_dom_tree.specs.Tree.{NodeView, tag_node, text_node, element_node, frame_node, NodesView, none, node}
use Rattle.html_dom_tree.specs.{Views.{node_view, nodes_view}, declared.node.HtmlNode.{HtmlNode}}
use Rattle.html_dom_document.specs.Cursor.{element_index, index_at, past_element, cursor_after, nodes_with_indices}
use Rattle.html_dom_document.specs.DomIndices.{◌then◌, element_count, run_count, ended_run_count, dom_index, dom_indices_after}
use Rattle.html_dom_document.specs.declared.cursor.Cursor.{Cursor}

-- whether a text stands since the last element or frame
abbrev in_run : (after_text : Bool) → NodesView → Bool
in_run b none = b
in_run b (node (tag_node t) ns) = in_run b ns
in_run b (node (text_node s span) ns) = in_run true ns
in_run b (node (element_node h children) ns) = in_run false ns
in_run b (node (frame_node f) ns) = in_run false ns

abbrev one : Bool → ℕ
one b = if b then 1 else 0

-- a run has ended or goes on; one that was open before is counted among the ended alone
runs_are : (b : Bool) (ns : NodesView) →
    one b + run_count b ns ≡ ended_run_count b ns + one (in_run b ns)
runs_are true none = refl
runs_are false none = refl
runs_are b (node (tag_node t) ns) = runs_are b ns
runs_are true (node (text_node s span) ns) =
    let e : 1 + run_count true ns ≡ ended_run_count true ns + one (in_run true ns)
    = runs_are true ns in omega (arith, e)
runs_are false (node (text_node s span) ns) =
    let e : 1 + run_count true ns ≡ ended_run_count true ns + one (in_run true ns)
    = runs_are true ns in omega (arith, e)
runs_are b (node (element_node h children) ns) =
    let e : 0 + run_count false ns ≡ ended_run_count false ns + one (in_run false ns)
    = runs_are false ns in omega (arith, e)
runs_are b (node (frame_node f) ns) =
    let e : 0 + run_count false ns ≡ ended_run_count false ns + one (in_run false ns)
    = runs_are false ns in omega (arith, e)

elements_then : (ns ms : NodesView) →
    element_count (ns then ms) ≡ element_count ns + element_count ms
elements_then none ms = omega arith
elements_then (node (tag_node t) ns) ms = elements_then ns ms
elements_then (node (text_node s span) ns) ms = elements_then ns ms
elements_then (node (element_node h children) ns) ms =
    let e : element_count (ns then ms) ≡ element_count ns + element_count ms
    = elements_then ns ms in omega (arith, e)
elements_then (node (frame_node f) ns) ms =
    let e : element_count (ns then ms) ≡ element_count ns + element_count ms
    = elements_then ns ms in omega (arith, e)

ended_then : (b : Bool) (ns ms : NodesView) →
    ended_run_count b (ns then ms) ≡ ended_run_count b ns + ended_run_count (in_run b ns) ms
ended_then b none ms = omega arith
ended_then b (node (tag_node t) ns) ms = ended_then b ns ms
ended_then b (node (text_node s span) ns) ms = ended_then true ns ms
ended_then b (node (element_node h children) ns) ms =
    let e : ended_run_count false (ns then ms)
    ≡ ended_run_count false ns + ended_run_count (in_run false ns) ms
    = ended_then false ns ms in omega (arith, e)
ended_then b (node (frame_node f) ns) ms =
    let e : ended_run_count false (ns then ms)
    ≡ ended_run_count false ns + ended_run_count (in_run false ns) ms
    = ended_then false ns ms in omega (arith, e)

in_run_then : (b : Bool) (ns ms : NodesView) → in_run b (ns then ms) ≡ in_run (in_run b ns) ms
in_run_then b none ms = refl
in_run_then b (node (tag_node t) ns) ms = in_run_then b ns ms
in_run_then b (node (text_node s span) ns) ms = in_run_then true ns ms
in_run_then b (node (element_node h children) ns) ms = in_run_then false ns ms
in_run_then b (node (frame_node f) ns) ms = in_run_then false ns ms

abbrev pub reached : NodesView → Cursor
reached before = record {
  passed = element_count before + ended_run_count false before;
  after_text = in_run false before;
}

element_index_is : (before : NodesView) →
    element_index (reached before) ≡ element_count before + run_count false before
element_index_is before = by_run (in_run false before) refl
  where
    by_run : (b : Bool) → in_run false before ≡ b →
        element_index (record {
          passed = element_count before + ended_run_count false before;
          after_text = b;
        }) ≡ element_count before + run_count false before
    by_run true e =
        let so : 0 + run_count false before ≡ ended_run_count false before + 1
        = runs_are false before ∙ ap (λ b. ended_run_count false before + one b) e in
        omega (arith, so)
    by_run false e =
        let so : 0 + run_count false before ≡ ended_run_count false before + 0
        = runs_are false before ∙ ap (λ b. ended_run_count false before + one b) e in
        omega (arith, so)

pub index_is : (before : NodesView) (n : NodeView) →
    index_at (reached before) n ≡ dom_index before n
index_is before (tag_node t) = refl
index_is before (text_node s span) = refl
index_is before (element_node h children) = element_index_is before
index_is before (frame_node f) = element_index_is before

abbrev cursor : ℕ → Bool → Cursor
cursor passed after_text = record { passed = passed; after_text = after_text }

same_cursor : (p q : ℕ) (a b : Bool) → p ≡ q → a ≡ b → cursor p a ≡ cursor q b
same_cursor p q a b e f = ap (λ r. cursor r a) e ∙ ap (cursor q) f

-- past a node that is no element
past_small : (before : NodesView) (n : NodeView) (after_text : Bool) →
    element_count (node n none) ≡ 0 → ended_run_count (in_run false before) (node n none) ≡ 0 →
    in_run (in_run false before) (node n none) ≡ after_text →
    cursor (element_count before + ended_run_count false before) after_text
    ≡ reached (before then node n none)
past_small before n after_text no_element no_end run =
    let e = elements_then before (node n none) in
    let f = ended_then false before (node n none) in
    same_cursor _ _ _ _ (omega (arith, e, f, no_element, no_end))
    (sym run ∙ sym (in_run_then false before (node n none)))

-- past an element or a frame
past_large : (before : NodesView) (n : NodeView) →
    element_count (node n none) ≡ 1 →
    ended_run_count (in_run false before) (node n none) ≡ one (in_run false before) + 0 →
    in_run (in_run false before) (node n none) ≡ false →
    past_element (reached before) ≡ reached (before then node n none)
past_large before n element ends run =
    let e = elements_then before (node n none) in
    let f = ended_then false before (node n none) in
    let g : 0 + run_count false before ≡ ended_run_count false before + one (in_run false before)
    = runs_are false before in
    let h = element_index_is before in
    same_cursor _ _ _ _ (omega (arith, e, f, g, h, element, ends))
    (sym run ∙ sym (in_run_then false before (node n none)))

pub moved_is : (before : NodesView) (n : NodeView) →
    cursor_after (reached before) n ≡ reached (before then node n none)
moved_is before (tag_node t) = past_small before (tag_node t) (in_run false before) refl refl refl
moved_is before (text_node s span) = past_small before (text_node s span) true refl refl refl
moved_is before x = past_large before x refl refl refl

pub numbered_is : (ns : List HtmlNode) (before : NodesView) →
    nodes_with_indices (reached before) ns ≡ zip ns (dom_indices_after before (nodes_view ns))
numbered_is [] before = refl
numbered_is (n ∷ ns) before =
    let v = node_view n in
    ap (λ i. (n, i) ∷ nodes_with_indices (cursor_after (reached before) v) ns) (index_is before v)
    ∙ ap (λ pairs. (n, dom_index before v) ∷ pairs)
    (ap (λ c. nodes_with_indices c ns) (moved_is before v) ∙ numbered_is ns (before then node v none))

pub numbered-length : (c : Cursor) (ns : List HtmlNode) → length (nodes_with_indices c ns) ≡ length ns
numbered-length c [] = refl
numbered-length c (n ∷ ns) = ap suc (numbered-length (cursor_after c (node_view n)) ns)
