-- Nodes whose spaces stay, one after the other.
use Rattle.std.proofs.Common.{◌≡◌, ℕ, zero, suc, ◌+◌, ◌<◌, ◌≤◌, Bool, true, false, not, ◌&&◌, List, [], ◌∷◌, ◌++◌, Option, Some, None, map, length, drop, take, get_or, set, inl, inr, refl, sym, ap, ◌∙◌, arith, if◌then◌else◌, length-drop}
use Rattle.std.proofs.lemmas.{Bool.{and_parts, cases_Bool, false≢true}, List.{drop-drop, drop_more, drop-set-lt, map-append, take_more_set}}
use Rattle.std.specs.List.{list_all}
use Rattle.html_names_core.specs.{Characters.{is_ignorable}, Kinds.{is_replaced}}
use Rattle.html_dom_tree.specs.Tree.{Head, NodeView, tag_node, text_node, element_node, frame_node, NodesView, none, node}
use Rattle.html_dom_tree.specs.{Views.{node_view, nodes_of, nodes_view}, declared.node.HtmlNode.{HtmlNode}}
use Rattle.html_dom_flat.proofs.Flats.{joined, joined_none}
use Rattle.html_flow_convert.specs.BareSpaces.{Thing, border, visible, space, element_things, node_things, nodes_things, is_entered, is_border_element, bare_after, bare_spaces}
use Rattle.html_flow_convert.{proofs.Looks.{inside_seen, is_entered_by}, specs.{Looks.{head_look}, Nodes.{is_one}}}
use Rattle.html_flow_convert.specs.Protected.{space_count, is_bare, text_by_answer, node_by_answers, nodes_by_answers, protected_nodes}

-- how many answers are used

pub count_append : (ts us : List Thing) → space_count (ts ++ us) ≡ space_count ts + space_count us
count_append [] us = omega arith
count_append (border ∷ ts) us = count_append ts us
count_append (visible ∷ ts) us = count_append ts us
count_append (space ∷ ts) us = let more = count_append ts us in omega (arith, more)

-- an element that is not looked into uses none
shut_by : (block replaced references : Bool) (inside : List Thing) →
    (not block && not replaced && not references) ≡ false →
    space_count (if block then border ∷ []
    else (if replaced then visible ∷ [] else (if references then [] else inside))) ≡ 0
shut_by true replaced references inside e = refl
shut_by false true references inside e = refl
shut_by false false true inside e = refl
shut_by false false false inside e = cc

pub shut_count : (h : Head) (inside : List Thing) → is_entered h ≡ false →
    space_count (element_things h inside) ≡ 0
unfolding is_entered
shut_count h inside e = shut_by (is_border_element h) (is_replaced h.name) h.pre_span inside e

pub opened_things : (h : Head) (inside : List Thing) → is_entered h ≡ true →
    element_things h inside ≡ inside
opened_things h inside e = sym (inside_seen h (head_look h) inside refl (sym (is_entered_by h) ∙ e))

answer_count : (before : Option Thing) (ts : List Thing) →
    length (bare_after before ts) ≡ space_count ts
unfolding bare_after
answer_count before [] = refl
answer_count before (border ∷ ts) = answer_count (Some border) ts
answer_count before (visible ∷ ts) = answer_count (Some visible) ts
answer_count before (space ∷ ts) =
    let more = answer_count (Some space) ts in omega (arith, more)

-- nodes whose lone spaces are all bare stay

abbrev are_bare : List Bool → Bool
are_bare = list_all (λ b. b)

bare_later : (k : ℕ) (bs : List Bool) → are_bare bs ≡ true → are_bare (drop k bs) ≡ true
bare_later zero bs e = e
bare_later (suc k) [] e = e
bare_later (suc k) (b ∷ bs) e = bare_later k bs (and_parts b (are_bare bs) e).1

kept_text : (one ignorable : Bool) (bs : List Bool) (s : List ℕ) (span : ℕ) → are_bare bs ≡ true →
    space_count (if one then space ∷ [] else (if ignorable then [] else visible ∷ [])) ≤ length bs →
    (if one then text_by_answer (is_bare bs) s span else text_node s span) ≡ text_node s span
kept_text true ignorable [] s span e few = absurd (omega (arith, few))
kept_text true ignorable (true ∷ bs) s span e few = refl
kept_text true ignorable (false ∷ bs) s span e few = absurd (false≢true e)
kept_text false ignorable bs s span e few = refl

mutual
  unfolding node_things node_by_answers

  kept_node : (n : NodeView) (bs : List Bool) → are_bare bs ≡ true →
      space_count (node_things n) ≤ length bs → node_by_answers bs n ≡ n
  kept_node (tag_node t) bs e few = refl
  kept_node (text_node s span) bs e few =
      kept_text (is_one 32 s) (list_all is_ignorable s) bs s span e few
  kept_node (element_node h ns) bs e few = elim (cases_Bool (is_entered h)) [
    | inl t ↦
        let same = ap space_count (opened_things h (nodes_things ns) t) in
        rw t (ap (element_node h) (kept_nodes ns bs e (omega (arith, same, few))))
    | inr f ↦ rw f refl
  ]
  kept_node (frame_node f) bs e few = refl

  kept_nodes : (ns : NodesView) (bs : List Bool) → are_bare bs ≡ true →
      space_count (nodes_things ns) ≤ length bs → nodes_by_answers bs ns ≡ ns
  kept_nodes none bs e few = refl
  kept_nodes (node n ns) bs e few =
      let own = space_count (node_things n) in
      let both = count_append (node_things n) (nodes_things ns) in
      let left = length-drop own bs in
      rw (kept_node n bs e (omega (arith, both, few))) (ap (node n)
      (kept_nodes ns (drop own bs) (bare_later own bs e) (omega (arith, both, left, few))))

pub kept_all : (ns : NodesView) → are_bare (bare_spaces ns) ≡ true → ns ≡ protected_nodes ns
kept_all ns e =
    sym (kept_nodes ns (bare_spaces ns) e (omega (arith, answer_count None (nodes_things ns))))

-- one element

pub shut_element : (h : Head) (ns : NodesView) (bs : List Bool) → is_entered h ≡ false →
    (element_node h ns ≡ node_by_answers bs (element_node h ns))
    × (bs ≡ drop (space_count (element_things h (nodes_things ns))) bs)
unfolding node_by_answers
shut_element h ns bs e =
    let none_used = shut_count h (nodes_things ns) e in (rw e refl, rw none_used refl)

pub open_element : (h : Head) (ns : NodesView) (bs : List Bool) → is_entered h ≡ true →
    (element_node h (nodes_by_answers bs ns) ≡ node_by_answers bs (element_node h ns))
    × (nodes_things ns ≡ element_things h (nodes_things ns))
unfolding node_by_answers
open_element h ns bs e = (rw e refl, sym (opened_things h (nodes_things ns) e))

-- one node after the other

joined_append : (xs : List NodeView) (m : NodeView) (ms : NodesView) →
    joined (nodes_of (xs ++ m ∷ [])) ms ≡ joined (nodes_of xs) (node m ms)
joined_append [] m ms = refl
joined_append (x ∷ xs) m ms = ap (node x) (joined_append xs m ms)

joined_pushed : (made new : List HtmlNode) (m : HtmlNode) (ms : NodesView) → new ≡ made ++ m ∷ [] →
    joined (nodes_view new) ms ≡ joined (nodes_view made) (node (node_view m) ms)
joined_pushed made new m ms e = rw (e, map-append node_view made (m ∷ []))
    (joined_append (map node_view made) (node_view m) ms)

-- a node is changed where it stands
pub protect_in_place : (ns : List HtmlNode) (i : ℕ) (d m : HtmlNode) (bs : List Bool)
    {new : List HtmlNode} {new_bs all : List Bool} {whole : NodesView} → i < length ns →
    new ≡ set ns i m → node_view m ≡ node_by_answers bs (node_view (get_or ns i d)) →
    new_bs ≡ drop (space_count (node_things (node_view (get_or ns i d)))) bs →
    joined (nodes_view (take i ns)) (nodes_by_answers bs (nodes_view (drop i ns))) ≡ whole →
    drop (space_count (nodes_things (nodes_view (drop i ns)))) bs ≡ all →
    (joined (nodes_view (take (i + 1) new)) (nodes_by_answers new_bs (nodes_view (drop (i + 1) new)))
    ≡ whole) × (drop (space_count (nodes_things (nodes_view (drop (i + 1) new)))) new_bs ≡ all)
unfolding node_things node_by_answers
protect_in_place ns i d m bs {new} h is made_is rest_is agrees rest =
    let n = node_view (get_or ns i d) in
    let left = nodes_view (drop (i + 1) ns) in
    let later : drop (i + 1) new ≡ drop (i + 1) ns =
    ap (drop (i + 1)) is ∙ drop-set-lt (i + 1) ns i m (omega arith) in
    let used = space_count (node_things n) in
    let first = ap (take (i + 1)) is ∙ take_more_set ns i m h in (
      rw (later, rest_is) (joined_pushed (take i ns) (take (i + 1) new) m _ first
          ∙ rw made_is (rw (drop_more ns i d h) at agrees)),
      rw (later, rest_is) (rw (
        drop-drop (space_count (nodes_things left)) used bs,
        ← count_append (node_things n) (nodes_things left),
      ) (rw (drop_more ns i d h) at rest)),
    )

pub protect_end : (made items : List HtmlNode) (bs all : List Bool) (whole : NodesView) →
    items ≡ [] → joined (nodes_view made) (nodes_by_answers bs (nodes_view items)) ≡ whole →
    drop (space_count (nodes_things (nodes_view items))) bs ≡ all →
    (nodes_view made ≡ whole) × (bs ≡ all)
unfolding node_things node_by_answers
protect_end made items bs all whole empty agrees rest =
    (sym (joined_none (nodes_view made)) ∙ rw empty at agrees, rw empty at rest)
