-- The stack at the start of a list holds the nodes that the list spells.
use Rattle.std.proofs.Common.{◌≡◌, ℕ, zero, suc, ◌+◌, ◌-◌, ◌<◌, Bool, true, false, if◌then◌else◌, nat_lt, List, [], ◌∷◌, ◌++◌, refl, subst, sym, ◌∙◌, arith, length, drop, get_or, None}
use Rattle.std.proofs.lemmas.{Bool.{ltb-true, lt-ltb}, List.{drop_all, drop_more, drop-map, length-map, map-append, reverse-append}}
use Rattle.html_names_table.specs.NameTables.{NamesView}
use Rattle.html_dom_tree.specs.{Tree.{NodeView, NodesView, none}, Views.{nodes_of}, declared.node.HtmlNode.{HtmlNode}}
use Rattle.html_dom_flat.specs.Flat.{FlatNodeView, flat_tag, flat_text, flat_frame, flat_element, node_count, nodes_count, front, back, spelled_nodes}
use Rattle.html_dom_flat.specs.FlatViews.{flat_node_view, flat_nodes_view}
use Rattle.html_dom_flat.specs.Stacks.{IndexedView, indexed_view, stack_view, stack_nodes, is_top_before, stacked_before, IsPopped, rest_after, made_of, list_stack}
use Rattle.html_dom_flat.specs.declared.flat_node.FlatNode.{FlatNode}

-- the nodes stand one after another, the first at that index
abbrev IsLaid : (index : ℕ) → List IndexedView → Type 0
IsLaid index [] = Unit {0}
IsLaid index (x ∷ xs) = (x.0 ≡ index) × IsLaid (index + node_count x.1) xs

-- the first of them, which have so many nodes, are taken, and the others are left
record Taken (count index : ℕ) (all : NodesView) (nodes : List NodeView) (rest : List IndexedView) :
    Type 0 where
  pub first : nodes_of nodes ≡ front count all
  pub others : stack_nodes rest ≡ back count all
  pub laid : IsLaid (index + nodes_count (nodes_of nodes)) rest

front_none : (count : ℕ) → front count none ≡ none
unfolding front
front_none zero = refl
front_none (suc count) = refl

back_none : (count : ℕ) → back count none ≡ none
unfolding back
back_none zero = refl
back_none (suc count) = refl

taken_step : (past index : ℕ) (x : IndexedView) (xs : List IndexedView) (b : Bool) (count : ℕ) →
    nat_lt x.0 past ≡ b → past - index ≡ count → IsLaid index (x ∷ xs) →
    Taken (past - (index + node_count x.1)) (index + node_count x.1) (stack_nodes xs)
    (stacked_before past xs) (rest_after past xs) →
    Taken count index (stack_nodes (x ∷ xs)) (if b then x.1 ∷ stacked_before past xs else [])
    (if b then rest_after past xs else x ∷ xs)
unfolding front back node_count
taken_step past index x xs true zero test is laid later =
    absurd (omega (arith, ltb-true _ _ test, is, laid.0))
taken_step past index x xs true (suc count) test is laid later =
    let less : past - (index + node_count x.1) ≡ suc count - node_count x.1 = omega (arith, is) in
    let counted : index + node_count x.1 + nodes_count (nodes_of (stacked_before past xs))
    ≡ index + (node_count x.1 + nodes_count (nodes_of (stacked_before past xs))) = omega arith in
    record {
      first = rw (later.first, less) refl;
      others = rw (later.others, less) refl;
      laid = subst (λ p. IsLaid p (rest_after past xs)) counted later.laid;
    }
taken_step past index x xs false zero test is laid later =
    record {
      first = refl;
      others = refl;
      laid = let same : index ≡ index + 0 = omega arith in subst (λ p. IsLaid p (x ∷ xs)) same laid;
    }
taken_step past index x xs false (suc count) test is laid later =
    let below : x.0 < past = omega (arith, is, laid.0) in
    absurd (let no : false ≡ true = sym test ∙ lt-ltb _ _ below in cc)

taken : (past index : ℕ) (xs : List IndexedView) → IsLaid index xs →
    Taken (past - index) index (stack_nodes xs) (stacked_before past xs) (rest_after past xs)
unfolding stacked_before rest_after
taken past index [] laid =
    let k = past - index in
    record { first = sym (front_none k); others = sym (back_none k); laid = tt }
taken past index (x ∷ xs) laid =
    taken_step past index x xs (nat_lt x.0 past) (past - index) refl refl laid
    (taken past (index + node_count x.1) xs laid.1)

record Stacked (index : ℕ) (fs : List FlatNodeView) : Type 0 where
  pub same : stack_nodes (list_stack index fs) ≡ spelled_nodes index fs
  pub laid : IsLaid index (list_stack index fs)

stacked_all : (index : ℕ) (fs : List FlatNodeView) → Stacked index fs
unfolding list_stack spelled_nodes node_count
stacked_all index [] = record { same = refl; laid = tt }
stacked_all index (flat_tag t ∷ fs) =
    let later = stacked_all (index + 1) fs in
    record { same = rw later.same refl; laid = (refl, later.laid) }
stacked_all index (flat_text s span ∷ fs) =
    let later = stacked_all (index + 1) fs in
    record { same = rw later.same refl; laid = (refl, later.laid) }
stacked_all index (flat_frame f ∷ fs) =
    let later = stacked_all (index + 1) fs in
    record { same = rw later.same refl; laid = (refl, later.laid) }
stacked_all index (flat_element h past ∷ fs) =
    let later = stacked_all (index + 1) fs in
    let stack = list_stack (index + 1) fs in
    let parts = taken past (index + 1) stack later.laid in
    let inside = nodes_count (nodes_of (stacked_before past stack)) in
    let counted : index + 1 + inside ≡ index + (1 + inside) = omega arith in
    record {
      same = rw (parts.first, parts.others, later.same) refl;
      laid = (refl, subst (λ p. IsLaid p (rest_after past stack)) counted parts.laid);
    }

pub stack_spells : (index : ℕ) (fs : List FlatNodeView) →
    stack_nodes (list_stack index fs) ≡ spelled_nodes index fs
stack_spells index fs = (stacked_all index fs).same

pub stack_push : (stack : List (ℕ × HtmlNode)) (x : ℕ × HtmlNode) →
    stack_view (stack ++ x ∷ []) ≡ indexed_view x ∷ stack_view stack
stack_push stack x = rw (map-append, reverse-append) refl

drop_at : (names : NamesView) (nodes : List FlatNode) (index : ℕ) (d : FlatNode) →
    index < length nodes → drop index (flat_nodes_view names nodes)
    ≡ flat_node_view names (get_or nodes index d) ∷ drop (index + 1) (flat_nodes_view names nodes)
drop_at names nodes index d below =
    let f = flat_node_view names in
    rw (drop-map f index nodes, drop-map f (index + 1) nodes, drop_more nodes index d below) refl

pub stacked_more : (names : NamesView) (nodes : List FlatNode) (index : ℕ) (d : FlatNode)
    (old mid new : List (ℕ × HtmlNode)) (made : HtmlNode) → index < length nodes →
    stack_view old ≡ list_stack (index + 1) (drop (index + 1) (flat_nodes_view names nodes)) →
    ((indexed_view (index, made)).1, stack_view mid)
    ≡ made_of (flat_node_view names (get_or nodes index d)) (stack_view old) →
    new ≡ mid ++ (index, made) ∷ [] →
    stack_view new ≡ list_stack index (drop index (flat_nodes_view names nodes))
unfolding list_stack
stacked_more names nodes index d old mid new made below before makes puts =
    let here = drop_at names nodes index d below in
    rw (puts, stack_push mid (index, made), here, ← before, ← makes) refl

pub popped_before : (past index : ℕ) (n : NodeView) (xs : List IndexedView) →
    nat_lt index past ≡ true → stacked_before past ((index, n) ∷ xs) ≡ n ∷ stacked_before past xs
unfolding stacked_before
popped_before past index n xs test = rw test refl

pub popped_after : (past index : ℕ) (n : NodeView) (xs : List IndexedView) →
    nat_lt index past ≡ true → rest_after past ((index, n) ∷ xs) ≡ rest_after past xs
unfolding rest_after
popped_after past index n xs test = rw test refl

pub none_popped : (past : ℕ) (xs : List IndexedView) → is_top_before past xs ≡ false →
    IsPopped past xs xs None
unfolding stacked_before rest_after
none_popped past [] test = (refl, refl, refl)
none_popped past (x ∷ xs) test = (rw test refl, rw test refl, refl)

pub stacked_none : (names : NamesView) (nodes : List FlatNode) →
    list_stack (length nodes) (drop (length nodes) (flat_nodes_view names nodes)) ≡ []
unfolding list_stack
stacked_none names nodes = rw (drop_all (length nodes) (flat_nodes_view names nodes)
    (omega (arith, length-map nodes (flat_node_view names)))) refl
