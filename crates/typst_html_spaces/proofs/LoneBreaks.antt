-- Nodes of which one line break is all: only items of which it is all become such nodes.
use Rattle.std.proofs.Common.{◌≡◌, ◌⊎◌, ℕ, Bool, true, false, ◌==◌, cond, List, [], ◌∷◌, ◌++◌, map, codes, Some, inl, inr, refl, ap, ◌∙◌, sym, eqb-true}
use Rattle.std.{proofs.lemmas.Bool.{cases_Bool, false≢true}, specs.List.{filter}}
use Rattle.html_names_core.specs.{Kinds.{is_line_break}, Names.{stands_in}}
use Rattle.html_dom_tree.specs.Tree.{Head, NodeView, tag_node, element_node, NodesView, none, node}
use Rattle.html_dom_tree.specs.Views.{nodes_of}
use Rattle.html_dom_shown.specs.Collapsing.{Piece, char, thing, line, edge}
use Rattle.html_flow_convert.specs.{BareSpaces.{bare_spaces}, Converted.{text_item_nodes, list_nodes}}
use Rattle.html_flow_convert.specs.Items.{ItemView, text_item, ItemsView, no_items, item, BodyView, absent, present}
use Rattle.html_flow_convert.specs.LoneNode.{node_list, lone_node, DisplayChangeView, node_with_display}
use Rattle.html_flow_convert.specs.Pieces.{PieceView, line_break, piece_node, pieces}
use Rattle.html_flow_convert.specs.Runs.{is_blank_node, are_kept, run_nodes, nodes_with_runs}
use Rattle.html_flow_convert.specs.declared.convert.{ConversionLevel.{ConversionLevel}, Whitespace.{Whitespace}}
use Rattle.html_flow_convert.specs.declared.convert.{ConversionLevel.TheVariants.{Block, Inline}, Whitespace.TheVariants.{Normal, Pre}}
use Rattle.typst_html_spaces.proofs.{Changed.{IsWrap, wrapped, wraps, protected_is_changed}, LoneNode.{of_tags, of_lone}}
use Rattle.typst_html_spaces.proofs.{OwnPieces.{list_pieces}, Runs.{with_runs}, TextPieces.{text_item_pieces}}
use Rattle.typst_html_spaces.specs.{Changed.{Changed, at_tag, after_tag, around_text, at_element}, ItemText.{chars_by_line}}
use Rattle.typst_html_spaces.specs.PlainFlow.{is_unseen_item, are_unseen_items, is_break, are_one_break, is_one_break}

-- what a list holds, tags aside
pub data Content : Type 0 where
  nothing : Content
  one_break : Content
  other : Content

abbrev pub add : Content → Content → Content
add nothing w = w
add one_break nothing = one_break
add one_break one_break = other
add one_break other = other
add other w = other

add_nothing : (v : Content) → add v nothing ≡ v
add_nothing nothing = refl
add_nothing v = refl

add_other : (v : Content) → add v other ≡ other
add_other nothing = refl
add_other v = refl

add_assoc : (u v w : Content) → add (add u v) w ≡ add u (add v w)
add_assoc one_break one_break one_break = refl
add_assoc u v w = refl

two_breaks : (w : Content) → add one_break (add one_break w) ≡ other
two_breaks nothing = refl
two_breaks w = refl

abbrev pub node_content : NodeView → Content
node_content (tag_node t) = nothing
node_content (element_node h ns) = cond (is_line_break h.name) one_break other
node_content n = other

abbrev pub nodes_content : NodesView → Content
nodes_content none = nothing
nodes_content (node n ns) = add (node_content n) (nodes_content ns)

abbrev pub list_content : List NodeView → Content
list_content ns = nodes_content (nodes_of ns)

pub list_content-append : (xs ys : List NodeView) →
    list_content (xs ++ ys) ≡ add (list_content xs) (list_content ys)
list_content-append [] ys = refl
list_content-append (x ∷ xs) ys =
    ap (add (node_content x)) (list_content-append xs ys)
    ∙ sym (add_assoc (node_content x) (list_content xs) (list_content ys))

-- runs of blanks

blank_content : (n : NodeView) → is_blank_node n ≡ true → node_content n ≡ other
blank_content (tag_node t) e = absurd (false≢true e)
blank_content (element_node h ns) e = absurd (false≢true e)
blank_content n e = refl

kept_content : (ns : List NodeView) → are_kept (filter is_blank_node ns) ≡ true →
    list_content ns ≡ other
kept_content [] e = absurd (false≢true e)
kept_content (n ∷ ns) e =
    elim (cases_Bool (is_blank_node n)) [
      | inl b ↦ ap (λ v. add v (list_content ns)) (blank_content n b)
      | inr b ↦
          let f : are_kept (filter is_blank_node ns) ≡ true = rw b at e in
          ap (add (node_content n)) (kept_content ns f) ∙ add_other (node_content n)
    ]

run_content : (ns : List NodeView) → list_content (run_nodes ns) ≡ list_content ns
unfolding stands_in
run_content ns =
    elim (cases_Bool (are_kept (filter is_blank_node ns))) [
      | inl e ↦ rw e (sym (kept_content ns e))
      | inr e ↦ rw e refl
    ]

-- spaces in spans of their own

wrapped_content : {h : Head} {s : List ℕ} → IsWrap h s → is_line_break h.name ≡ false
unfolding stands_in
wrapped_content (wrapped span e) = refl

wraps_content : {ns ms : NodesView} → Changed wraps ns ms → nodes_content ms ≡ nodes_content ns
wraps_content (at_tag d) = wraps_content d
wraps_content (after_tag i d) = absurd i
wraps_content (around_text i d) = rw (wrapped_content i) refl
wraps_content (at_element e d f) = rw (e, wraps_content f) refl
wraps_content d = refl

pub list_nodes_content : (level : ConversionLevel) (whitespace : Whitespace) (ns : List NodeView) →
    nodes_content (list_nodes level whitespace ns) ≡ list_content ns
list_nodes_content level Pre ns = refl
list_nodes_content Inline Normal ns =
    with_runs list_content add list_content-append run_content ns
list_nodes_content Block Normal ns =
    let runs = nodes_of (nodes_with_runs ns) in
    wraps_content (protected_is_changed runs (bare_spaces runs))
    ∙ with_runs list_content add list_content-append run_content ns

-- texts

abbrev piece_content : Piece → Content
piece_content (char c) = other
piece_content (thing name) = other
piece_content line = one_break
piece_content edge = other

abbrev pieces_content : List Piece → Content
pieces_content [] = nothing
pieces_content (p ∷ ps) = add (piece_content p) (pieces_content ps)

abbrev made_content : (span : ℕ) → List PieceView → Content
made_content span ps = list_content (map (piece_node span) ps)

-- a break and a character more
more_than_break : (c : ℕ) (cs : List ℕ) →
    add one_break (pieces_content (chars_by_line false (c ∷ cs))) ≡ other
more_than_break c cs =
    elim (cases_Bool (c == 13)) [
      | inl e ↦ rw e (two_breaks (pieces_content (chars_by_line true cs)))
      | inr e ↦ elim (cases_Bool (c == 10)) [
        | inl f ↦ rw (e, f) (two_breaks (pieces_content (chars_by_line false cs)))
        | inr f ↦ rw (e, f) refl
      ]
    ]

-- the texts that are one break, or nothing
abbrev BreakOrNothing : List ℕ → Type 0
BreakOrNothing s = (s ≡ []) ⊎ ((s ≡ codes "\r\n") ⊎ ((s ≡ codes "\r") ⊎ (s ≡ codes "\n")))

after_return : (c : ℕ) (cs : List ℕ) → c ≡ 13 →
    (add one_break (pieces_content (chars_by_line true cs)) ≡ other) ⊎ BreakOrNothing (c ∷ cs)
after_return c [] e = inr (inr (inr (inl (ap (λ x. x ∷ []) e))))
after_return c (d ∷ ds) e =
    elim (cases_Bool (d == 13)) [
      | inl f ↦ inl (rw f (two_breaks (pieces_content (chars_by_line true ds))))
      | inr f ↦ elim (cases_Bool (d == 10)) [
        | inl g ↦ after_feed d ds (eqb-true _ _ g) f g
        | inr g ↦ inl (rw (f, g) refl)
      ]
    ]
  where
    after_feed : (d : ℕ) (ds : List ℕ) → d ≡ 10 → (d == 13) ≡ false → (d == 10) ≡ true →
        (add one_break (pieces_content (chars_by_line true (d ∷ ds))) ≡ other)
        ⊎ BreakOrNothing (c ∷ d ∷ ds)
    after_feed d [] g f h = inr (inr (inl (rw (e, g) refl)))
    after_feed d (x ∷ xs) g f h = inl (rw (f, h) (more_than_break x xs))

break_or_other : (s : List ℕ) → (pieces_content (chars_by_line false s) ≡ other) ⊎ BreakOrNothing s
break_or_other [] = inr (inl refl)
break_or_other (c ∷ cs) =
    elim (cases_Bool (c == 13)) [
      | inl e ↦ rw e (after_return c cs (eqb-true _ _ e))
      | inr e ↦ elim (cases_Bool (c == 10)) [
        | inl f ↦ rw (e, f) (after_feed cs (eqb-true _ _ f))
        | inr f ↦ inl (rw (e, f) refl)
      ]
    ]
  where
    after_feed : (cs : List ℕ) → c ≡ 10 →
        (add one_break (pieces_content (chars_by_line false cs)) ≡ other) ⊎ BreakOrNothing (c ∷ cs)
    after_feed [] e = inr (inr (inr (inr (ap (λ x. x ∷ []) e))))
    after_feed (d ∷ ds) e = inl (more_than_break d ds)

-- items

-- nodes hold no more than their items, or more than one break
abbrev pub AtMost : Content → Content → Type 0
AtMost made wanted = (made ≡ wanted) ⊎ (made ≡ other)

pub add_at_most : (u v w x : Content) → AtMost u v → AtMost w x → AtMost (add u w) (add v x)
add_at_most u v w x (inl e) (inl f) = inl (ap (λ y. add y w) e ∙ ap (add v) f)
add_at_most u v w x (inl e) (inr f) = inr (ap (add u) f ∙ add_other u)
add_at_most u v w x (inr e) f = inr (ap (λ y. add y w) e)

abbrev pub item_content : Whitespace → ItemView → Content
item_content whitespace i =
    cond (is_unseen_item i) nothing (cond (is_break whitespace i) one_break other)

abbrev pub items_content : Whitespace → ItemsView → Content
items_content whitespace no_items = nothing
items_content whitespace (item i role items) =
    add (item_content whitespace i) (items_content whitespace items)

abbrev pub body_content : Whitespace → BodyView → Content
body_content whitespace absent = nothing
body_content whitespace (present items) = items_content whitespace items

-- the definitions of plain flow say the same

abbrev holds_nothing : Content → Bool
holds_nothing nothing = true
holds_nothing w = false

abbrev pub holds_one_break : Content → Bool
holds_one_break one_break = true
holds_one_break w = false

break_and_nothing : (w : Content) → holds_one_break (add one_break w) ≡ holds_nothing w
break_and_nothing nothing = refl
break_and_nothing w = refl

not_nothing : (b : Bool) (w : Content) → holds_nothing (add (cond b one_break other) w) ≡ false
not_nothing true nothing = refl
not_nothing b w = refl

are_nothing_is : (whitespace : Whitespace) (items : ItemsView) →
    holds_nothing (items_content whitespace items) ≡ are_unseen_items items
are_nothing_is whitespace no_items = refl
are_nothing_is whitespace (item i role items) =
    elim (cases_Bool (is_unseen_item i)) [
      | inl e ↦ rw e (are_nothing_is whitespace items)
      | inr e ↦ rw e (not_nothing (is_break whitespace i) (items_content whitespace items))
    ]

are_one_break_is : (whitespace : Whitespace) (items : ItemsView) →
    holds_one_break (items_content whitespace items) ≡ are_one_break whitespace items
are_one_break_is whitespace no_items = refl
are_one_break_is whitespace (item i role items) =
    elim (cases_Bool (is_unseen_item i)) [
      | inl e ↦ rw e (are_one_break_is whitespace items)
      | inr e ↦ elim (cases_Bool (is_break whitespace i)) [
        | inl f ↦ rw (e, f) (break_and_nothing (items_content whitespace items)
            ∙ are_nothing_is whitespace items)
        | inr f ↦ rw (e, f) refl
      ]
    ]

pub is_one_break_is : (whitespace : Whitespace) (body : BodyView) →
    holds_one_break (body_content whitespace body) ≡ is_one_break whitespace body
is_one_break_is whitespace absent = refl
is_one_break_is whitespace (present items) = are_one_break_is whitespace items

-- the nodes of the pieces of a text hold as much as is seen of them, or more
pieces_at_most : (span : ℕ) (ps : List PieceView) →
    AtMost (made_content span ps) (pieces_content (list_pieces (map (piece_node span) ps)))
unfolding stands_in
pieces_at_most span [] = inl refl
pieces_at_most span (line_break ∷ ps) = elim (pieces_at_most span ps) [
  | inl e ↦ inl (ap (add one_break) e)
  | inr e ↦ inr (ap (add one_break) e)
]
pieces_at_most span (p ∷ ps) = inr refl

pub text_at_most : (whitespace : Whitespace) (s : List ℕ) (span : ℕ) →
    AtMost (list_content (text_item_nodes whitespace s span))
    (item_content whitespace (text_item s span))
text_at_most Pre s span = inr refl
text_at_most Normal s span = elim (pieces_at_most span (pieces s)) [
  | inl e ↦
      let is = e ∙ ap pieces_content (text_item_pieces Normal s span) in
      elim (break_or_other s) [ inl f ↦ inr (is ∙ f) | inr f ↦ inl (is ∙ known s f) ]
  | inr e ↦ inr e
]
  where
    known : (s : List ℕ) → BreakOrNothing s →
        pieces_content (chars_by_line false s) ≡ item_content Normal (text_item s span)
    known s (inl e) = rw e refl
    known s (inr (inl e)) = rw e refl
    known s (inr (inr (inl e))) = rw e refl
    known s (inr (inr (inr e))) = rw e refl

-- a block whose body is not one break

displayed_content : (change : DisplayChangeView) (n : NodeView) →
    node_content (node_with_display change n) ≡ node_content n
displayed_content change (tag_node t) = refl
displayed_content change n = refl

pub all_displayed_content : (change : DisplayChangeView) (ns : NodesView) →
    list_content (map (node_with_display change) (node_list ns)) ≡ nodes_content ns
unfolding node_list
all_displayed_content change none = refl
all_displayed_content change (node n ns) =
    rw (displayed_content change n, all_displayed_content change ns) refl

pub lone_content : (ns : NodesView) (n : NodeView) → lone_node ns ≡ Some n →
    nodes_content ns ≡ node_content n
lone_content ns n = of_lone (λ ms. nodes_content ms ≡ node_content n) (λ t ms e. e) n (λ ms tags.
    ap (add (node_content n))
    (of_tags (λ us. nodes_content us ≡ nothing) (λ t us e. e) refl ms tags)
    ∙ add_nothing (node_content n)) ns
