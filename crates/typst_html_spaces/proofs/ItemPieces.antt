-- The nodes of items in plain flow, if their atoms stay, are seen as the items' text.
use Rattle.std.proofs.Common.{◌≡◌, ℕ, true, false, List, [], ◌∷◌, ◌++◌, codes, None, inl, inr, refl, ◌∙◌, sym, append-nil}
use Rattle.std.proofs.lemmas.Bool.{cases_Bool, and_parts, not-true, true≢false}
use Rattle.html_names_core.specs.{Displays.{default_display}, Kinds.{is_replaced, is_line_break, shows_border}, Names.{stands_in}}
use Rattle.html_names_core.specs.Texts.{TextPair}
use Rattle.html_dom_tree.specs.{Attributes.{first}, Tree.{NodeView, element_node, NodesView}, Views.{nodes_of}}
use Rattle.html_dom_shown.specs.Collapsing.{Piece, thing, line, has_border}
use Rattle.html_flow_convert.specs.Converted.{RoleText, item_role, element_head, body_role, body_level, body_whitespace, item_nodes, items_nodes, body_nodes, converted_nodes}
use Rattle.html_flow_convert.specs.Items.{ElemHead, ItemView, tag_item, element_item, space_item, text_item, hole_item, break_item, block_item, ItemsView, no_items, item, BodyView, absent, present}
use Rattle.html_flow_convert.specs.declared.convert.{ConversionLevel.{ConversionLevel}, Whitespace.{Whitespace}}
use Rattle.html_flow_convert.specs.declared.convert.{ConversionLevel.TheVariants.{Block}, Whitespace.TheVariants.{Normal, Pre}}
use Rattle.typst_html_spaces.proofs.BlockPieces.{block_pieces}
use Rattle.typst_html_spaces.proofs.Edges.{same-equal, same-refl, same-trans, same-append, same-between_edges}
use Rattle.typst_html_spaces.proofs.LoneBreaks.{Content, other, add, nodes_content, list_content, list_content-append, list_nodes_content, AtMost, add_at_most, item_content, items_content, body_content, holds_one_break, is_one_break_is, text_at_most}
use Rattle.typst_html_spaces.proofs.{MadeNodes.{body_made}, OwnPieces.{head_pieces, nodes_pieces, list_pieces, list_pieces-append}}
use Rattle.typst_html_spaces.proofs.PlainParts.{PlainHead, plain_head, element_made, plain_border, replaced_no_border, replaced_no_break}
use Rattle.typst_html_spaces.{proofs.TextPieces.{text_item_pieces, break_item_pieces, list_nodes_pieces}, specs.AtomContexts.{SameButEdges}}
use Rattle.typst_html_spaces.specs.ItemText.{element_pieces, item_pieces, items_pieces, body_pieces, between_edges}
use Rattle.typst_html_spaces.specs.PlainFlow.{is_plain_head, is_plain_item, are_plain_items, is_plain_body}

-- nodes that are seen as that text, and hold no more than that
pub record SeenAs (made : NodesView) (text : List Piece) (content : Content) : Type 0 where
  pub same : SameButEdges (nodes_pieces made) text
  pub holds : AtMost (nodes_content made) content

seen_exactly : {made : NodesView} {text : List Piece} {content : Content} →
    nodes_pieces made ≡ text → AtMost (nodes_content made) content → SeenAs made text content
seen_exactly e h = record { same = same-equal e; holds = h }

seen_both : (made more : List NodeView) {text rest : List Piece} {v w : Content} →
    SeenAs (nodes_of made) text v → SeenAs (nodes_of more) rest w →
    SeenAs (nodes_of (made ++ more)) (text ++ rest) (add v w)
seen_both made more s t = record {
  same = rw (list_pieces-append made more) (same-append _ _ _ _ s.same t.same);
  holds = rw (list_content-append made more) (add_at_most _ _ _ _ s.holds t.holds);
}

-- elements

by_kind : (name : List ℕ) (attrs : List TextPair) (inside body : List Piece) →
    first attrs (codes "style") ≡ None → is_replaced name ≡ false → SameButEdges inside body →
    SameButEdges (head_pieces name attrs inside) (element_pieces name body)
by_kind name attrs inside body e r s =
    let h : has_border name attrs ≡ shows_border (default_display name) =
    plain_border name attrs e in
    elim (cases_Bool (is_line_break name)) [
      | inl b ↦ rw (r, b) (same-refl (line ∷ []))
      | inr b ↦ elim (cases_Bool (shows_border (default_display name))) [
        | inl f ↦ rw (r, b, h, f) (same-between_edges inside body s)
        | inr f ↦ rw (r, b, h, f) s
      ]
    ]

element_same : (name : List ℕ) (attrs : List TextPair) (inside body : List Piece) →
    first attrs (codes "style") ≡ None → SameButEdges inside body →
    SameButEdges (head_pieces name attrs inside) (element_pieces name body)
element_same name attrs inside body e s =
    elim (cases_Bool (is_replaced name)) [
      | inl r ↦
          let h : has_border name attrs ≡ false =
          plain_border name attrs e ∙ replaced_no_border name r in
          rw (replaced_no_break name r, h, r) (same-refl (thing name ∷ []))
      | inr r ↦ by_kind name attrs inside body e r s
    ]

element_seen : (role : RoleText) (h : ElemHead) (body : NodesView) (text : List Piece) →
    is_plain_head h ≡ true → SameButEdges (nodes_pieces body) text →
    SameButEdges (list_pieces (element_node (element_head role h) body ∷ []))
    (element_pieces h.name text)
element_seen role h body text e s =
    let p : PlainHead h = plain_head h e in
    let inside : List Piece = nodes_pieces body in
    let attrs : List TextPair = (element_head role h).attrs in
    rw (p.no_css, append-nil (head_pieces h.name attrs inside))
    (element_same h.name attrs inside text (element_made role h p).no_style s)

element_holds : (role : RoleText) (whitespace : Whitespace) (h : ElemHead) (body : NodesView)
    (inside : BodyView) → list_content (element_node (element_head role h) body ∷ [])
    ≡ item_content whitespace (element_item h inside)
element_holds role whitespace h body inside =
    elim (cases_Bool (is_line_break h.name)) [ inl e ↦ rw e refl | inr e ↦ rw e refl ]

-- blocks: a body that is not one break doesn't become one

not_one : (made wanted : Content) → AtMost made wanted → holds_one_break wanted ≡ false →
    holds_one_break made ≡ false
not_one made wanted (inl e) f = rw e f
not_one made wanted (inr e) f = rw e refl

break_holds : (whitespace : Whitespace) (span : ℕ) (role : RoleText) →
    AtMost (list_content (item_nodes whitespace role (break_item span)))
    (item_content whitespace (break_item span))
unfolding item_nodes stands_in
break_holds Normal span role = inl refl
break_holds Pre span role = inr refl

space_holds : (whitespace : Whitespace) (span : ℕ) →
    other ≡ item_content whitespace (space_item span)
space_holds Normal span = refl
space_holds Pre span = refl

mutual
  unfolding item_nodes item_pieces is_plain_item

  item_seen : (whitespace : Whitespace) (role : RoleText) (i : ItemView) →
      is_plain_item whitespace i ≡ true →
      SeenAs (nodes_of (item_nodes whitespace role i)) (item_pieces whitespace i)
      (item_content whitespace i)
  item_seen whitespace role (tag_item t) e = seen_exactly refl (inl refl)
  item_seen whitespace role (element_item h body) e =
      let inner = body_whitespace whitespace h in
      let both = and_parts _ _ e in
      let inside = body_nodes (body_level h) inner (body_role role h) body in
      let s = body_seen (body_level h) inner (body_role role h) body both.1 in
      record {
        same = element_seen role h inside (body_pieces inner body) both.0 s.same;
        holds = inl (element_holds role whitespace h inside body);
      }
  item_seen whitespace role (space_item span) e =
      seen_exactly refl (inl (space_holds whitespace span))
  item_seen whitespace role (text_item s span) e =
      seen_exactly (text_item_pieces whitespace s span) (text_at_most whitespace s span)
  item_seen whitespace role hole_item e = seen_exactly refl (inl refl)
  item_seen whitespace role (break_item span) e =
      seen_exactly (append-nil _ ∙ break_item_pieces whitespace span) (break_holds whitespace span role)
  item_seen whitespace role (block_item body span) e =
      let both = and_parts _ _ e in
      let s = body_seen Block whitespace role body both.1 in
      let ns : NodesView = body_nodes Block whitespace role body in
      let b = block_pieces span ns (body_made Block whitespace role body both.1)
      (not_one _ _ s.holds (is_one_break_is whitespace body ∙ not-true _ both.0)) in
      record {
        same = same-trans _ (between_edges (nodes_pieces ns))
            (between_edges (body_pieces whitespace body)) b.same (same-between_edges _ _ s.same);
        holds = inr b.content;
      }
  item_seen whitespace role i e = absurd (true≢false (sym e))

  pub items_seen : (whitespace : Whitespace) (role : RoleText) (items : ItemsView) →
      are_plain_items whitespace items ≡ true →
      SeenAs (nodes_of (items_nodes whitespace role items)) (items_pieces whitespace items)
      (items_content whitespace items)
  items_seen whitespace role no_items e = seen_exactly refl (inl refl)
  items_seen whitespace role (item i own items) e =
      let both = and_parts _ _ e in
      seen_both (item_nodes whitespace (item_role role own) i) (items_nodes whitespace role items)
      (item_seen whitespace (item_role role own) i both.0) (items_seen whitespace role items both.1)

  pub body_seen : (level : ConversionLevel) (whitespace : Whitespace) (role : RoleText)
      (body : BodyView) → is_plain_body whitespace body ≡ true →
      SeenAs (body_nodes level whitespace role body) (body_pieces whitespace body)
      (body_content whitespace body)
  body_seen level whitespace role absent e = record { same = same-refl []; holds = inl refl }
  body_seen level whitespace role (present items) e =
      let made : List NodeView = items_nodes whitespace role items in
      let s = items_seen whitespace role items e in
      record {
        same = rw (list_nodes_pieces level whitespace made) (s.same);
        holds = rw (list_nodes_content level whitespace made) s.holds;
      }

-- the nodes of a list, at either level
pub converted_seen : (level : ConversionLevel) (whitespace : Whitespace) (role : RoleText)
    (items : ItemsView) → are_plain_items whitespace items ≡ true →
    SameButEdges (nodes_pieces (converted_nodes level whitespace role items))
    (items_pieces whitespace items)
converted_seen level whitespace role items e =
    let made : List NodeView = items_nodes whitespace role items in
    rw (list_nodes_pieces level whitespace made) (items_seen whitespace role items e).same
