-- What holds of nodes at any depth is kept by each step on which they are made of items.
use Rattle.std.proofs.Common.{◌≡◌, ℕ, Bool, true, false, ◌||◌, List, [], ◌∷◌, ◌++◌, map, Option, None, Some, inl, inr, refl, ap, ◌∙◌, sym, codes}
use Rattle.std.{proofs.Math.Bool.{or-false}, proofs.lemmas.Bool.{cases_Bool, false≢true, or_left}, specs.List.{filter}}
use Rattle.html_dom_tree.specs.{Tags.{TagView}, Tree.{Head, NodeView, tag_node, text_node, element_node, NodesView, none, node}}
use Rattle.html_dom_tree.specs.Views.{nodes_of}
use Rattle.html_flow_convert.specs.BareSpaces.{bare_spaces}
use Rattle.html_flow_convert.specs.Converted.{text_item_nodes, list_nodes, RoleText, item_role, element_head, body_level, body_whitespace, body_role, item_nodes, items_nodes, body_nodes, converted_nodes}
use Rattle.html_flow_convert.specs.Items.{RoleView, ElemHead, FrameElemView, ItemView, tag_item, element_item, space_item, text_item, hole_item, break_item, box_item, block_item, frame_item, ItemsView, no_items, item, BodyView, absent, present}
use Rattle.html_flow_convert.specs.LoneNode.{node_list, lone_node, DisplayChangeView, css_with_display, node_with_display, block_change, changed_or_in, box_change_of, box_head, block_head, box_nodes, block_nodes}
use Rattle.html_flow_convert.specs.Nodes.{made_head, pre_wrap_head, is_one}
use Rattle.html_flow_convert.specs.Pieces.{PieceView, stretch, alone, line_break, piece_node, pieces}
use Rattle.html_flow_convert.specs.Runs.{is_blank_node, first_node_span, are_kept, run_nodes, nodes_with_runs}
use Rattle.html_flow_convert.specs.declared.convert.{ConversionLevel.{ConversionLevel}, Whitespace.{Whitespace}}
use Rattle.html_flow_convert.specs.declared.convert.{ConversionLevel.TheVariants.{Block, Inline}, Whitespace.TheVariants.{Normal, Pre}}
use Rattle.typst_html_spaces.proofs.Changed.{HoldsThen, holds_then, IsWrap, wrapped, wraps, protected_is_changed}
use Rattle.typst_html_spaces.proofs.{Each.{Each, Each-append}, EachRun.{IsInRun, of_each_run}}
use Rattle.typst_html_spaces.proofs.LoneNode.{of_tags, of_lone, of_block as block_by}
use Rattle.typst_html_spaces.specs.DeepNodes.{Wanted, is_empty, HoldsOf, HoldsOfAll}

-- lists

pub of_each : (w : Wanted) (p : Bool) (ms : List NodeView) → Each (HoldsOf w p) ms →
    HoldsOfAll w p (nodes_of ms)
of_each w p [] r = tt
of_each w p (m ∷ ms) r = (r.0, of_each w p ms r.1)

pub of_both : (w : Wanted) (p : Bool) (ms more : List NodeView) → Each (HoldsOf w p) ms →
    HoldsOfAll w p (nodes_of more) → HoldsOfAll w p (nodes_of (ms ++ more))
of_both w p [] more r s = s
of_both w p (m ∷ ms) more r s = (r.0, of_both w p ms more r.1 s)

pub each_of : (w : Wanted) (p : Bool) (ns : NodesView) → HoldsOfAll w p ns →
    Each (HoldsOf w p) (node_list ns)
unfolding node_list
each_of w p none r = tt
each_of w p (node n ns) r = (r.0, each_of w p ns r.1)

-- it holds of what is made on the way
pub record HoldsOnTheWay (w : Wanted) : Type 0 where
  pub wrap : (span : ℕ) (b : Bool) → w.head (pre_wrap_head span) b
  pub blank : (s : List ℕ) → (is_one 32 s || is_one 9 s) ≡ true → w.text true s
  pub line : (span : ℕ) → w.head (made_head (codes "br") [] span) true
  pub block : (span : ℕ) (b : Bool) → w.head (block_head span) b
  pub lone : (h : Head) (kids : NodesView) (change : DisplayChangeView) → w.head h (is_empty kids) →
      block_change (element_node h kids) ≡ Some change →
      w.head (record h { css = css_with_display change h.css }) (is_empty kids)

-- of what boxes make too
pub record HoldsOfBoxes (w : Wanted) : Type 0 where
  pub box : (span : ℕ) (b : Bool) → w.head (box_head span) b
  pub lone : (h : Head) (b : Bool) (change : DisplayChangeView) → w.head h b →
      w.head (record h { css = css_with_display change h.css }) b

module _ (w : Wanted) (way : HoldsOnTheWay w) where
  abbrev Of : NodeView → Type 0
  Of = HoldsOf w false

  -- runs of blanks

  in_run : (ns : List NodeView) → Each IsInRun ns → Each Of ns → HoldsOfAll w true (nodes_of ns)
  in_run [] e r = tt
  in_run (tag_node t ∷ ns) e r = (r.0, in_run ns e.1 r.1)
  in_run (text_node s span ∷ ns) e r =
      (way.blank s (sym (or-false (is_one 32 s || is_one 9 s)) ∙ e.0), in_run ns e.1 r.1)
  in_run (n ∷ ns) e r = absurd (false≢true e.0)

  of_run : (ns : List NodeView) → Each IsInRun ns → Each Of ns → Each Of (run_nodes ns)
  of_run ns e r = elim (cases_Bool (are_kept (filter is_blank_node ns))) [
    | inl f ↦ rw f ((way.wrap (first_node_span ns) (is_empty (nodes_of ns)), in_run ns e r), tt)
    | inr f ↦ rw f r
  ]

  of_runs : (ns : List NodeView) → Each Of ns → HoldsOfAll w false (nodes_of (nodes_with_runs ns))
  of_runs ns r = of_each w false (nodes_with_runs ns)
      (of_each_run Of Of of_run (λ n e s. s) (λ n e s. s) ns r)

  -- protected spaces

  in_wrap : (p : Bool) {h : Head} {s : List ℕ} → IsWrap h s → w.head h false × w.text h.pre_span s
  in_wrap p (wrapped {s = s} span e) =
      (way.wrap span false, way.blank s (or_left _ _ e))

  wraps_hold : HoldsThen w w wraps
  wraps_hold = record {
    after = λ h i. absurd i;
    around = λ p h s i r. in_wrap p i;
    head = λ h g e b r. rw e r;
    flag = λ h g e. ap (λ x. x.pre_span) e;
    text = λ p s r. r;
    tag = λ t r. r;
    frame = λ r. r;
  }

  pub of_list : (level : ConversionLevel) (whitespace : Whitespace) (ms : List NodeView) →
      Each Of ms → HoldsOfAll w false (list_nodes level whitespace ms)
  of_list level Pre ms r = of_each w false ms r
  of_list Inline Normal ms r = of_runs ms r
  of_list Block Normal ms r =
      let ns = nodes_of (nodes_with_runs ms) in
      holds_then wraps_hold (protected_is_changed ns (bare_spaces ns)) false (of_runs ms r)

  -- boxes and blocks

  abbrev Changed : DisplayChangeView → NodesView → Type 0
  Changed change ns =
      HoldsOfAll w false ns → Each Of (map (node_with_display change) (node_list ns))

  past_tag : (change : DisplayChangeView) (t : TagView) (ns : NodesView) → Changed change ns →
      Changed change (node (tag_node t) ns)
  unfolding node_list
  past_tag change t ns more r = (r.0, more r.1)

  of_changed : (change : DisplayChangeView) (n : NodeView) →
      (Of n → Of (node_with_display change n)) → (ns : NodesView) → lone_node ns ≡ Some n →
      Changed change ns
  unfolding node_list
  of_changed change n own = of_lone (Changed change) (past_tag change) n (λ ns tags r.
      (own r.0, of_tags (Changed change) (past_tag change) (λ s. tt) ns tags r.1))

  in_block : (n : NodeView) (change : DisplayChangeView) → block_change n ≡ Some change → Of n →
      Of (node_with_display change n)
  in_block (element_node h kids) change e r = (way.lone h kids change r.0 e, r.1)
  in_block n change e r = r

  pub of_block : (span : ℕ) (ns : NodesView) → HoldsOfAll w false ns → Each Of (block_nodes span ns)
  of_block span ns r = block_by (Each Of) span ns ((way.block span (is_empty ns), r), tt)
      (λ n change e f. of_changed change n (in_block n change f) ns e r)

  module _ (boxes : HoldsOfBoxes w) where
    in_box : (change : DisplayChangeView) (n : NodeView) → Of n → Of (node_with_display change n)
    in_box change (element_node h kids) r = (boxes.lone h (is_empty kids) change r.0, r.1)
    in_box change n r = r

    of_box_by : (span : ℕ) (ns : NodesView) (o : Option NodeView) → lone_node ns ≡ o →
        HoldsOfAll w false ns → Each Of (changed_or_in (box_head span) (box_change_of o) ns)
    of_box_by span ns None e r = ((boxes.box span (is_empty ns), r), tt)
    of_box_by span ns (Some n) e r = of_changed _ n (in_box _ n) ns e r

    pub of_box : (span : ℕ) (ns : NodesView) → HoldsOfAll w false ns → Each Of (box_nodes span ns)
    of_box span ns r = of_box_by span ns (lone_node ns) refl r

  -- texts of which each is wanted

  pub of_text : ((s : List ℕ) → w.text false s) → (whitespace : Whitespace) (s : List ℕ)
      (span : ℕ) → Each Of (text_item_nodes whitespace s span)
  of_text any Pre s span = (any s, tt)
  of_text any Normal s span = of_pieces (pieces s)
    where
      of_pieces : (ps : List PieceView) → Each Of (map (piece_node span) ps)
      of_pieces [] = tt
      of_pieces (stretch t ∷ ps) = (any t, of_pieces ps)
      of_pieces (alone c ∷ ps) = (any (c ∷ []), of_pieces ps)
      of_pieces (line_break ∷ ps) = ((way.line span, tt), of_pieces ps)

-- items

-- what is known of items in a list of that role
pub record Known : Type 1 where
  pub item : Whitespace → RoleText → ItemView → Type 0
  pub items : Whitespace → RoleText → ItemsView → Type 0
  pub body : Whitespace → RoleText → BodyView → Type 0

-- so it holds of what an item makes, and as much is known of what stands in it
pub record HoldsOfItems (w : Wanted) (k : Known) : Type 0 where
  pub tag : (s : Whitespace) (role : RoleText) (t : TagView) → k.item s role (tag_item t) → w.tag t
  pub element : (s : Whitespace) (role : RoleText) (h : ElemHead) (body : BodyView) →
      k.item s role (element_item h body) → w.head (element_head role h)
      (is_empty (body_nodes (body_level h) (body_whitespace s h) (body_role role h) body))
      × k.body (body_whitespace s h) (body_role role h) body
  pub space : w.text false (32 ∷ [])
  pub text : (s : Whitespace) (role : RoleText) (t : List ℕ) (span : ℕ) →
      k.item s role (text_item t span) → Each (HoldsOf w false) (text_item_nodes s t span)
  pub feed : w.text false (10 ∷ [])
  pub box : (s : Whitespace) (role : RoleText) (body : BodyView) (span : ℕ) →
      k.item s role (box_item body span) → HoldsOfBoxes w × k.body s role body
  pub block : (s : Whitespace) (role : RoleText) (body : BodyView) (span : ℕ) →
      k.item s role (block_item body span) → k.body s role body
  pub frame : (s : Whitespace) (role : RoleText) (f : FrameElemView) →
      k.item s role (frame_item f) → w.frame
  pub first : (s : Whitespace) (role : RoleText) (i : ItemView) (own : RoleView)
      (items : ItemsView) → k.items s role (item i own items) →
      k.item s (item_role role own) i × k.items s role items
  pub inside : (s : Whitespace) (role : RoleText) (items : ItemsView) →
      k.body s role (present items) → k.items s role items

module _ (w : Wanted) (way : HoldsOnTheWay w) (k : Known) (each : HoldsOfItems w k) where
  mutual
    unfolding item_nodes

    of_item : (s : Whitespace) (role : RoleText) (i : ItemView) → k.item s role i →
        Each (HoldsOf w false) (item_nodes s role i)
    of_item s role (tag_item t) e = (each.tag s role t e, tt)
    of_item s role (element_item h body) e =
        let own = each.element s role h body e in (
          (own.0, of_body (body_level h) (body_whitespace s h) (body_role role h) body own.1),
          tt,
        )
    of_item s role (space_item span) e = (each.space, tt)
    of_item s role (text_item t span) e = each.text s role t span e
    of_item s role hole_item e = tt
    of_item Pre role (break_item span) e = (each.feed, tt)
    of_item Normal role (break_item span) e = ((way.line span, tt), tt)
    of_item s role (box_item body span) e =
        let own = each.box s role body span e in
        of_box w way own.0 span (body_nodes Inline s role body) (of_body Inline s role body own.1)
    of_item s role (block_item body span) e =
        of_block w way span (body_nodes Block s role body)
        (of_body Block s role body (each.block s role body span e))
    of_item s role (frame_item f) e = (each.frame s role f e, tt)

    of_items : (s : Whitespace) (role : RoleText) (items : ItemsView) → k.items s role items →
        Each (HoldsOf w false) (items_nodes s role items)
    of_items s role no_items e = tt
    of_items s role (item i own items) e =
        let both = each.first s role i own items e in
        Each-append (HoldsOf w false) (item_nodes s (item_role role own) i) (items_nodes s role items)
        (of_item s (item_role role own) i both.0) (of_items s role items both.1)

    pub of_body : (level : ConversionLevel) (s : Whitespace) (role : RoleText) (body : BodyView) →
        k.body s role body → HoldsOfAll w false (body_nodes level s role body)
    of_body level s role absent e = tt
    of_body level s role (present items) e = of_list w way level s (items_nodes s role items)
        (of_items s role items (each.inside s role items e))

  pub of_converted : (level : ConversionLevel) (s : Whitespace) (role : RoleText)
      (items : ItemsView) → k.items s role items →
      HoldsOfAll w false (converted_nodes level s role items)
  of_converted level s role items e =
      of_list w way level s (items_nodes s role items) (of_items s role items e)
