-- Nodes without a raw element and without a frame can be read back, and anchors leave them so.
use Rattle.std.proofs.{Common.{◌≡◌, ℕ, Bool, true, false, ◌&&◌, cond, List, Some, codes, bytes_eq, refl}, lemmas.Bool.{both_ways}}
use Rattle.std.specs.Prelude.{◌↔◌}
use Rattle.html_names_core.specs.{Kinds.{is_raw}, Names.{stands_in}}
use Rattle.html_dom_tree.specs.{FrameFree.{NodeIsFrameFree, NodesAreFrameFree}, Styled.{styled_nodes}}
use Rattle.html_dom_tree.specs.Tree.{Head, element_node, frame_node, NodesView, none, node}
use Rattle.html_dom_shown.specs.Bodies.{body_children}
use Rattle.typst_html_encode.specs.{Indented.{NodeEndsWell, NodesEndWell}, Layout.{is_pretty_inside}}
use Rattle.typst_html_spaces.proofs.{Anchored.{heads_anchored}, Changed.{holds_then, heads_styled}}
use Rattle.typst_html_spaces.specs.Anchored.{NewAttribute, IsAnchor, anchor, IsGiven, nothing, given, Anchored, IsAny}
use Rattle.typst_html_spaces.specs.Changed.{Change, Changed, at_end, at_tag, after_tag, at_text, around_text, at_element, at_frame}
use Rattle.typst_html_spaces.specs.DeepNodes.{Wanted, HoldsOfAll, of_heads}
use Rattle.typst_html_spaces.specs.ReadableNodes.{AreReadable, ReadableNodesCanBeRead, AnchorsKeepReadable, AnchorsKeepFrameFree, AnchorsKeepBody}

abbrev readable : Wanted
readable = of_heads (λ h. is_raw h.name ≡ false) ⊥

read_back : (ns : NodesView) (p : Bool) → HoldsOfAll readable p ns →
    NodesAreFrameFree ns × ((pretty : Bool) → NodesEndWell pretty ns)
unfolding NodeIsFrameFree NodeEndsWell
read_back none p r = (tt, λ pretty. tt)
read_back (node (element_node h kids) ns) p r =
    let inside = read_back kids h.pre_span r.0.1 in
    let more = read_back ns p r.1 in (
      (inside.0, more.0),
      λ pretty. (
        (
          λ e. absurd (both_ways _ r.0.0 e),
          inside.1 (pretty && is_pretty_inside h kids),
        ),
        more.1 pretty,
      ),
    )
read_back (node (frame_node f) ns) p r = absurd r.0
read_back (node n ns) p r = let more = read_back ns p r.1 in ((tt, more.0), λ pretty. (tt, more.1 pretty))

pub readable_can_be_read : ReadableNodesCanBeRead
readable_can_be_read ns r = read_back ns false r

pub styled_readable : (ns : NodesView) → AreReadable ns → AreReadable (styled_nodes ns)
styled_readable ns = heads_styled (λ h. is_raw h.name ≡ false) (λ h. is_raw h.name ≡ false) ⊥
    (λ h e. e) ns false

-- anchors

pub span_not_raw : is_raw (codes "span") ≡ false
unfolding is_raw stands_in
span_not_raw = refl

pub anchors_keep_readable : AnchorsKeepReadable
anchors_keep_readable ns ms a r = holds_then
    (heads_anchored IsAny (λ h. is_raw h.name ≡ false) ⊥ (λ id span. span_not_raw)
    (λ a value h i e. e)) a false r

module _ {c : Change} where
  pub frames_kept : {ns ms : NodesView} → Changed c ns ms →
      (NodesAreFrameFree ms ↔ NodesAreFrameFree ns)
  unfolding NodeIsFrameFree
  frames_kept at_end = (λ e. e, λ e. e)
  frames_kept (at_tag a) =
      let more = frames_kept a in (λ e. (tt, more.0 e.1), λ e. (tt, more.1 e.1))
  frames_kept (after_tag i a) =
      let more = frames_kept a in (λ e. (tt, more.0 e.1.1), λ e. (tt, (tt, more.1 e.1)))
  frames_kept (at_text a) =
      let more = frames_kept a in (λ e. (tt, more.0 e.1), λ e. (tt, more.1 e.1))
  frames_kept (around_text i a) =
      let more = frames_kept a in (λ e. (tt, more.0 e.1), λ e. ((tt, tt), more.1 e.1))
  frames_kept (at_element i a b) =
      let inside = frames_kept a in
      let more = frames_kept b in
      (λ e. (inside.0 e.0, more.0 e.1), λ e. (inside.1 e.0, more.1 e.1))
  frames_kept (at_frame a) = (λ e. absurd e.0, λ e. absurd e.0)

pub anchors_keep_frame_free : AnchorsKeepFrameFree
anchors_keep_frame_free ns ms a = frames_kept a

-- the first `body`

module _ (P : NewAttribute → List ℕ → Type 0) where
  abbrev HasBody : NodesView → NodesView → Type 0
  HasBody ms body = (new : NodesView) × (body_children ms ≡ Some new) × Anchored P body new

  past_element : (b : Bool) (kids new ns ms body : NodesView) → Anchored P kids new →
      (body_children ns ≡ Some body → HasBody ms body) → cond b (Some kids) (body_children ns) ≡ Some body →
      (found : NodesView) × (cond b (Some new) (body_children ms) ≡ Some found) × Anchored P body found
  past_element true kids new ns ms body a more e =
      let same : kids ≡ body = cc in (new, refl, rw (← same) a)
  past_element false kids new ns ms body a more e = more e

  no_anchor : {h : Head} → IsAnchor P h → bytes_eq h.name (codes "body") ≡ false
  no_anchor (anchor id span i) = refl

  same_name : {h g : Head} → IsGiven P h g → g.name ≡ h.name
  same_name nothing = refl
  same_name (given a value i) = refl

  anchored_body : {ns ms : NodesView} (body : NodesView) → Anchored P ns ms →
      body_children ns ≡ Some body → HasBody ms body
  anchored_body body at_end e = cc
  anchored_body body (at_tag a) e = anchored_body body a e
  anchored_body body (after_tag i a) e = rw (no_anchor i) (anchored_body body a e)
  anchored_body body (at_text a) e = anchored_body body a e
  anchored_body body (around_text i a) e = rw (no_anchor i) (anchored_body body a e)
  anchored_body body (at_element {h} {g} {kids} {new} {ns} {ms} i a b) e =
      rw (same_name i) (past_element (bytes_eq h.name (codes "body")) kids new ns ms body a
      (λ f. anchored_body body b f) e)
  anchored_body body (at_frame a) e = anchored_body body a e

pub anchors_keep_body : AnchorsKeepBody
anchors_keep_body ns ms body a e = anchored_body IsAny body a e
