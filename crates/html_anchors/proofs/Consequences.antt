-- What follows for trees without frames, and for locations that are no targets.
use Rattle.std.proofs.Common.{◌≡◌, ℕ, Bool, false, List, [], ◌∷◌, drop, Option, Some, None, refl, ap, sym, ◌∙◌}
use Rattle.std.proofs.lemmas.List.{append-nil}
use Rattle.html_dom_tree.{proofs.Basics.{or_else-none}, specs.FrameFree.{NodeIsFrameFree, NodesAreFrameFree}}
use Rattle.html_dom_tree.specs.Frames.{PointView, FrameView, frame, FrameItemsView, no_frame_items, placed_item, tag_item, group_item, link_item, other_item}
use Rattle.html_dom_tree.specs.Tree.{starts, ends, tag_node, text_node, element_node, frame_node, NodesView, none, node}
use Rattle.html_names_core.specs.Names.{stands_in}
use Rattle.html_links.specs.TreeNames.{Name, element_names, gathered_names, shown_names, first_ids}
use Rattle.html_anchors.{proofs.Showing.{answers_are_shown}, proofs.Walks.{one_walk_serves}, specs.AnchorWalk.{walk, at_first}}
use Rattle.html_anchors.specs.Anchors.{text_in_span, span_before, nodes_size, nodes_with_anchors, element_namings, element_with_anchors}
use Rattle.html_anchors.specs.Answered.{AnswersAreFirstIds, StaysFrameFree, NoTargetNoChange}
use Rattle.html_anchors.specs.{Events.{Targets, with_frame_start, items_starts, frame_starts}, Namings.{Naming}}

free-anchored : (ns : NodesView) (cs : List Naming) → NodesAreFrameFree ns →
    NodesAreFrameFree (nodes_with_anchors cs ns)
unfolding nodes_with_anchors NodeIsFrameFree NodesAreFrameFree
free-anchored none cs f = f
free-anchored (node n ns) [] f = f
free-anchored (node (tag_node t) ns) (c ∷ cs) f = (tt, by_name c.made (free-anchored ns cs f.1))
  where
    by_name : (made : Option Name) → NodesAreFrameFree (nodes_with_anchors cs ns) →
        NodesAreFrameFree (span_before made (nodes_with_anchors cs ns))
    by_name None h = h
    by_name (Some n) h = (tt, h)
free-anchored (node (text_node s span) ns) (c ∷ cs) f = (by_name c.made, free-anchored ns cs f.1)
  where
    by_name : (made : Option Name) → NodeIsFrameFree (text_in_span made s span)
    by_name None = tt
    by_name (Some n) = (tt, tt)
free-anchored (node (element_node h kids) ns) (c ∷ cs) f =
    (free-anchored kids cs f.0, free-anchored ns (drop (nodes_size kids) cs) f.1)
free-anchored (node (frame_node b) ns) (c ∷ cs) f = absurd f.0

pub stays_frame_free : StaysFrameFree
unfolding element_with_anchors
stays_frame_free x e f = free-anchored e.1 (element_namings x e) f

pub shown_first : (ns : NodesView) → NodesAreFrameFree ns → shown_names ns ≡ first_ids ns
unfolding gathered_names NodeIsFrameFree NodesAreFrameFree
shown_first none f = refl
shown_first (node (tag_node t) ns) f = shown_first ns f.1
shown_first (node (text_node s span) ns) f = shown_first ns f.1
shown_first (node (element_node h kids) ns) f =
    rw (shown_first kids f.0, shown_first ns f.1) refl
shown_first (node (frame_node b) ns) f = absurd f.0

pub answers_are_first_ids : AnswersAreFirstIds
answers_are_first_ids x e f l n is =
    rw (shown_first _ (stays_frame_free x e f)) at (answers_are_shown x e l n is)

module _ (x : Targets) (none_is : (l : ℕ) → x.is_target l ≡ false) where
  no_items_starts : (is : FrameItemsView) → items_starts x is ≡ []
  unfolding items_starts
  no_items_starts no_frame_items = refl
  no_items_starts (placed_item p (tag_item (starts l label dest)) rest) =
      rw (none_is l, no_items_starts rest) (by_point (x.points l))
    where
      by_point : (o : Option PointView) → with_frame_start false o l label [] ≡ []
      by_point None = refl
      by_point (Some q) = refl
  no_items_starts (placed_item p (tag_item (ends l)) rest) = no_items_starts rest
  no_items_starts (placed_item p (group_item (frame picture items)) rest) =
      rw (no_items_starts items, no_items_starts rest) refl
  no_items_starts (placed_item p (link_item dest) rest) = no_items_starts rest
  no_items_starts (placed_item p other_item rest) = no_items_starts rest

  no_frame_starts : (f : FrameView) → frame_starts x f ≡ []
  no_frame_starts (frame picture items) = no_items_starts items

  idle_walk : (ns : NodesView) (used : Name → Bool) →
      walk x ns (at_first used) ≡ (ns, at_first used)
  unfolding walk
  idle_walk none used = refl
  idle_walk (node (tag_node (starts l label dest)) ns) used =
      rw (none_is l, idle_walk ns used) refl
  idle_walk (node (tag_node (ends l)) ns) used = rw (idle_walk ns used) refl
  idle_walk (node (text_node s span) ns) used = rw (idle_walk ns used) refl
  idle_walk (node (element_node h kids) ns) used =
      rw (idle_walk kids used, idle_walk ns used) refl
  idle_walk (node (frame_node f) ns) used =
      rw (no_frame_starts f.inner, idle_walk ns used, or_else-none f.id, append-nil f.anchors) refl

pub no_target_no_change : NoTargetNoChange
no_target_no_change x e h =
    let idle = idle_walk x h e.1 (stands_in (element_names e)) in (
      sym (one_walk_serves x e).0 ∙ ap (λ w. (e.0, w.0)) idle,
      λ l. sym ((one_walk_serves x e).1 l) ∙ ap (λ w. w.1.answers l) idle,
    )
