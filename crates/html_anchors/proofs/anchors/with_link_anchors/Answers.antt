use Rattle.std.proofs.Common.{◌≡◌, sym, ap, ◌∙◌}
use Rattle.html_dom_tree.specs.{Tree.{none}, Views.{nodes_view}}
use Rattle.html_dom_document.specs.{Documents.{DocumentView, document_root, given_root}, Introspectors.{has_location}}
use Rattle.html_dom_document.specs.Views.{document_view}
use Rattle.html_names_core.specs.Names.{stands_in}
use Rattle.html_anchors.proofs.DocumentNames.{anchors_are_new, anchors_are_serving, anchors_are_shown, ids_stay_distinct}
use Rattle.html_anchors.proofs.{MovedRoots.{put_again}, WholeWalk.{answers_are, root_walked, root_written}}
use Rattle.html_anchors.specs.{AnchorWalk.{Walked, element_walk}, LinkAnchors.{document_targets}, MadeDocuments.{with_children}}
use Rattle.html_anchors.specs.WalkViews.{state_view}
use Rattle.html_links.specs.TreeNames.{element_names}
use Rattle.html_anchors.proofs.anchors.with_link_anchors.Goals as goal

pub returns : goal.returns
returns c =
    let d = document_view c.args.document in
    let is_target = has_location c.args.targets.now in
    let taken = c.take_children-children.ensures in
    let w : Walked =
    (nodes_view c.in_ok-children.children.items, state_view c.in_ok-children.state) in
    let whole : w ≡ element_walk (document_targets is_target d) (document_root d) =
    root_walked is_target d _ _ _ w
    (c.introspector.ensures ∙ ap (λ (v : DocumentView). v.introspector) taken.rest) taken.children
    (c.in_ok-names.ensures
    ∙ ap (λ e. stands_in (element_names e)) (sym (ap given_root c.root.ensures)))
    c.in_ok-children.ensures.walk in
    let tree = c.put_children.ensures
    ∙ (ap (with_children w.0) taken.rest ∙ (put_again d none w.0 ∙ root_written is_target d w whole)) in
    let anchors = answers_are is_target d w whole in
    let fresh = anchors_are_new is_target d w whole c.in_ok-children.ensures.bounded in
    record {
      tree = tree;
      anchors = anchors;
      fresh = fresh;
      shown = anchors_are_shown is_target d _ _ tree anchors;
      serves = anchors_are_serving is_target d _ _ tree anchors;
      distinct = ids_stay_distinct is_target d _ tree fresh;
    }
