use Rattle.std.proofs.Common.{rules, ◌≡◌, ◌-◌, ◌∷◌, ◌++◌, [], length, reverse, take, refl, sym, ap, ◌∙◌, arith}
use Rattle.std.proofs.lemmas.{List.{length-append, length-reverse, nil_from_length, reverse-reverse, take-set}, Result.{on_ok_weaker}}
use Rattle.html_dom_tree.specs.declared.node.HtmlNode as HtmlNode
use Rattle.html_dom_tree.proofs.{Basics.{node_view-Tag, node_view-Text}, Reversed.{last_apart, next_reversed}}
use Rattle.html_dom_tree.proofs.Taking.{all_left, all_taken, more_taken, same_taken}
use Rattle.html_dom_tree.specs.{FrameViews.{html_frame_view}, Tree.{frame_node}, Views.{element_view, node_view}, declared.node.HtmlNode.{the_lemmas}}
use Rattle.html_page_nesting.proofs.Walks.{element_taken, frame_walked, none_walked, tag_walked, text_walked, too_deep_found, walked_in_turn}
use Rattle.html_page_nesting.proofs.consumed.+consume.Goals as goal

pub pass_element_of-returns-then-is_too_deep-clause-taken :
    goal.pass_element_of-returns-then-is_too_deep-clause-taken
pass_element_of-returns-then-is_too_deep-clause-taken g t c =
    let e = element_view c.args.element.now in
    let made = g.S.MisnestedSink.made_with in
    on_ok_weaker c.report.result
    (λ taken. same_taken (made c.args.reports.now.sink) (made c.report.new.self.sink) _ _ taken
    (too_deep_found c.args.path.now.items c.args.around.now e.0 e.1
    (sym c.if-is_too_deep.true ∙ c.is_too_deep.ensures.deep)))
    (rw c.as_slice.ensures.value at c.report.ensures)

pub pass_element_of-returns-clause-taken : goal.pass_element_of-returns-clause-taken
pass_element_of-returns-clause-taken g t c =
    let e = element_view c.args.element.now in
    let made = g.S.MisnestedSink.made_with in
    let own = c.in_ok-inside.ensures in
    on_ok_weaker c.pass_nodes_of.result
    (element_taken c.args.path.now.items c.args.around.now e.0 e.1 (made c.args.reports.now.sink)
    (made c.pass_own.new.self.sink) (made c.pass_nodes_of.new.reports.sink) c.in_ok-inside.inside
    (sym c.if-is_too_deep.false ∙ c.is_too_deep.ensures.deep)
    (rw c.as_slice-2.ensures.value at own.taken) own.inside)
    c.pass_nodes_of.ensures.taken

pub pass_node_of-returns-in-Tag-clause-taken : goal.pass_node_of-returns-in-Tag-clause-taken
pass_node_of-returns-in-Tag-clause-taken g t c =
    λ rest. rw (c.in-Tag.is, node_view-Tag, tag_walked) refl

pub pass_node_of-returns-in-Text-clause-taken : goal.pass_node_of-returns-in-Text-clause-taken
pass_node_of-returns-in-Text-clause-taken g t c =
    let why = c.text_misnesting-why.ensures in
    rw (c.in-Text.is, node_view-Text, text_walked)
    (rw (c.as_slice.ensures.value, why, c.as_str.ensures.value, c.in-Text.text-is, c.in-Text.span-is)
    at c.report.ensures)

pub pass_node_of-returns-in-Frame-clause-taken : goal.pass_node_of-returns-in-Frame-clause-taken
pass_node_of-returns-in-Frame-clause-taken g t c =
    let seen : node_view (HtmlNode.Frame c.in-Frame.frame)
    ≡ frame_node (html_frame_view c.in-Frame.frame) = search (rules, the_lemmas) in
    rw (c.in-Frame.is, seen, frame_walked)
    (rw (c.as_slice-in-Frame.ensures.value, c.frame_misnesting.ensures, c.in-Frame.frame-is)
    at c.report-in-Frame.ensures)

pub pass_nodes_of-loop-child-init : goal.pass_nodes_of-loop-child-init
pass_nodes_of-loop-child-init g t c =
    let all = c.args.nodes.now.items in
    let again = ap reverse c.reverse_nodes.ensures ∙ reverse-reverse all in
    record {
      path = refl;
      taken = rw again all_left;
      count = omega (arith, ap length c.reverse_nodes.ensures, length-reverse all);
    }

pub pass_nodes_of-loop-child-preserved : goal.pass_nodes_of-loop-child-preserved
pass_nodes_of-loop-child-preserved g t c =
    let held = c.loop-child.invariant in
    let parent = c.args.path.now.items in
    let i = c.loop-child.index in
    let nodes = c.loop-child.nodes in
    let found = c.in-Some.ensures.item in
    let child = c.in-Some.child.now in
    let left = c.drop_last.new.nodes.items in
    let others : left ≡ take (nodes.len - 1) nodes.items =
    c.drop_last.ensures ∙ take-set nodes.items (nodes.len - 1) c.pass_node_of.new.child in
    let all : nodes.items ≡ left ++ child ∷ [] =
    last_apart nodes.items nodes.len child nodes.ok.0 found.3.0 found.1
    ∙ ap (λ ns. ns ++ child ∷ []) (sym others) in
    let there : c.push.new.self.items ≡ parent ++ i ∷ [] =
    c.in_ok-push.ensures.items ∙ ap (λ p. p ++ i ∷ []) held.path in
    record {
      path = c.leave.ensures parent i (c.in_ok-pass_node_of.ensures.path ∙ there);
      taken = more_taken _ (walked_in_turn c.args.around.now parent i _ _ child
          (next_reversed nodes.items left child all)) held.taken
          (rw there at c.in_ok-pass_node_of.ensures.taken);
      count = omega (arith, held.count, ap length all, length-append left (child ∷ []));
    }

pub pass_nodes_of-returns-clause-path : goal.pass_nodes_of-returns-clause-path
pass_nodes_of-returns-clause-path g t c = c.loop-child.invariant.path

pub pass_nodes_of-returns-clause-taken : goal.pass_nodes_of-returns-clause-taken
pass_nodes_of-returns-clause-taken g t c =
    let empty = nil_from_length c.loop-child.nodes.items
    (omega (arith, c.in_default.ensures.item.3)) in
    all_taken (none_walked c.args.around.now c.args.path.now.items c.loop-child.index _
    (ap reverse empty)) c.loop-child.invariant.taken
