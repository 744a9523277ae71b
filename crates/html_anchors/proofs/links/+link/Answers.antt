use Rattle.std.proofs.Common.{◌++◌, [], ◌∷◌, map, reverse, refl, sym, ap, ◌∙◌, arith}
use denote.Param.Weighed.{most, most-append}
use Rattle.std.{proofs.lemmas.List.{append-nil, map-append, nil_from_length, reverse-reverse}, specs.Prelude.{option_map}}
use Rattle.html_dom_tree.proofs.{Reversed.{most_reversed, next_reversed}, node.HtmlNode.TheLaws.{the_size}}
use Rattle.html_dom_tree.specs.Views.{attrs_view, head_of, node_view, nodes_of, nodes_view}
use Rattle.html_anchors.proofs.Linking.{element_has_links, list_with_links, nodes_with_links-nodes_of, one_more_with_links}
use Rattle.html_anchors.specs.{LinkTargets.{hrefs_view}, Links.{attrs_with_href, href_of}}
use Rattle.html_anchors.proofs.links.+link.Goals as goal

pub element_with_links-returns : goal.element_with_links-returns
element_with_links-returns t c =
    let hrefs = hrefs_view c.args.targets in
    let attrs = attrs_view c.args.element.attrs in
    element_has_links hrefs (option_map (λ l. l.0) c.args.dest) (head_of c.args.element) _ _
    (nodes_view c.args.element.children.items)
    (c.in_ok-attrs_with_href.ensures
    ∙ ap (λ href. attrs_with_href href attrs)
    (c.in_ok-href.ensures ∙ ap (href_of hrefs) c.open_dest.ensures))
    c.in_ok-nodes_with_links.ensures

pub nodes_with_links-loop-child-init : goal.nodes_with_links-loop-child-init
nodes_with_links-loop-child-init t c =
    let hrefs = hrefs_view c.args.targets in
    let all = c.args.nodes.items in
    let again = ap reverse c.reverse.ensures.items ∙ reverse-reverse all in
    let same = ap (most the_size) c.reverse.ensures.items ∙ most_reversed the_size all in (
      [],
      record {
        behind = refl;
        agrees = rw (c.in_ok-made.ensures.items, again) refl;
        deep = omega (arith, same);
      },
    )

pub nodes_with_links-loop-child-preserved : goal.nodes_with_links-loop-child-preserved
nodes_with_links-loop-child-preserved t c =
    let hrefs = hrefs_view c.args.targets in
    let held = c.loop-child.invariant in
    let n = node_view c.in-Some.child in
    let m = node_view c.in_ok-node_with_links.field-0 in
    let made = map node_view c.loop-child.made.items in
    let nodes = c.give_back.new.nodes.items in
    let next = next_reversed c.loop-child.nodes.items nodes c.in-Some.child
    (rw c.give_back.ensures c.in-Some.ensures.items) in
    let parts = ap (most the_size) c.in-Some.ensures.items
    ∙ most-append the_size c.pop.new.self.items (c.in-Some.child ∷ []) in
    let pushed =
    ap (map node_view) c.in_ok-push.ensures.items
    ∙ map-append node_view c.loop-child.made.items (c.in_ok-node_with_links.field-0 ∷ []) in (
      n ∷ held.0,
      record {
        behind = c.dest_past-past.ensures held.0 held.1.behind;
        agrees =
            ap (λ l. l ++ list_with_links hrefs (n ∷ held.0)
            (map node_view (reverse nodes))) pushed
            ∙ one_more_with_links hrefs _ held.0 made n m _ _ _ held.1.behind c.in_ok-node_with_links.ensures
            (ap (map node_view) next) held.1.agrees;
        deep = omega (arith, held.1.deep, parts, ap (most the_size) c.give_back.ensures);
      },
    )

pub nodes_with_links-returns : goal.nodes_with_links-returns
nodes_with_links-returns t c =
    let hrefs = hrefs_view c.args.targets in
    let held = c.loop-child.invariant in
    let made = map node_view c.loop-child.made.items in
    let empty = nil_from_length c.loop-child.nodes.items
    (sym c.loop-child.nodes.ok.0 ∙ c.in_default.ensures.cases.0) in
    let whole =
    sym (append-nil made)
    ∙ (ap (λ ns. made ++ list_with_links hrefs held.0 (map node_view (reverse ns))) (sym empty)
    ∙ held.1.agrees) in
    ap nodes_of whole
    ∙ sym (nodes_with_links-nodes_of hrefs [] (map node_view c.args.nodes.items))
