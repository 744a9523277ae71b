use Rattle.std.proofs.Common.{◌≡◌, [], sym, ap, ◌∙◌}
use Rattle.html_names_core.specs.Names.{stands_in}
use Rattle.html_dom_tree.specs.{Tree.{none}, Views.{nodes_view}}
use Rattle.html_dom_document.specs.{Documents.{DocumentView, document_root, given_root}, Introspectors.{introspector_view}}
use Rattle.html_dom_document.specs.Views.{document_view}
use Rattle.html_links.specs.{Indicated.{element_places}, UsedNames.{used_in}}
use Rattle.html_anchors.proofs.FoundLinks.{document_live_links_lead}
use Rattle.html_anchors.proofs.GivenLinks.{document_links_lead, left_in_document, links_lead_to_one, links_stay_distinct}
use Rattle.html_anchors.proofs.{MovedRoots.{put_again}, Serving.{still_serves}}
use Rattle.html_anchors.specs.{Links.{anchor_hrefs, document_hrefs, nodes_with_links}, MadeDocuments.{with_children}}
use Rattle.html_anchors.proofs.links.document_with_links.Goals as goal

pub returns : goal.returns
returns c =
    let d = document_view c.args.document in
    let root = document_root d in
    let taken = c.take_children-children.ensures in
    let anchor = (introspector_view c.introspector.result.now).anchor in
    let kids = nodes_view c.in_ok-children.children.items in
    let hrefs : anchor_hrefs (used_in c.in_ok-places.places) anchor ≡ document_hrefs d =
    ap (λ p. anchor_hrefs p anchor)
    (c.in_ok-places.ensures
    ∙ ap (λ e. stands_in (element_places e)) (sym (ap given_root c.root.ensures)))
    ∙ ap (λ i. anchor_hrefs (stands_in (element_places root)) i.anchor)
    (c.introspector.ensures ∙ ap (λ (v : DocumentView). v.introspector) taken.rest) in
    let made : kids ≡ nodes_with_links (document_hrefs d) [] root.1 =
    c.in_ok-children.ensures
    ∙ (ap (nodes_with_links (anchor_hrefs (used_in c.in_ok-places.places) anchor) []) taken.children
    ∙ ap (λ h. nodes_with_links h [] root.1) hrefs) in
    let is = c.put_children.ensures
    ∙ (ap (with_children kids) taken.rest
    ∙ (put_again d none kids ∙ ap (λ ns. with_children ns d) made)) in
    record {
      ok = is;
      live = document_live_links_lead c.args.document _ is;
      leads = document_links_lead c.args.document _ is;
      left = left_in_document d _ is;
      serves = still_serves d _ is;
      distinct = links_stay_distinct d _ is;
      one = links_lead_to_one c.args.document _ is;
    }
