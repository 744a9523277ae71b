use Rattle.std.proofs.Common.{◌≡◌, ◌++◌, ◌∷◌, [], false, true, codes, string_bytes, ap, ◌∙◌}
use Rattle.serde_json.specs.Data.{member, no_members}
use Rattle.html_page_findings.specs.{PlacedTexts.{document_placed}, WantedTexts.{hrefs, linked_ids, linked_names}}
use Rattle.html_dom_tree.specs.Views.{element_view}
use Rattle.typst_html_ffi.{proofs.Pages.{no_member_yet, one_more_member}, specs.FindingLists.{findings}, specs.PageSteps.{place_in}}
use Rattle.typst_html_ffi.proofs.links.links_text.Goals as goal

pub returns : goal.returns
returns c =
    let e = element_view c.args.page.root.now in
    let place_of = place_in c.args.page in
    let ids = findings place_of (codes "id") (document_placed linked_ids e) in
    let names = findings place_of (codes "name") (document_placed linked_names e) in
    let links = findings place_of (codes "href") (document_placed hrefs e) in
    let last = member (codes "links") links no_members in
    let later = member (codes "names") names last in
    let start : string_bytes c.push_str.new.self ≡ [] ++ 123 ∷ [] =
    c.in_ok-push_str.ensures.bytes ∙ ap (λ l. l ++ 123 ∷ []) c.new-text.ensures.bytes in
    c.in_ok-push_str-2.ensures.bytes
    ∙ one_more_member true (codes "links") links no_members _ _ _ _
    (one_more_member true (codes "names") names last _ _ _ _
    (one_more_member false (codes "ids") ids later _ _ _ _
    (no_member_yet (member (codes "ids") ids later) [] _ start)
    c.in_ok-push_key.ensures (c.in_ok-text.ensures
    ∙ (c.in_ok-report_texts.ensures ∙ c.in_ok-list.ensures (document_placed linked_ids e))))
    c.in_ok-push_key-2.ensures (c.in_ok-text-2.ensures
    ∙ (c.in_ok-report_texts-2.ensures ∙ c.in_ok-list-2.ensures (document_placed linked_names e))))
    c.in_ok-push_key-3.ensures (c.in_ok-text-3.ensures
    ∙ (c.in_ok-report_texts-3.ensures ∙ c.in_ok-list-3.ensures (document_placed hrefs e)))
