use Rattle.std.proofs.{Common.{◌≡◌, ◌++◌, ◌∷◌, [], false, true, codes, string_bytes, ap, ◌∙◌}, lemmas.Result.{IfOk-weaker}}
use Rattle.serde_json.specs.Data.{member, no_members}
use Rattle.html_page_findings.specs.{Fragments.{dead_fragments}, RepeatedIds.{repeated_ids}}
use Rattle.html_page_nesting.specs.Misnested.{misnested_nodes}
use Rattle.html_dom_tree.specs.Views.{element_view}
use Rattle.html_page_read.specs.PlaceViews.{text_of}
use Rattle.typst_html_ffi.proofs.{Pages.{no_member_yet, one_more_member}, TextPieces.{appended}}
use Rattle.typst_html_ffi.specs.{FindingLists.{element_place, findings}, MisnestedNodes.{misnested_data}}
use Rattle.typst_html_ffi.proofs.findings.findings_text.Goals as goal

pub returns : goal.returns
returns c =
    let e = element_view c.args.root in
    let page = text_of c.args.places in
    let place_of = element_place page e in
    let dead = findings place_of (codes "fragment") (dead_fragments e) in
    let repeated = findings place_of (codes "id") (repeated_ids e) in
    let lost = misnested_data page (misnested_nodes e) in
    let last = member (codes "misnested") lost no_members in
    let later = member (codes "repeated_ids") repeated last in
    let start : string_bytes c.push_str.new.self ≡ [] ++ 123 ∷ [] =
    c.in_ok-push_str.ensures.bytes ∙ ap (λ l. l ++ 123 ∷ []) c.new-text.ensures.bytes in
    IfOk-weaker c.into_pieces.result _ _ (λ pieces is. is
    ∙ (appended c.in_ok-text-3.text c.push_str-2.new.self _ c.in_ok-push_str-2.ensures.bytes
    ∙ one_more_member true (codes "misnested") lost no_members _ _ _ _
    (one_more_member true (codes "repeated_ids") repeated last _ _ _ _
    (one_more_member false (codes "dead_fragments") dead later _ _ _ _
    (no_member_yet (member (codes "dead_fragments") dead later) [] _ start)
    c.in_ok-push_key.ensures (c.in_ok-text.ensures
    ∙ (c.in_ok-report_dead_fragments.ensures ∙ c.in_ok-list.ensures (dead_fragments e))))
    c.in_ok-push_key-2.ensures (c.in_ok-text-2.ensures
    ∙ (c.in_ok-report_repeated_ids.ensures ∙ c.in_ok-list-2.ensures (repeated_ids e))))
    c.in_ok-push_key-3.ensures (c.in_ok-text-3.ensures
    ∙ (c.in_ok-report_misnested_of.ensures ∙ c.in_ok-list-3.ensures (misnested_nodes e))))) c.into_pieces.ensures
