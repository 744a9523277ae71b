-- The findings in a page, as JSON:
--     {"dead_fragments":[{"fragment":t,..},..],"repeated_ids":[{"id":t,..},..],
--     "misnested":[{"rule":t,"why":t,..},..]}
use Rattle.std.specs.Prelude.{ℕ, List, codes}
use Rattle.serde_json.specs.Data.{Data, object, member, no_members}
use Rattle.html_page_findings.specs.{Fragments.{dead_fragments}, RepeatedIds.{repeated_ids}}
use Rattle.html_page_nesting.specs.Misnested.{misnested_nodes}
use Rattle.html_dom_tree.specs.Tree.{ElementView}
use Rattle.typst_html_ffi.specs.{FindingLists.{element_place, findings}, MisnestedNodes.{misnested_data}, PageReports.{Report, report_by}}

-- the dead fragments, the repeated ids and the misnested nodes of a page with that text and that
-- element
abbrev pub page_findings : (text : List ℕ) → ElementView → Data
page_findings text root = let place_of = element_place text root in object (
    member (codes "dead_fragments") (findings place_of (codes "fragment") (dead_fragments root)) (
    member (codes "repeated_ids") (findings place_of (codes "id") (repeated_ids root)) (
    member (codes "misnested") (misnested_data text (misnested_nodes root)) no_members)))

abbrev pub check_report : (limit : ℕ) (page : List ℕ) → Report
check_report = report_by page_findings
