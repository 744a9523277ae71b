-- What a check of links between pages needs from a page, as JSON: the names in it to which links
-- may lead, and its own links.
--     {"ids":[{"id":t,..},..],"names":[{"name":t,..},..],"links":[{"href":t,..},..]}
use Rattle.std.specs.Prelude.{ℕ, List, codes}
use Rattle.serde_json.specs.Data.{Data, object, member, no_members}
use Rattle.html_page_findings.specs.{PlacedTexts.{TextKind, document_placed}, WantedTexts.{hrefs, linked_ids, linked_names}}
use Rattle.html_dom_tree.specs.Tree.{ElementView}
use Rattle.typst_html_ffi.specs.{FindingLists.{element_place, findings}, PageReports.{Report, report_by}}

-- the list of the texts of that kind in a page, in document order, each as the member of that name
abbrev pub listed : (text : List ℕ) → ElementView → (name : List ℕ) → TextKind → Data
listed text root name kind = findings (element_place text root) name (document_placed kind root)

-- the ids, the names and the links of a page with that text and that element
abbrev pub page_links : (text : List ℕ) → ElementView → Data
page_links text root = object (
    member (codes "ids") (listed text root (codes "id") linked_ids) (
    member (codes "names") (listed text root (codes "name") linked_names) (
    member (codes "links") (listed text root (codes "href") hrefs) no_members)))

abbrev pub links_report : (limit : ℕ) (page : List ℕ) → Report
links_report = report_by page_links
