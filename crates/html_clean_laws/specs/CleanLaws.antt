-- What is promised of clean nodes.
use Rattle.std.specs.Prelude.{◌≡◌, ℕ, ◌<◌, true}
use Rattle.html_dom_tree.specs.Tree.{NodesView}
use Rattle.html_page_nesting.specs.Kept.{in_body}
use Rattle.typst_html_encode.specs.{Fragments.{fragment_text}, FrameWriters.{Frames}, ReadingBack.{NodesAreNamed}, Text.{document_text, plain_options}}
use Rattle.html_page_read.specs.{FragmentReading.{fragment_read}, PageReading.{page_read}}
use Rattle.typst_html_nesting_laws.specs.{FragmentsStay.{IsFragmentBack, IsKeptFragment, fragment_root}, TreesStay.{IsReadBack}}
use Rattle.html_clean_policy.specs.Policies.{IsSound, PolicyView}
use Rattle.html_clean_nodes.specs.Cleaned.{cleaned}
use Rattle.html_clean_laws.specs.CleanNodes.{AreClean}

-- what a cleaner leaves is clean
abbrev pub CleanedIsClean : Type 0
CleanedIsClean = (p : PolicyView) (ns : NodesView) → IsSound p → AreClean p in_body true (cleaned p ns)

-- a cleaner leaves clean nodes as they are
abbrev pub CleanStays : Type 0
CleanStays = (p : PolicyView) (ns : NodesView) → AreClean p in_body true ns → cleaned p ns ≡ ns

-- clean nodes can be written, and nothing in them is misnested in the `body` of a page; so a parser of
-- fragments makes the same nodes of their text
abbrev pub CleanIsKept : Type 0
CleanIsKept = (p : PolicyView) (frames : Frames) (ns : NodesView) → IsSound p → NodesAreNamed ns →
    AreClean p in_body true ns → IsKeptFragment frames ns

abbrev pub CleanedIsRead : Type 0
CleanedIsRead = (p : PolicyView) (frames : Frames) (limit : ℕ) (ns : NodesView) → IsSound p →
    NodesAreNamed ns → 512 < limit →
    IsFragmentBack (cleaned p ns) (fragment_read limit (fragment_text frames (cleaned p ns)))

-- and a parser of pages makes the page around them of its text
abbrev pub CleanedPageIsRead : Type 0
CleanedPageIsRead = (p : PolicyView) (frames : Frames) (limit : ℕ) (ns : NodesView) → IsSound p →
    NodesAreNamed ns → 512 < limit → let page = fragment_root (cleaned p ns) in
    IsReadBack page (page_read limit (document_text frames plain_options page))
