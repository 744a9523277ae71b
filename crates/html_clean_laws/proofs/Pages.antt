-- A page with clean nodes in its body is read as it is.
use Rattle.std.proofs.Common.{◌≡◌, false, [], ◌++◌, refl, ap, arith, ◌∙◌}
use Rattle.html_dom_tree.specs.FrameFree.{NodeIsFrameFree, NodesAreFrameFree}
use Rattle.html_dom_tree.specs.Tree.{NodesView, none}
use Rattle.html_page_nesting.specs.Kept.{in_body}
use Rattle.typst_html_encode.specs.ExportFaults.{document_faults, node_faults, nodes_faults}
use Rattle.typst_html_encode.specs.{FrameWriters.{Frames}, ReadingBack.{NodeIsNamed, NodesAreNamed}, Text.{plain_options}}
use Rattle.typst_html_nesting_laws.proofs.{KindFacts.{names}, Roots.{trees_stay}}
use Rattle.typst_html_nesting_laws.specs.FragmentsStay.{IsKeptFragment, fragment_root}
use Rattle.typst_html_nesting_laws.specs.TreesStay.{IsKept, NodeIsReadable, NodesAreReadable}
use Rattle.html_clean_nodes.specs.Cleaned.{cleaned}
use Rattle.html_clean_laws.proofs.{Cleaned.{cleaned_is_clean}, Kept.{clean_is_kept}, Named.{nodes_named}}
use Rattle.html_clean_laws.specs.CleanLaws.{CleanedPageIsRead}

-- the faults of the page are those of the nodes
page_faults : (frames : Frames) (ns : NodesView) →
    document_faults frames plain_options (fragment_root ns) ≡ nodes_faults frames false false ns ++ []
unfolding names node_faults nodes_faults
page_faults frames ns = refl

page_is_kept : {frames : Frames} {ns : NodesView} → IsKeptFragment frames ns →
    IsKept frames (fragment_root ns)
unfolding NodeIsNamed NodesAreNamed NodeIsFrameFree NodesAreFrameFree NodeIsReadable
    NodesAreReadable names
page_is_kept {frames = frames} {ns = ns} kept = record {
  named = (((refl, refl), tt), ((((refl, refl), tt), tt), ((((refl, refl), tt), kept.named), tt)));
  frame_free = (tt, (kept.frame_free, tt));
  readable = (omega arith, ((omega arith, tt), ((omega arith, kept.readable), tt)));
  clean = page_faults frames ns ∙ ap (λ fs. fs ++ []) kept.clean;
  nested = kept.nested;
}

pub cleaned_page_is_read : CleanedPageIsRead
unfolding NodesAreNamed
cleaned_page_is_read p frames limit ns sound named deep =
    trees_stay frames limit (fragment_root (cleaned p ns))
    (page_is_kept (clean_is_kept p frames (cleaned p ns) sound (nodes_named p in_body none ns tt named)
    (cleaned_is_clean p ns sound))) deep
