-- Spaces stay: each atom of the nodes stays, and each by itself they are the items' text.
use Rattle.std.proofs.Common.{◌≡◌, false, ap, ◌∙◌}
use Rattle.html_dom_tree.specs.{Styled.{styled_nodes}, Tree.{NodesView}}
use Rattle.html_dom_shown.{proofs.NodeAtoms.{nodes_atoms, normal_atoms}, specs.Collapsing.{merged_edges, collapsed_pieces}}
use Rattle.typst_html_encode.proofs.IndentsCollapse.{content_collapses}
use Rattle.html_flow_convert.specs.{Converted.{converted_nodes}, declared.convert.ConversionLevel.TheVariants.{Block}}
use Rattle.html_flow_convert.specs.declared.convert.Whitespace.TheVariants.{Normal}
use Rattle.typst_html_spaces.proofs.{AtomContexts.{own_collapsed}, EdgedNodes.{converted_are_edged}, ItemPieces.{converted_seen}}
use Rattle.typst_html_spaces.proofs.{OwnPieces.{nodes_pieces, nodes_own}, ReadyItems.{items_stay}}
use Rattle.typst_html_spaces.specs.{AtomContexts.{AtomsStay}, SpacesStay.{seen_pieces, SpacesStay, PrettySpacesStay}}

-- nodes whose atoms all stay
seen_own : (ns : NodesView) → AtomsStay false false (nodes_atoms false (styled_nodes ns)) →
    seen_pieces ns ≡ merged_edges false (nodes_pieces ns)
seen_own ns s =
    ap collapsed_pieces (normal_atoms (styled_nodes ns) false)
    ∙ (own_collapsed (nodes_atoms false (styled_nodes ns)) s
    ∙ ap (merged_edges false) (nodes_own false ns))

pub spaces_stay : SpacesStay
spaces_stay role items e =
    seen_own (converted_nodes Block Normal role items) (items_stay role items e)
    ∙ (converted_seen Block Normal role items e false).0

pub pretty_spaces_stay : PrettySpacesStay
pretty_spaces_stay role items level h e r =
    content_collapses level h (styled_nodes (converted_nodes Block Normal role items)) r
    (converted_are_edged role items e) ∙ spaces_stay role items e
