-- Laws of links that lead.
use Rattle.std.specs.{List.{All, Contains}, Prelude.{◌≡◌, false, List, [], None}}
use Rattle.html_dom_tree.specs.Tree.{NodeView, NodesView}
use Rattle.html_dom_document.specs.Documents.{DocumentView, document_root}
use Rattle.html_links.specs.{Bases.{base_is_elsewhere}, Indicated.{nodes_places}, TreeNames.{shown_names, first_ids}}
use Rattle.html_anchors.specs.{FoundAnchors.{document_dead_links}, GivenLinks.{KnownAnchorsArePlaces}}
use Rattle.html_anchors.specs.Links.{Hrefs, document_links_left, nodes_dead_links, nodes_with_links}
pub use Rattle.html_links.specs.HrefLaws.{LeadingHrefsLead, PlainHrefsLead}

-- no name of the tree changes: each place that a link leads to stays one
pub record NamesStayIn (old new : NodesView) : Type 0 where
  pub shown : shown_names new ≡ shown_names old
  pub first : first_ids new ≡ first_ids old
  pub places : nodes_places new ≡ nodes_places old

abbrev pub NamesStay : Type 0
NamesStay = (hrefs : Hrefs) (before : List NodeView) (ns : NodesView) →
    NamesStayIn ns (nodes_with_links hrefs before ns)

-- the links left without an `href` are exactly those to whose destination none leads
abbrev pub LeftAreDead : Type 0
LeftAreDead = (hrefs : Hrefs) (ns : NodesView) →
    nodes_dead_links (λ dest. None) [] (nodes_with_links hrefs [] ns)
    ≡ nodes_dead_links hrefs [] ns

-- each link left without an `href` is dead
abbrev pub LeftLinksAreDead : Type 0
LeftLinksAreDead = (d : DocumentView) → All (Contains (document_dead_links d)) (document_links_left d)

-- where no base leads fragments away, and the known anchors are places, no other link is dead
abbrev pub DeadAreLeft : Type 0
DeadAreLeft = (d : DocumentView) → base_is_elsewhere (document_root d) ≡ false →
    KnownAnchorsArePlaces d → document_dead_links d ≡ document_links_left d
