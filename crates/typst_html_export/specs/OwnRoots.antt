-- Documents without nodes of the caller's in their head: there are no such nodes, or the items have
-- a root of their own, and with it a head. The latter have no information in their tree either.
use Rattle.std.specs.Prelude.{◌≡◌, Bool, true, false, List, [], ◌∷◌, codes}
use Rattle.html_dom_tree.specs.{Tree.{NodeView}, Views.{nodes_of}}
use Rattle.html_dom_document.specs.Documents.{InfoView, no_info}
use Rattle.html_flow_convert.specs.Items.{ItemsView}
use Rattle.typst_html_export.specs.Assembled.{Outline, own_html, own_body, nothing_own, own_among_others, document_outline, document_nodes}
use Rattle.typst_html_export.specs.{DocumentHead.{made_node, charset_node, viewport_node, entry_nodes, head_node}, Exported.{linked_root}}
use Rattle.typst_html_export.specs.Linked.{linked_document, linked_document_with_head}

-- whether a document has a root of its own
abbrev pub is_root : Outline → Bool
is_root (own_html place) = true
is_root own_body = false
is_root nothing_own = false
is_root (own_among_others name span) = false

abbrev pub have_own_root : ItemsView → Bool
have_own_root items = is_root (document_outline (document_nodes items))

-- without such nodes, the document is that of items alone
abbrev pub NoNodesChangeNothing : Type 0
NoNodesChangeNothing = (info : InfoView) (items notes : ItemsView) →
    linked_document_with_head info [] items notes ≡ linked_document info items notes

-- and its head, if it is made, has the information alone
abbrev pub InformationStandsAlone : Type 0
InformationStandsAlone = (info : InfoView) → head_node info []
    ≡ made_node (codes "head") [] (nodes_of (charset_node ∷ viewport_node ∷ entry_nodes info))

-- the document is that of items alone too, whatever these nodes are, if the items have a root of
-- their own
abbrev pub OwnRootsHaveNoNodes : Type 0
OwnRootsHaveNoNodes = (info : InfoView) (head : List NodeView) (items notes : ItemsView) →
    have_own_root items ≡ true →
    linked_document_with_head info head items notes ≡ linked_document info items notes

-- such a document does not depend on the information either
abbrev pub OwnRootsHaveNoInfo : Type 0
OwnRootsHaveNoInfo = (info : InfoView) (items notes : ItemsView) → have_own_root items ≡ true →
    linked_root info items notes ≡ linked_root no_info items notes
