-- What is seen of the body of a document that is written and read.
use Rattle.std.proofs.Common.{◌≡◌, Bool, true, false, Some, ap, ◌∙◌}
use Rattle.html_names_core.specs.Kinds.{is_raw}
use Rattle.html_dom_tree.specs.{PlainTree.{nodes_normal, element_normal}, Styled.{styled_nodes}, Tree.{NodesView, ElementView}}
use Rattle.html_dom_shown.specs.{Bodies.{body_children}, SeenBodies.{seen_plains, seen_body, seen_tree}}
use Rattle.typst_html_encode.{proofs.{IndentsCollapse.{body_collapses, body_normal}, ReadingBack.{reads_back}}, specs.FrameWriters.{Frames}}
use Rattle.typst_html_encode.specs.{Indented.{element_layout}, IndentsCollapse.{NodesAreEdged}, Text.{document_text}}
use Rattle.html_flow_convert.specs.{Converted.{converted_nodes}, declared.convert.ConversionLevel.TheVariants.{Block}}
use Rattle.html_flow_convert.specs.declared.convert.Whitespace.TheVariants.{Normal}
use Rattle.typst_html_spaces.proofs.{EdgedNodes.{converted_are_edged}, SpacesStay.{spaces_stay}}
use Rattle.typst_html_spaces.specs.SeenBody.{seen_text, CanBeRead, BodyIsSeen, ItemsAreSeen}

-- of the tree that a root's text reads as

module _ (e : ElementView) (body : NodesView) (is : body_children e.1 ≡ Some body) where
  pub plain_tree_seen : seen_tree (Some (element_normal e)) ≡ Some (seen_plains (nodes_normal body))
  plain_tree_seen = ap seen_body (body_normal e.1 body is)

  pub pretty_tree_seen : is_raw e.0.name ≡ false → NodesAreEdged body →
      seen_tree (Some (element_normal (element_layout e))) ≡ Some (seen_plains (nodes_normal body))
  pretty_tree_seen not_raw edged =
      let inside = body_collapses e body not_raw is edged in
      ap seen_body inside.1 ∙ ap Some inside.2

-- of the text

module _ (frames : Frames) (e : ElementView) (body : NodesView) (is : body_children e.1 ≡ Some body)
    (edged : NodesAreEdged body) where
  seen_by : (pretty : Bool) → CanBeRead frames (record { pretty = pretty }) e →
      seen_text (document_text frames (record { pretty = pretty }) e)
      ≡ Some (seen_plains (nodes_normal body))
  seen_by false c =
      ap seen_tree ((reads_back frames).0 e c.named c.frame_free c.clean) ∙ plain_tree_seen e body is
  seen_by true c =
      ap seen_tree ((reads_back frames).1 e c.named c.frame_free c.ends_well c.clean)
      ∙ pretty_tree_seen e body is c.not_raw edged

pub body_is_seen : BodyIsSeen
body_is_seen frames options e body c is edged = seen_by frames e body is edged options.pretty c

pub items_are_seen : ItemsAreSeen
items_are_seen frames options e role items p c is =
    let body = converted_nodes Block Normal role items in
    body_is_seen frames options e (styled_nodes body) c is (converted_are_edged role items p)
    ∙ ap Some (spaces_stay role items p)
