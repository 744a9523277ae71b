-- The root of a document of items in plain flow, with nodes in its head that can be read and with
-- anchors: if it has no fault, it can be read.
use Rattle.std.proofs.Common.{◌≡◌, Bool, true, false, List, [], ◌∷◌, ◌++◌, None, codes, sym, subst, ◌∙◌, append-nil}
use Rattle.std.proofs.lemmas.Bool.{both_ways}
use Rattle.html_names_core.specs.Kinds.{is_raw}
use Rattle.html_dom_tree.specs.FrameFree.{NodeIsFrameFree, NodesAreFrameFree, ElementIsFrameFree}
use Rattle.html_dom_tree.specs.{Tree.{NodeView, element_node, NodesView, none, node, ElementView, new_element}, Views.{nodes_of}}
use Rattle.html_dom_document.specs.Documents.{InfoView}
use Rattle.html_anchors.specs.{Anchors.{element_with_anchors}, Events.{Targets}}
use Rattle.html_flow_convert.specs.Items.{ItemsView, no_items}
use Rattle.typst_html_encode.specs.ExportFaults as writing
use Rattle.typst_html_encode.{proofs.IndentsCollapse.{body_is_not_raw}, specs.ExportFaults.{node_faults}, specs.FrameWriters.{Frames}}
use Rattle.typst_html_encode.specs.{Indented.{NodeEndsWell, NodesEndWell, ElementEndsWell}, Layout.{is_pretty_inside}}
use Rattle.typst_html_encode.specs.declared.options.HtmlOptions.{HtmlOptions}
use Rattle.typst_html_spaces.proofs.{DeepNodes.{of_each}, PlainNodes.{makes_plain_nodes, plain_readable}}
use Rattle.typst_html_spaces.proofs.ReadableNodes.{readable_can_be_read, frames_kept}
use Rattle.typst_html_spaces.specs.{Anchored.{nothing}, Changed.{Changed, at_end, at_element}, PlainFlow.{is_plain_flow}}
use Rattle.typst_html_spaces.specs.ReadableNodes.{AreReadable}
use Rattle.typst_html_export.proofs.AnchoredRoots.{root_anchored}
use Rattle.typst_html_export.proofs.PlainRoots.{entries_with, entries_readable, inside_of, linked_root_is, made_not_raw, root_over, top_of}
use Rattle.typst_html_export.proofs.RawEndings.{written_change, styled_anchored, ends_kept, in_any_mode}
use Rattle.typst_html_export.specs.{Assembled.{document_nodes}, DocumentHead.{charset_node, viewport_node, entry_nodes}}
use Rattle.typst_html_export.specs.{Exported.{linked_root_with_head}, HeadNodes.{HeadIsReadable}}

frame_free_append : (ns more : List NodeView) → NodesAreFrameFree (nodes_of ns) →
    NodesAreFrameFree (nodes_of more) → NodesAreFrameFree (nodes_of (ns ++ more))
unfolding NodeIsFrameFree
frame_free_append [] more e f = f
frame_free_append (n ∷ ns) more e f = (e.0, frame_free_append ns more e.1 f)

end_well_append : (ns more : List NodeView) → NodesEndWell true (nodes_of ns) →
    NodesEndWell true (nodes_of more) → NodesEndWell true (nodes_of (ns ++ more))
unfolding NodeEndsWell
end_well_append [] more e f = f
end_well_append (n ∷ ns) more e f = (e.0, end_well_append ns more e.1 f)

abbrev made_entries : InfoView → List NodeView
made_entries info = charset_node ∷ viewport_node ∷ entry_nodes info

made_entries_readable : (info : InfoView) → AreReadable (nodes_of (made_entries info))
made_entries_readable info = (
  (made_not_raw.3, tt),
  ((made_not_raw.3, tt), of_each _ false (entry_nodes info) (entries_readable info)),
)

module _ (info : InfoView) (head : List NodeView) (items : ItemsView)
    (plain : is_plain_flow items ≡ true) where
  abbrev inside : NodesView
  inside = inside_of (entries_with info head) (document_nodes items)

  items_can_be_read : NodesAreFrameFree (document_nodes items)
      × ((pretty : Bool) → NodesEndWell pretty (document_nodes items))
  items_can_be_read =
      let ns : NodesView = document_nodes items in
      readable_can_be_read ns (plain_readable ns (makes_plain_nodes None items plain).0)

  inside_frame_free : NodesAreFrameFree (nodes_of head) → NodesAreFrameFree inside
  unfolding NodeIsFrameFree
  inside_frame_free own =
      let ns = made_entries info in
      let made = readable_can_be_read (nodes_of ns) (made_entries_readable info) in
      (frame_free_append ns head made.0 own, (items_can_be_read.0, tt))

  inside_ends : NodesEndWell true (nodes_of head) → NodesEndWell true inside
  unfolding NodeEndsWell
  inside_ends own =
      let ns = made_entries info in
      let kids : NodesView = nodes_of (ns ++ head) in
      let made = readable_can_be_read (nodes_of ns) (made_entries_readable info) in (
        (
          λ r. absurd (both_ways (is_raw (codes "head")) made_not_raw.1 r),
          in_any_mode (is_pretty_inside (new_element (codes "head")).0 kids) kids
              (end_well_append ns head (made.1 true) own),
        ),
        (
          (
            λ r. absurd (both_ways (is_raw (codes "body")) body_is_not_raw r),
            items_can_be_read.1
                (is_pretty_inside (new_element (codes "body")).0 (document_nodes items)),
          ),
          tt,
        ),
      )

  module _ (x : Targets) where
    abbrev old : ElementView
    old = root_over info (entries_with info head) (document_nodes items)

    abbrev root : ElementView
    root = element_with_anchors x old

    changed : Changed written_change inside root.1
    changed = styled_anchored inside (root_anchored x old)

    root_frame_free : NodesAreFrameFree (nodes_of head) → ElementIsFrameFree root
    root_frame_free own = (frames_kept changed).1 (inside_frame_free own)

    root_ends : (frames : Frames) (pretty : Bool) → writing.element_faults frames pretty root ≡ [] →
        NodesEndWell true (nodes_of head) → ElementEndsWell true root
    unfolding element_with_anchors NodeEndsWell node_faults
    root_ends frames pretty clean own =
        let top = top_of info in
        let whole : Changed written_change (node (element_node top inside) none)
        (node (element_node root.0 root.1) none) = at_element nothing changed at_end in
        (ends_kept frames whole false pretty true
        (append-nil (node_faults frames false pretty (element_node root.0 root.1)) ∙ clean) (
          (
            λ r. absurd (both_ways (is_raw (codes "html")) made_not_raw.0 r),
            in_any_mode (is_pretty_inside top inside) inside (inside_ends own),
          ),
          tt,
        )).0

pub no_head_is_readable : (options : HtmlOptions) → HeadIsReadable options none
unfolding NodeIsFrameFree NodeEndsWell
no_head_is_readable options = record { frame_free = tt; ends_well = λ pretty. tt }

abbrev CanBeReadIn : HtmlOptions → ElementView → Type 0
CanBeReadIn options root =
    ElementIsFrameFree root × (options.pretty ≡ true → ElementEndsWell true root)

pub root_can_be_read : (info : InfoView) (head : List NodeView) (items notes : ItemsView)
    (frames : Frames) (options : HtmlOptions) → HeadIsReadable options (nodes_of head) →
    writing.document_faults frames options (linked_root_with_head info head items notes) ≡ [] →
    is_plain_flow items ≡ true → notes ≡ no_items →
    CanBeReadIn options (linked_root_with_head info head items notes)
root_can_be_read info head items notes frames options own clean plain alone =
    let is = linked_root_is info head items plain in
    subst (λ n. writing.document_faults frames options (linked_root_with_head info head items n) ≡ [] →
    CanBeReadIn options (linked_root_with_head info head items n)) (sym alone)
    (subst (λ r. writing.document_faults frames options r ≡ [] → CanBeReadIn options r) (sym is.1)
    (λ fine. (
      root_frame_free info head items plain is.0 own.frame_free,
      λ pretty. root_ends info head items plain is.0 frames options.pretty fine (own.ends_well pretty),
    ))) clean
