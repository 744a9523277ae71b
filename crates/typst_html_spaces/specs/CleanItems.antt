-- Clean items: their texts and labels hold text characters alone, and no void element has a body.
-- So the nodes that they become can be written.
use Rattle.std.specs.Prelude.{◌≡◌, Bool, true, false, not, ◌&&◌, ◌||◌}
use Rattle.html_names_core.specs.{Characters.{all, is_text_char}, Kinds.{is_void}}
use Rattle.html_dom_tree.specs.Styled.{styled_nodes}
use Rattle.html_flow_convert.specs.Converted.{RoleText, converted_nodes}
use Rattle.html_flow_convert.specs.Items.{RoleView, inherits, sets, unsets, ItemView, tag_item, element_item, space_item, text_item, hole_item, break_item, box_item, block_item, frame_item, ItemsView, no_items, item, BodyView, absent, present}
use Rattle.html_flow_convert.specs.declared.convert.{ConversionLevel.TheVariants.{Block}, Whitespace.TheVariants.{Normal}}
use Rattle.typst_html_spaces.specs.{CleanNodes.{is_clean_text, is_clean_tag, are_clean_values, AreCleanNodes}, PlainFlow.{is_plain_flow}}

abbrev pub is_clean_role : RoleView → Bool
is_clean_role inherits = true
is_clean_role (sets text) = all is_text_char text
is_clean_role unsets = true

abbrev pub is_absent : BodyView → Bool
is_absent absent = true
is_absent (present items) = false

unfoldable mutual
  pub is_clean_item : ItemView → Bool
  is_clean_item (tag_item t) = is_clean_tag t
  is_clean_item (element_item h body) = are_clean_values h.attrs
      && (not (is_void h.name) || is_absent body) && is_clean_body body
  is_clean_item (space_item span) = true
  is_clean_item (text_item s span) = all is_text_char s
  is_clean_item hole_item = true
  is_clean_item (break_item span) = true
  is_clean_item (box_item body span) = is_clean_body body
  is_clean_item (block_item body span) = is_clean_body body
  is_clean_item (frame_item f) = true

  pub are_clean_items : ItemsView → Bool
  are_clean_items no_items = true
  are_clean_items (item i role items) =
      is_clean_role role && is_clean_item i && are_clean_items items

  pub is_clean_body : BodyView → Bool
  is_clean_body absent = true
  is_clean_body (present items) = are_clean_items items

-- clean items of plain flow become clean nodes
abbrev pub CleanItemsMakeCleanNodes : Type 0
CleanItemsMakeCleanNodes = (role : RoleText) (items : ItemsView) → is_clean_text role ≡ true →
    is_plain_flow items ≡ true → are_clean_items items ≡ true →
    AreCleanNodes false (styled_nodes (converted_nodes Block Normal role items))
