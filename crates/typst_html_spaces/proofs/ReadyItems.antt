-- The walk goes past the nodes of items in plain flow.
use Rattle.std.proofs.{Common.{◌≡◌, true, inr}, lemmas.Bool.{false≢true, and_parts}}
use Rattle.html_flow_convert.specs.Converted.{RoleText, item_role, body_role, item_nodes, items_nodes, body_nodes, converted_nodes}
use Rattle.html_flow_convert.specs.Items.{ItemView, tag_item, element_item, space_item, text_item, hole_item, break_item, block_item, ItemsView, no_items, item, BodyView, absent, present}
use Rattle.html_flow_convert.specs.{LoneNode.{block_nodes}, Runs.{nodes_with_runs}, declared.convert.ConversionLevel.TheVariants.{Block}}
use Rattle.html_flow_convert.specs.declared.convert.Whitespace.TheVariants.{Normal}
use Rattle.typst_html_spaces.proofs.{Each.{Each, Each-append, Each-weaker}, MadeNodes.{body_made}, PlainParts.{plain_head}}
use Rattle.typst_html_spaces.proofs.{ReadyBlocks.{Stay, block_ready}, ReadyElements.{body_runs, block_body_stays, element_ready}}
use Rattle.typst_html_spaces.proofs.{ReadyNodes.{tag_ready, space_ready, break_ready}, ReadyPieces.{AlmostReady, text_ready}}
use Rattle.typst_html_spaces.proofs.{ReadyRuns.{runs_ready}, Walks.{Ready, protected_stay}}
use Rattle.typst_html_spaces.specs.PlainFlow.{is_plain_item, are_plain_items, is_plain_body}

mutual
  unfolding item_nodes is_plain_item

  item_ready : (role : RoleText) (i : ItemView) → is_plain_item Normal i ≡ true →
      Each AlmostReady (item_nodes Normal role i)
  item_ready role (tag_item t) e = (inr (tag_ready t), tt)
  item_ready role (element_item h body) e =
      let both = and_parts _ _ e in (
        inr (element_ready role h body (plain_head h both.0) both.1
            (λ f. body_ready (body_role role h) body f)),
        tt,
      )
  item_ready role (space_item span) e = (inr (space_ready span), tt)
  item_ready role (text_item s span) e = text_ready span s
  item_ready role hole_item e = tt
  item_ready role (break_item span) e = (inr (break_ready span), tt)
  item_ready role (block_item body span) e =
      let f = (and_parts _ _ e).1 in
      let ns = body_nodes Block Normal role body in
      Each-weaker Ready AlmostReady (λ n s. inr s) (block_nodes span ns) (block_ready span ns (body_made Block Normal role body f)
      (block_body_stays role body (body_ready role body f)))
  item_ready role i e = absurd (false≢true e)

  items_ready : (role : RoleText) (items : ItemsView) → are_plain_items Normal items ≡ true →
      Each AlmostReady (items_nodes Normal role items)
  items_ready role no_items e = tt
  items_ready role (item i own items) e =
      let both = and_parts _ _ e in
      Each-append AlmostReady (item_nodes Normal (item_role role own) i)
      (items_nodes Normal role items) (item_ready (item_role role own) i both.0)
      (items_ready role items both.1)

  body_ready : (role : RoleText) (body : BodyView) → is_plain_body Normal body ≡ true →
      Each Ready (body_runs role body)
  body_ready role absent e = tt
  body_ready role (present items) e =
      runs_ready (items_nodes Normal role items) (items_ready role items e)

-- each collapsible blank of the nodes of plain flow is a space that stays
pub items_stay : (role : RoleText) (items : ItemsView) → are_plain_items Normal items ≡ true →
    Stay (converted_nodes Block Normal role items)
items_stay role items e =
    protected_stay (nodes_with_runs (items_nodes Normal role items))
    (runs_ready (items_nodes Normal role items) (items_ready role items e))
