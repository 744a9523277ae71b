-- A list of items, one after the other: their nodes, and what of them stands too deep.
use Rattle.std.proofs.Common.{◌≡◌, ℕ, List, [], ◌∷◌, ◌++◌, sym, ap, ◌∙◌, append_assoc, subst}
use Rattle.html_dom_tree.specs.Tree.{NodeView}
use Rattle.html_flow_convert.specs.{Converted.{RoleText, item_role, item_nodes, items_nodes}, Depth.{item_too_deep, items_too_deep}}
use Rattle.html_flow_convert.specs.Items.{RoleView, ItemView, ElemView, ItemsView, item}
use Rattle.html_flow_convert.specs.Views.{role_view, item_step, elem_step, pair_step, item_view, items_of, pair_view, pairs_view, items_view}
use Rattle.html_flow_convert.specs.declared.{convert.Whitespace.{Whitespace}, item.Pair.{Pair, fold_out-Pair}}
use Rattle.html_flow_faults.specs.{FlowFaults.{IsFirst}, declared.fault.FlowFault.{FlowFault}}
use Rattle.html_flow_faults.specs.declared.fault.FlowFault.TheVariants.{OutOfMemory, TooDeep}

-- the first of a list is the first of a longer one
first_of_more : (e : FlowFault) (xs ys : List ℕ) → IsFirst e xs → IsFirst e (xs ++ ys)
first_of_more OutOfMemory xs ys h = tt
first_of_more (TooDeep span) xs ys h = (h.0 ++ ys, ap (λ l. l ++ ys) h.1)

pair_seen : (p : Pair) → pair_view p ≡ (item_view p.item, role_view p.role)
pair_seen p = fold_out-Pair ItemView ElemView (ItemView × RoleView) item_step elem_step pair_step p

module _ (pairs later : List Pair) (p : Pair) (is : pairs ≡ p ∷ later) where
  abbrev left : ItemsView
  left = items_view pairs

  abbrev others : ItemsView
  others = items_view later

  split : left ≡ item (item_view p.item) (role_view p.role) others
  split = ap items_view is ∙ ap (λ v. items_of (v ∷ pairs_view later)) (pair_seen p)

  -- the nodes of an item come before those of the others
  pub nodes_added : (ws own_ws : Whitespace) (role own : RoleText) (out new all : List NodeView) →
      own_ws ≡ ws → own ≡ item_role role (role_view p.role) →
      out ++ items_nodes ws role left ≡ all →
      new ≡ out ++ item_nodes own_ws own (item_view p.item) →
      new ++ items_nodes ws role others ≡ all
  unfolding item_nodes
  nodes_added ws own_ws role own out new all same own_is held added =
      rw (added, same, own_is, append_assoc)
      (ap (λ items. out ++ items_nodes ws role items) (sym split) ∙ held)

  module _ (depth limit own_depth own_limit : ℕ) (all : List ℕ) (so_deep : own_depth ≡ depth)
      (so_far : own_limit ≡ limit) (held : items_too_deep depth limit left ≡ all) where
    joined : item_too_deep own_depth own_limit (item_view p.item)
        ++ items_too_deep depth limit others ≡ all
    unfolding item_too_deep
    joined = rw (so_deep, so_far) (ap (items_too_deep depth limit) (sym split) ∙ held)

    pub none_passed : item_too_deep own_depth own_limit (item_view p.item) ≡ [] →
        items_too_deep depth limit others ≡ all
    none_passed none =
        ap (λ l. l ++ items_too_deep depth limit others) (sym none) ∙ joined

    pub first_left : (e : FlowFault) →
        IsFirst e (item_too_deep own_depth own_limit (item_view p.item)) → IsFirst e all
    first_left e first = subst (IsFirst e) joined (first_of_more e _ _ first)
