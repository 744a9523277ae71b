-- A body with one item more.
use Rattle.std.{proofs.Common.{◌≡◌, List, [], ◌∷◌, ◌++◌, Some, option_map, Vec, refl, ap, ◌∙◌}, specs.declared.alloc.Global.{Global}}
use Rattle.html_dom_tree.specs.Views.{attrs_view}
use Rattle.html_flow_convert.specs.Items.{RoleView, ElemHead, ItemView, ElemView, item, present, with_last, with_last_item}
use Rattle.html_flow_convert.specs.Views.{item_step, elem_step, pair_step, pair_view, items_view, elem_view}
use Rattle.html_flow_convert.specs.declared.item.{HtmlElem.{HtmlElem, HtmlElem-F, fold_out-HtmlElem}, Item.{Item}, Pair.{Pair}}
use Rattle.html_flow_convert.specs.declared.item.Item.{TheFolds.{fold-roll-HtmlElem}, TheViews.{out-HtmlElem, roll-HtmlElem}}

pub with_last_view : (ps : List Pair) (p : Pair) →
    items_view (ps ++ p ∷ []) ≡ with_last (items_view ps) (pair_view p)
with_last_view [] p = refl
with_last_view (q ∷ ps) p =
    ap (λ is. item (pair_view q).0 (pair_view q).1 is) (with_last_view ps p)

-- an element whose body is that list, and all else as it was
abbrev pub with_list : HtmlElem → Vec Pair Global → HtmlElem-F Item HtmlElem Pair
with_list e more = record {
  tag = (out-HtmlElem e).tag;
  attrs = (out-HtmlElem e).attrs;
  css = (out-HtmlElem e).css;
  body = Some more;
  parent = (out-HtmlElem e).parent;
  span = (out-HtmlElem e).span;
}

-- all of an element but its body, as it is seen
abbrev pub head_of : HtmlElem → ElemHead
head_of e = record {
  name = (out-HtmlElem e).tag;
  attrs = attrs_view (out-HtmlElem e).attrs;
  css = (out-HtmlElem e).css;
  parent = option_map (λ l. l.0) (out-HtmlElem e).parent;
  span = (out-HtmlElem e).span.0;
}

-- an element that has a body, and one that gets another, as they are seen
pub view_with_body : (e : HtmlElem) (items : Vec Pair Global) → (out-HtmlElem e).body ≡ Some items →
    elem_view e ≡ (head_of e, present (items_view items.items))
view_with_body e items had =
    fold_out-HtmlElem ItemView ElemView (ItemView × RoleView) item_step elem_step pair_step e
    ∙ rw had refl

pub view_with_list : (e : HtmlElem) (items : Vec Pair Global) →
    elem_view (roll-HtmlElem (with_list e items))
    ≡ (head_of e, present (items_view items.items))
view_with_list e items =
    fold-roll-HtmlElem ItemView ElemView (ItemView × RoleView) item_step elem_step pair_step
    (with_list e items)

-- an element whose body has one item more, as it is seen
pub with_last_item_view : (e : HtmlElem) (items more : Vec Pair Global) (p : Pair) →
    (out-HtmlElem e).body ≡ Some items → more.items ≡ items.items ++ p ∷ [] →
    elem_view (roll-HtmlElem (with_list e more)) ≡ with_last_item (pair_view p) (elem_view e)
with_last_item_view e items more p had grown =
    view_with_list e more
    ∙ rw (view_with_body e items had)
    (ap (λ is. (head_of e, present is)) (ap items_view grown ∙ with_last_view items.items p))
