-- Bodies that get more items at their ends.
use Rattle.std.{proofs.Common.{◌≡◌, [], ◌∷◌, ◌++◌, Some, Vec, refl, ap, ◌∙◌}, specs.Str.{chars}, specs.declared.alloc.Global.{Global}}
use Rattle.html_flow_convert.proofs.Bodies.{head_of, view_with_body, view_with_list, with_list}
use Rattle.html_flow_convert.specs.{Items.{item, present}, Views.{elem_view, items_of, pairs_view}}
use Rattle.html_flow_convert.specs.declared.item.{HtmlElem.{HtmlElem}, Pair.{Pair}, Item.TheViews.{out-HtmlElem, roll-HtmlElem}}
use Rattle.html_flow_lists.specs.{ItemLists.{Pairs}, Notes.{with_items_behind, with_longer_body}}

-- the arrow of a link back, in UTF-8
pub arrow_chars : chars (0xe2 ∷ 0x86 ∷ 0xa9 ∷ 0xef ∷ 0xb8 ∷ 0x8e ∷ []) ≡ 0x21a9 ∷ 0xfe0e ∷ []
unfolding chars
arrow_chars = refl

items_behind : (xs more : Pairs) → items_of (xs ++ more) ≡ with_items_behind (items_of xs) more
items_behind [] more = refl
items_behind (x ∷ xs) more = ap (λ is. item x.0 x.1 is) (items_behind xs more)

-- an element whose body has more items, as it is seen
pub longer_body_view : (e : HtmlElem) (old new : Vec Pair Global) (more : Pairs) →
    (out-HtmlElem e).body ≡ Some old → pairs_view new.items ≡ pairs_view old.items ++ more →
    elem_view (roll-HtmlElem (with_list e new)) ≡ with_longer_body more (elem_view e)
longer_body_view e old new more had grown =
    view_with_list e new
    ∙ rw (view_with_body e old had)
    (ap (λ is. (head_of e, present is)) (ap items_of grown ∙ items_behind (pairs_view old.items) more))
