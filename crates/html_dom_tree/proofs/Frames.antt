-- Lists of items with one view are equally long.
use Rattle.std.proofs.Common.{◌≡◌, ℕ, suc, List, [], ◌∷◌, length, ap, refl}
use Rattle.html_dom_tree.specs.{FrameViews.{frame_items_view}, Frames.{FrameItemsView, no_frame_items, placed_item}}
use Rattle.html_dom_tree.specs.declared.frame.{FrameItem.{FrameItem}, Point.{Point}}

abbrev count : FrameItemsView → ℕ
count no_frame_items = 0
count (placed_item position content rest) = suc (count rest)

counted : (xs : List (Point × FrameItem)) → count (frame_items_view xs) ≡ length xs
counted [] = refl
counted (x ∷ xs) = ap suc (counted xs)

pub same_items_length : (xs ys : List (Point × FrameItem)) →
    frame_items_view xs ≡ frame_items_view ys → length xs ≡ length ys
same_items_length xs ys e = let p = counted xs in let q = counted ys in let r = ap count e in cc
