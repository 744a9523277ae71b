-- Where a walk is after a turn.
use Rattle.std.proofs.Common.{◌≡◌, ℕ, suc, true, false, List, [], ◌∷◌, ◌++◌, drop, reverse, sym, ap, ◌∙◌}
use Rattle.std.proofs.lemmas.{Grind.{reverse_onto}, List.{reverse-reverse}}
use Rattle.html_dom_tree.specs.{Views.{nodes_view}, declared.node.HtmlNode.{HtmlNode}}
use Rattle.html_dom_walk.specs.{Events.{Event, Placed, leave, events_of}, declared.walk.{Place.{Place}, Walk.{Walk}}}
use Rattle.html_dom_walk.specs.Walks.{above_view, back, events_after, events_left, parent_in, path_of, siblings_left}

path_is : (p : Place) (r : List ℕ) → back p ≡ r → p.path.items ≡ reverse r
path_is p r is = sym (reverse-reverse p.path.items) ∙ ap reverse is

-- at the end of an element
pub left_is : (p : Place) (parent : List ℕ) (ns : List HtmlNode) (above : List (List HtmlNode))
    (e : Event) → p.begun ≡ true → back p ≡ parent →
    (reverse parent, e) ∷ siblings_left true parent ns (events_after above (parent_in true parent))
    ≡ (p.path.items, e)
    ∷ siblings_left p.begun (back p) ns (events_after above (parent_in p.begun (back p)))
left_is p parent ns above e begun is =
    ap (λ path. (path, e) ∷ siblings_left true parent ns
    (events_after above (parent_in true parent))) (sym (path_is p parent is))
    ∙ (ap (λ r. (p.path.items, e) ∷ siblings_left true r ns (events_after above (parent_in true r)))
    (sym is)
    ∙ ap (λ b. (p.path.items, e)
    ∷ siblings_left b (back p) ns (events_after above (parent_in b (back p)))) (sym begun))

module _ (parent : List ℕ) (index : ℕ) (ns : List HtmlNode) (above : List (List HtmlNode))
    (e : Event) where
  abbrev path : List ℕ
  path = reverse parent ++ index ∷ []

  abbrev rest : List Placed
  rest = events_of (reverse parent) (suc index) (nodes_view (drop (suc index) ns))
      (events_after above parent)

  -- at a sibling
  pub passed_is : (p : Place) → p.begun ≡ true → back p ≡ index ∷ parent →
      (path, e) ∷ rest ≡ (p.path.items, e)
      ∷ siblings_left p.begun (back p) ns (events_after above (parent_in p.begun (back p)))
  passed_is p begun is =
      ap (λ l. (l, e) ∷ rest) (sym (reverse_onto parent index []))
      ∙ left_is p (index ∷ parent) ns above e begun is

  -- at the start of an element
  pub entered_is : (w : Walk) (kids : List HtmlNode) → w.place.begun ≡ false →
      back w.place ≡ index ∷ parent → above_view w.above ≡ ns ∷ above → w.siblings.now ≡ kids →
      (path, e) ∷ events_of path 0 (nodes_view kids) ((path, leave) ∷ rest)
      ≡ (path_of w, e) ∷ events_left w
  entered_is w kids begun is opened below =
      let r = index ∷ parent in
      ap (λ l. (l, e) ∷ events_of l 0 (nodes_view kids) ((l, leave) ∷ rest))
      (sym (reverse_onto parent index []))
      ∙ (ap (λ l. (l, e) ∷ siblings_left false r kids (events_after (ns ∷ above) r))
      (sym (path_is w.place r is))
      ∙ (ap (λ xs. (path_of w, e) ∷ siblings_left false r xs (events_after (ns ∷ above) r))
      (sym below)
      ∙ (ap (λ xs. (path_of w, e) ∷ siblings_left false r w.siblings.now (events_after xs r))
      (sym opened)
      ∙ (ap (λ l. (path_of w, e)
      ∷ siblings_left false l w.siblings.now (events_after (above_view w.above) l)) (sym is)
      ∙ ap (λ b. (path_of w, e) ∷ siblings_left b (back w.place) w.siblings.now
      (events_after (above_view w.above) (parent_in b (back w.place)))) (sym begun)))))
