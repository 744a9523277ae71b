-- The next of what a walk comes to.
use Rattle.std.proofs.Common.{◌≡◌, ℕ, suc, ◌<◌, List, [], ◌∷◌, ◌++◌, String, Global, drop, get_or, length, refl, ap, ◌∙◌, add-one, rules}
use Rattle.html_names_core.specs.Texts.{text_view}
use Rattle.html_dom_tree.proofs.{Basics.{node_view-Tag, node_view-Text, node_view-Element}, Nodes.{nodes_view-drop}}
use Rattle.html_dom_tree.specs.{FrameViews.{html_frame_view}, Tree.{frame_node}, Views.{head_of, node_view, nodes_view, tag_view}}
use Rattle.html_dom_tree.specs.declared.{frame.HtmlFrame.{HtmlFrame}, introspection.Tag.{Tag}}
use Rattle.html_dom_tree.specs.declared.node.{HtmlElement.{HtmlElement}, HtmlNode.{HtmlNode, the_lemmas}}
use Rattle.html_dom_tree.specs.declared.node.HtmlNode as HtmlNode
use Rattle.html_dom_tree.specs.declared.span.Span.{Span}
use Rattle.html_dom_walk.specs.Events.{Placed, tag, text, frame, enter, leave, node_events, events_of}

-- with nodes left of which the first is at that index of a list
module _ (parent : List ℕ) (ns : List HtmlNode) (i : ℕ) (n : HtmlNode) (later : List Placed)
    (within : i < length ns) (is : n ≡ get_or ns i n) where
  abbrev path : List ℕ
  path = parent ++ i ∷ []

  abbrev rest : List Placed
  rest = events_of parent (suc i) (nodes_view (drop (suc i) ns)) later

  abbrev events : List Placed
  events = events_of parent i (nodes_view (drop i ns)) later

  first_is : (m : HtmlNode) → n ≡ m → events ≡ node_events path (node_view m) rest
  unfolding events_of
  first_is m k =
      ap (λ l. events_of parent i l later) (nodes_view-drop ns i n within is)
      ∙ (ap (λ j. node_events path (node_view n)
      (events_of parent (suc i) (nodes_view (drop j ns)) later)) (add-one i)
      ∙ ap (λ x. node_events path (node_view x) rest) k)

  pub tag_next : (t : Tag) → n ≡ HtmlNode.Tag t → events ≡ (path, tag (tag_view t)) ∷ rest
  unfolding events_of
  tag_next t k = first_is (HtmlNode.Tag t) k ∙ ap (λ m. node_events path m rest) (node_view-Tag t)

  pub text_next : (s : String Global) (span : Span) → n ≡ HtmlNode.Text s span →
      events ≡ (path, text (text_view s) span.0) ∷ rest
  unfolding events_of
  text_next s span k =
      first_is (HtmlNode.Text s span) k ∙ ap (λ m. node_events path m rest) (node_view-Text s span)

  pub frame_next : (f : HtmlFrame) → n ≡ HtmlNode.Frame f →
      events ≡ (path, frame (html_frame_view f)) ∷ rest
  unfolding events_of
  frame_next f k =
      let seen : node_view (HtmlNode.Frame f) ≡ frame_node (html_frame_view f) =
      search (rules, the_lemmas) in
      first_is (HtmlNode.Frame f) k ∙ ap (λ m. node_events path m rest) seen

  pub element_next : (el : HtmlElement) → n ≡ HtmlNode.Element el → events
      ≡ (path, enter (head_of el) (nodes_view el.children.items))
      ∷ events_of path 0 (nodes_view el.children.items)
      ((path, leave) ∷ rest)
  unfolding events_of
  element_next el k =
      first_is (HtmlNode.Element el) k ∙ ap (λ m. node_events path m rest) (node_view-Element el)

-- with no node left
pub none_next : (parent : List ℕ) (i : ℕ) (later : List Placed) →
    events_of parent i (nodes_view []) later ≡ later
unfolding events_of
none_next parent i later = refl
