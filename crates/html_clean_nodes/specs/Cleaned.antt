-- The nodes that stay of foreign ones: in one walk each is judged by the policy, and by the rules of
-- nesting under what stays around it. An element that does not stay gives place to what stays of its
-- children; with those elements that a browser would run, load or read in another way, all that is in
-- them goes.
use Rattle.std.specs.Prelude.{ℕ, ◌-◌, Bool, true, false, not, ◌&&◌, ◌||◌, ◌==◌, List, [], ◌∷◌, length, slice_index, if◌then◌else◌}
use Rattle.html_names_core.specs.Kinds.{is_void, is_whitespace_collapsing}
use Rattle.html_dom_tree.specs.Tree.{Head, NodeView, tag_node, text_node, element_node, frame_node, NodesView, none, node, plain_head, with_last}
use Rattle.html_page_names.specs.PageNames.{of}
use Rattle.html_page_names.specs.declared.kind.Kind.TheVariants as kind
use Rattle.html_page_nesting.specs.{Kept.{in_body, keeps_element, keeps_text}, Walks.{surroundings_in}}
use Rattle.html_page_nesting.specs.declared.surroundings.Surroundings.{Surroundings}
use Rattle.html_clean_values.specs.Replaced.{replaced}
use Rattle.html_clean_policy.specs.{KeptAttrs.{attrs_kept}, Policies.{PolicyView, allows, is_dropped}}

-- an element with the attributes that stay
abbrev pub kept_head : PolicyView → Head → Head
kept_head p h = plain_head h.name (attrs_kept p h.name h.attrs) h.span

-- whether an element stays: the policy allows it, and browsers leave it where it is
abbrev pub stays : PolicyView → Surroundings → Head → Bool
stays p around h = allows p h.name && keeps_element around (kept_head p h) none

-- whether words on both sides of an edge of the element are apart: it is a block
abbrev pub parts : Head → Bool
parts h = is_whitespace_collapsing h.name || of kind.ClosesP h.name

abbrev pub last_is : (c : ℕ) → List ℕ → Bool
last_is c text = slice_index text (length text - 1) == c

-- whether a node is a text that ends in a space or a line feed
abbrev pub is_gap : NodeView → Bool
is_gap (tag_node t) = false
is_gap (text_node s span) = last_is 32 s || last_is 10 s
is_gap (element_node h kids) = false
is_gap (frame_node f) = false

-- whether nothing stands there, or such a text stands last
abbrev pub end_apart : NodesView → Bool
end_apart none = true
end_apart (node n none) = is_gap n
end_apart (node n (node m ms)) = end_apart (node m ms)

-- the nodes, and a line feed behind them if it is to part words
abbrev pub parted : Bool → NodesView → NodesView
parted apart made = if apart && not (end_apart made) then with_last made (text_node (10 ∷ []) 0)
    else made

-- a text without the byte order marks at its beginning, which a reader of a page or fragment drops
abbrev pub without_marks : List ℕ → List ℕ
without_marks [] = []
without_marks (c ∷ cs) = if c == 0xfeff then without_marks cs else c ∷ cs

abbrev pub is_marked : List ℕ → Bool
is_marked [] = false
is_marked (c ∷ cs) = c == 0xfeff

-- a text behind the nodes, unless it is empty
abbrev pub with_text : NodesView → (text : List ℕ) → (span : ℕ) → NodesView
with_text made [] span = made
with_text made (c ∷ cs) span = with_last made (text_node (c ∷ cs) span)

-- what is added of a text: the first one of an element begins with no byte order mark
abbrev pub first_text : NodesView → List ℕ → List ℕ
first_text none text = without_marks text
first_text (node n ns) text = text

abbrev pub text_cleaned : Surroundings → (made : NodesView) → (text : List ℕ) → (span : ℕ) → NodesView
text_cleaned around made text span =
    if keeps_text around text then with_text made (first_text made text) span else made

-- what stays of a node, behind what stays of those before it in its element
unfoldable mutual
  pub node_cleaned : PolicyView → Surroundings → (made : NodesView) → NodeView → NodesView
  node_cleaned p around made (tag_node t) = made
  node_cleaned p around made (text_node s span) = text_cleaned around made (replaced s) span
  node_cleaned p around made (element_node h kids) = if is_dropped h.name then made
      else (if stays p around h
      then with_last made (element_node (kept_head p h) (if is_void h.name then none
      else nodes_cleaned p (surroundings_in (kept_head p h) around) none kids))
      else parted (parts h) (nodes_cleaned p around (parted (parts h) made) kids))
  node_cleaned p around made (frame_node f) = made

  pub nodes_cleaned : PolicyView → Surroundings → (made : NodesView) → NodesView → NodesView
  nodes_cleaned p around made none = made
  nodes_cleaned p around made (node n ns) =
      nodes_cleaned p around (node_cleaned p around made n) ns

-- what stays of the nodes of a fragment, in the `body` of a page
abbrev pub cleaned : PolicyView → NodesView → NodesView
cleaned p ns = nodes_cleaned p in_body none ns
