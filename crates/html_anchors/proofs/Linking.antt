-- Links in a list of nodes, one after the other, and names of destinations.
use Rattle.std.proofs.Common.{◌≡◌, ◌<◌, ℕ, List, [], ◌∷◌, ◌++◌, Option, None, Some, length, chars, IsUtf8, refl, sym, ap, ◌∙◌, append_assoc, arith}
use Rattle.std.proofs.lemmas.Str.{chars-nil, encodes-chars}
use lib.Utf8.{encodes}
use Rattle.html_dom_tree.specs.{Tree.{TextPair, Head, NodeView, element_node, NodesView, node}, Views.{nodes_of}}
use Rattle.html_anchors.specs.Links.{Anchors, Hrefs, attrs_with_href, dest_before, href_of, name_of, node_with_links, nodes_with_links, open_dest}
use Rattle.html_links.specs.Spellings.{some_name}

pub no_name : (bytes : List ℕ) → length bytes ≡ 0 → some_name (Some (chars bytes)) ≡ None
no_name [] empty = rw chars-nil refl
no_name (c ∷ cs) empty = absurd (omega (arith, empty))

pub a_name : (bytes : List ℕ) → IsUtf8 bytes → 0 < length bytes →
    some_name (Some (chars bytes)) ≡ Some (chars bytes)
a_name bytes utf8 some = by (chars bytes) refl
  where
    by : (name : List ℕ) → chars bytes ≡ name → some_name (Some name) ≡ Some name
    by [] empty =
        absurd (omega (arith, some, ap length (sym (encodes-chars bytes utf8) ∙ ap encodes empty)))
    by (c ∷ cs) is = refl

pub name_there : (anchor : Anchors) (dest : Option ℕ) (d : ℕ) (name : Option (List ℕ)) →
    dest ≡ Some d → name ≡ anchor d → some_name name ≡ name_of anchor dest
name_there anchor dest d name dest_is name_is = rw dest_is (ap some_name name_is)

pub element_has_links : (hrefs : Hrefs) (dest : Option ℕ) (h : Head) (attrs : List TextPair)
    (made kids : NodesView) → attrs ≡ attrs_with_href (href_of hrefs (open_dest h dest)) h.attrs →
    made ≡ nodes_with_links hrefs [] kids →
    element_node (record h { attrs = attrs }) made ≡ node_with_links hrefs dest (element_node h kids)
unfolding node_with_links
element_has_links hrefs dest h attrs made kids attrs_are made_are =
    ap (λ a. element_node (record h { attrs = a }) made) attrs_are
    ∙ ap (element_node (record h {
      attrs = attrs_with_href (href_of hrefs (open_dest h dest)) h.attrs;
    })) made_are

-- the nodes of a list, each with those before it
abbrev pub list_with_links : Hrefs → (before ns : List NodeView) → List NodeView
list_with_links hrefs before [] = []
list_with_links hrefs before (n ∷ ns) =
    node_with_links hrefs (dest_before before) n ∷ list_with_links hrefs (n ∷ before) ns

pub nodes_with_links-nodes_of : (hrefs : Hrefs) (before ns : List NodeView) →
    nodes_with_links hrefs before (nodes_of ns) ≡ nodes_of (list_with_links hrefs before ns)
unfolding nodes_with_links
nodes_with_links-nodes_of hrefs before [] = refl
nodes_with_links-nodes_of hrefs before (n ∷ ns) =
    ap (node (node_with_links hrefs (dest_before before) n))
    (nodes_with_links-nodes_of hrefs (n ∷ before) ns)

pub one_more_with_links : (hrefs : Hrefs) (dest : Option ℕ) (before made : List NodeView)
    (n m : NodeView) (left rest whole : List NodeView) → dest ≡ dest_before before →
    m ≡ node_with_links hrefs dest n → left ≡ n ∷ rest →
    made ++ list_with_links hrefs before left ≡ whole →
    (made ++ m ∷ []) ++ list_with_links hrefs (n ∷ before) rest ≡ whole
one_more_with_links hrefs dest before made n m left rest whole behind is left_is agrees =
    append_assoc made (m ∷ []) (list_with_links hrefs (n ∷ before) rest)
    ∙ (ap (λ k. made ++ k ∷ list_with_links hrefs (n ∷ before) rest)
    (is ∙ ap (λ d. node_with_links hrefs d n) behind)
    ∙ (ap (λ l. made ++ list_with_links hrefs before l) (sym left_is) ∙ agrees))
