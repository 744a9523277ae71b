-- The texts of a tree, apart from their places.
use Rattle.std.proofs.{Common.{◌≡◌, ℕ, suc, List, [], ◌∷◌, ◌++◌, refl, ap, sym, ◌∙◌, append_assoc}, lemmas.List.{append-nil, map-append}}
use Rattle.html_dom_tree.specs.FrameFree.{NodeIsFrameFree, NodesAreFrameFree}
use Rattle.html_dom_tree.specs.Tree.{tag_node, text_node, element_node, frame_node, NodesView, none, node, ElementView}
use Rattle.html_links.specs.{InDocument.{in_document}, TreeNames.{shown_names, Name, gathered_names}}
use Rattle.html_page_findings.specs.CheckLaws.{PlacedIdsAreIds, texts_of}
use Rattle.html_page_findings.specs.PlacedTexts.{Placed, TextKind, element_placed, head_texts, node_placed, nodes_placed, of_elements, placed_at}
use Rattle.html_page_findings.specs.RepeatedIds.{ids}

abbrev pub nodes_texts : TextKind → NodesView → List Name
nodes_texts kind none = []
nodes_texts kind (node (tag_node t) ns) = nodes_texts kind ns
nodes_texts kind (node (text_node s span) ns) = nodes_texts kind ns
nodes_texts kind (node (element_node h kids) ns) =
    head_texts kind h ++ (nodes_texts kind kids ++ nodes_texts kind ns)
nodes_texts kind (node (frame_node f) ns) = kind.framed f ++ nodes_texts kind ns

abbrev pub element_texts : TextKind → ElementView → List Name
element_texts kind e = head_texts kind e.0 ++ nodes_texts kind e.1

texts_of-append : (ps qs : List Placed) → texts_of (ps ++ qs) ≡ texts_of ps ++ texts_of qs
texts_of-append = map-append (λ (p : Placed). p.1)

texts_of-placed : (path : List ℕ) (texts : List Name) → texts_of (placed_at path texts) ≡ texts
texts_of-placed path [] = refl
texts_of-placed path (t ∷ ts) = ap (λ l. t ∷ l) (texts_of-placed path ts)

nodes_gathered : (kind : TextKind) (path : List ℕ) (i : ℕ) (ns : NodesView) →
    texts_of (nodes_placed kind path i ns) ≡ nodes_texts kind ns
unfolding nodes_placed node_placed
nodes_gathered kind path i none = refl
nodes_gathered kind path i (node (tag_node t) ns) = nodes_gathered kind path (suc i) ns
nodes_gathered kind path i (node (text_node s span) ns) = nodes_gathered kind path (suc i) ns
nodes_gathered kind path i (node (element_node h kids) ns) =
    let here = path ++ i ∷ [] in
    rw (
      texts_of-append,
      texts_of-append,
      texts_of-placed,
      nodes_gathered kind here 0 kids,
      nodes_gathered kind path (suc i) ns,
      append_assoc,
    ) refl
nodes_gathered kind path i (node (frame_node f) ns) =
    rw (texts_of-append, texts_of-placed, nodes_gathered kind path (suc i) ns) refl

pub gathered : (kind : TextKind) (e : ElementView) →
    texts_of (element_placed kind e) ≡ element_texts kind e
unfolding node_placed
gathered kind e = rw (texts_of-append, texts_of-placed, nodes_gathered kind [] 0 e.1) refl

shown_are : (ns : NodesView) → nodes_texts ids ns ≡ shown_names ns
unfolding gathered_names
shown_are none = refl
shown_are (node (tag_node t) ns) = shown_are ns
shown_are (node (text_node s span) ns) = shown_are ns
shown_are (node (element_node h kids) ns) = rw (shown_are kids, shown_are ns) refl
shown_are (node (frame_node f) ns) = rw (shown_are ns) refl

pub placed_ids_are_ids : PlacedIdsAreIds
unfolding gathered_names
placed_ids_are_ids e =
    let d = in_document e in
    gathered ids d
    ∙ ap (λ names. head_texts ids d.0 ++ names) (shown_are d.1 ∙ sym (append-nil (shown_names d.1)))

-- where no frame stands, only elements have texts
pub without_frames : (kind : TextKind) (path : List ℕ) (i : ℕ) (ns : NodesView) → NodesAreFrameFree ns →
    nodes_placed kind path i ns ≡ nodes_placed (of_elements kind.own) path i ns
unfolding nodes_placed node_placed NodesAreFrameFree NodeIsFrameFree
without_frames kind path i none free = refl
without_frames kind path i (node (tag_node t) ns) free = without_frames kind path (suc i) ns free.1
without_frames kind path i (node (text_node s span) ns) free =
    without_frames kind path (suc i) ns free.1
without_frames kind path i (node (element_node h kids) ns) free =
    rw (
      without_frames kind (path ++ i ∷ []) 0 kids free.0,
      without_frames kind path (suc i) ns free.1,
    ) refl
without_frames kind path i (node (frame_node f) ns) free = absurd free.0
