-- Anchors keep what is seen.
use Rattle.std.proofs.Common.{◌≡◌, ℕ, Bool, ◌||◌, List, [], ◌∷◌, ◌++◌, codes, Option, Some, None, drop, refl, ap, sym, ◌∙◌, append_assoc}
use Rattle.std.proofs.{Math.Bool.{or-false}, lemmas.List.{append-nil}}
use Rattle.html_dom_tree.specs.PlainTree.{words, branch, Plains, no_plains, plain, put_words, nodes_normal}
use Rattle.html_dom_tree.specs.Tree.{Head, tag_node, text_node, element_node, frame_node, NodesView, none, node}
use Rattle.html_links.specs.TreeNames.{Name}
use Rattle.html_anchors.specs.Anchors.{with_id, span_head, text_in_span, span_before, nodes_size, nodes_with_anchors, element_with_anchors, element_namings}
use Rattle.html_anchors.specs.{Namings.{Naming}, Seen.{Sight, text_sights, plains_sights, SeesNoAnchors, StaysSeen}}

module _ {A : Type 0} (s : Sight A) where
  -- what is seen, node by node
  abbrev nodes_seen : (preserved : Bool) → NodesView → List A
  nodes_seen k none = []
  nodes_seen k (node (tag_node t) ns) = nodes_seen k ns
  nodes_seen k (node (text_node t span) ns) = text_sights s k t ++ nodes_seen k ns
  nodes_seen k (node (element_node h kids) ns) =
      s.branch_seen h.name h.attrs (nodes_seen (k || s.preserves h.name h.attrs) kids)
      ++ nodes_seen k ns
  nodes_seen k (node (frame_node f) ns) = nodes_seen k ns

  text_joined : (k : Bool) (t u : List ℕ) →
      text_sights s k (t ++ u) ≡ text_sights s k t ++ text_sights s k u
  text_joined k [] u = refl
  text_joined k (c ∷ cs) u = ap (λ l. s.char k c ∷ l) (text_joined k cs u)

  put_seen : (k : Bool) (t : List ℕ) (ps : Plains) →
      plains_sights s k (put_words t ps) ≡ text_sights s k t ++ plains_sights s k ps
  unfolding plains_sights
  put_seen k [] ps = refl
  put_seen k (c ∷ cs) no_plains = refl
  put_seen k (c ∷ cs) (plain (words t) ps) =
      ap (λ r. r ++ plains_sights s k ps) (text_joined k (c ∷ cs) t)
      ∙ append_assoc (text_sights s k (c ∷ cs)) (text_sights s k t) (plains_sights s k ps)
  put_seen k (c ∷ cs) (plain (branch name attrs kids) ps) = refl

  normal_seen : (k : Bool) (ns : NodesView) → plains_sights s k (nodes_normal ns) ≡ nodes_seen k ns
  unfolding plains_sights nodes_normal
  normal_seen k none = refl
  normal_seen k (node (tag_node t) ns) = normal_seen k ns
  normal_seen k (node (text_node t span) ns) =
      put_seen k t (nodes_normal ns) ∙ ap (λ r. text_sights s k t ++ r) (normal_seen k ns)
  normal_seen k (node (element_node h kids) ns) =
      rw (normal_seen (k || s.preserves h.name h.attrs) kids, normal_seen k ns) refl
  normal_seen k (node (frame_node f) ns) = normal_seen k ns

  module _ (blind : SeesNoAnchors s) where
    id_seen : (k : Bool) (n : Option Name) (h : Head) (kids rest : NodesView) →
        nodes_seen k (node (element_node (with_id n h) kids) rest)
        ≡ nodes_seen k (node (element_node h kids) rest)
    id_seen k None h kids rest = refl
    id_seen k (Some n) h kids rest =
        let inside : Bool → List A = λ b. nodes_seen (k || b) kids in
        ap (λ b. s.branch_seen h.name ((codes "id", n) ∷ h.attrs) (inside b) ++ nodes_seen k rest)
        (blind.id_preserves n h.name h.attrs)
        ∙ ap (λ l. l ++ nodes_seen k rest)
        (blind.id_seen n h.name h.attrs (inside (s.preserves h.name h.attrs)))

    span_seen : (k : Bool) (n : Name) (span : ℕ) (kids rest : NodesView) →
        nodes_seen k (node (element_node (span_head n span) kids) rest)
        ≡ nodes_seen k kids ++ nodes_seen k rest
    span_seen k n span kids rest =
        let name = codes "span" in
        let attrs = (codes "id", n) ∷ [] in
        let flag = blind.id_preserves n name [] ∙ blind.span_preserves in
        ap (λ b. s.branch_seen name attrs (nodes_seen (k || b) kids) ++ nodes_seen k rest) flag
        ∙ (ap (λ b. s.branch_seen name attrs (nodes_seen b kids) ++ nodes_seen k rest) (or-false k)
        ∙ ap (λ l. l ++ nodes_seen k rest)
        (blind.id_seen n name [] (nodes_seen k kids) ∙ blind.span_seen (nodes_seen k kids)))

    text_kept : (k : Bool) (n : Option Name) (t : List ℕ) (span : ℕ) (rest : NodesView) →
        nodes_seen k (node (text_in_span n t span) rest) ≡ text_sights s k t ++ nodes_seen k rest
    text_kept k None t span rest = refl
    text_kept k (Some n) t span rest =
        span_seen k n span (node (text_node t span) none) rest
        ∙ ap (λ l. l ++ nodes_seen k rest) (append-nil (text_sights s k t))

    end_kept : (k : Bool) (n : Option Name) (rest : NodesView) →
        nodes_seen k (span_before n rest) ≡ nodes_seen k rest
    end_kept k None rest = refl
    end_kept k (Some n) rest = span_seen k n 0 none rest

    anchored_seen : (ns : NodesView) (k : Bool) (cs : List Naming) →
        nodes_seen k (nodes_with_anchors cs ns) ≡ nodes_seen k ns
    unfolding nodes_with_anchors
    anchored_seen none k cs = refl
    anchored_seen (node n ns) k [] = refl
    anchored_seen (node (tag_node t) ns) k (c ∷ cs) =
        end_kept k c.made (nodes_with_anchors cs ns) ∙ anchored_seen ns k cs
    anchored_seen (node (text_node t span) ns) k (c ∷ cs) =
        text_kept k c.made t span (nodes_with_anchors cs ns)
        ∙ ap (λ l. text_sights s k t ++ l) (anchored_seen ns k cs)
    anchored_seen (node (element_node h kids) ns) k (c ∷ cs) =
        let later = drop (nodes_size kids) cs in
        id_seen k c.made h (nodes_with_anchors cs kids) (nodes_with_anchors later ns)
        ∙ (rw (anchored_seen kids (k || s.preserves h.name h.attrs) cs, anchored_seen ns k later)
        refl)
    anchored_seen (node (frame_node f) ns) k (c ∷ cs) = anchored_seen ns k cs

pub stays_seen : (A : Type 0) → StaysSeen A
unfolding element_with_anchors
stays_seen A s blind x e k =
    normal_seen s k (nodes_with_anchors (element_namings x e) e.1)
    ∙ (anchored_seen s blind e.1 k (element_namings x e) ∙ sym (normal_seen s k e.1))
