-- Pieces that are the same but for neighbouring edges.
use Rattle.std.proofs.Common.{◌≡◌, Bool, true, false, List, [], ◌∷◌, ◌++◌, refl, ap, ◌∙◌, sym, append_assoc}
use Rattle.html_dom_shown.specs.Collapsing.{Piece, edge, merged_edges}
use Rattle.typst_html_spaces.{proofs.OwnPieces.{edged}, specs.AtomContexts.{ends_in_edge, SameButEdges}, specs.ItemText.{between_edges}}

ends_in_edge-append : (b : Bool) (ps qs : List Piece) →
    ends_in_edge b (ps ++ qs) ≡ ends_in_edge (ends_in_edge b ps) qs
ends_in_edge-append b [] qs = refl
ends_in_edge-append b (edge ∷ ps) qs = ends_in_edge-append true ps qs
ends_in_edge-append b (p ∷ ps) qs = ends_in_edge-append false ps qs

merged_edges-append : (b : Bool) (ps qs : List Piece) →
    merged_edges b (ps ++ qs) ≡ merged_edges b ps ++ merged_edges (ends_in_edge b ps) qs
merged_edges-append b [] qs = refl
merged_edges-append true (edge ∷ ps) qs = merged_edges-append true ps qs
merged_edges-append false (edge ∷ ps) qs = ap (λ l. edge ∷ l) (merged_edges-append true ps qs)
merged_edges-append b (p ∷ ps) qs = ap (λ l. p ∷ l) (merged_edges-append false ps qs)

-- equal pieces, and the laws of an equivalence

pub same-equal : {ps qs : List Piece} → ps ≡ qs → SameButEdges ps qs
same-equal e b = (ap (merged_edges b) e, ap (ends_in_edge b) e)

pub same-refl : (ps : List Piece) → SameButEdges ps ps
same-refl ps b = (refl, refl)

pub same-sym : (ps qs : List Piece) → SameButEdges ps qs → SameButEdges qs ps
same-sym ps qs s b = (sym (s b).0, sym (s b).1)

pub same-trans : (ps qs rs : List Piece) → SameButEdges ps qs → SameButEdges qs rs →
    SameButEdges ps rs
same-trans ps qs rs s t b = ((s b).0 ∙ (t b).0, (s b).1 ∙ (t b).1)

-- lists one after the other
pub same-append : (ps qs rs ts : List Piece) → SameButEdges ps qs → SameButEdges rs ts →
    SameButEdges (ps ++ rs) (qs ++ ts)
same-append ps qs rs ts s t b =
    let merged : merged_edges b ps ≡ merged_edges b qs = (s b).0 in
    let ends : ends_in_edge b ps ≡ ends_in_edge b qs = (s b).1 in
    let later = t (ends_in_edge b qs) in (
      merged_edges-append b ps rs
          ∙ (rw (merged, ends, later.0) refl ∙ sym (merged_edges-append b qs ts)),
      ends_in_edge-append b ps rs ∙ (rw (ends, later.1) refl ∙ sym (ends_in_edge-append b qs ts)),
    )

pub same-between_edges : (ps qs : List Piece) → SameButEdges ps qs →
    SameButEdges (between_edges ps) (between_edges qs)
same-between_edges ps qs s =
    let one : List Piece = edge ∷ [] in
    same-append one one (ps ++ one) (qs ++ one) (same-refl one)
    (same-append ps qs one one s (same-refl one))

-- two edges are as one

two_edges : SameButEdges (edge ∷ edge ∷ []) (edge ∷ [])
two_edges true = (refl, refl)
two_edges false = (refl, refl)

pub same-edges_twice : (ps : List Piece) →
    SameButEdges (between_edges (between_edges ps)) (between_edges ps)
same-edges_twice ps =
    let one : List Piece = edge ∷ [] in
    let two : List Piece = edge ∷ edge ∷ [] in
    rw (append_assoc ps one one) (same-append two one (ps ++ two) (ps ++ one) two_edges
    (same-append ps ps two one (same-refl ps) two_edges))

-- with edges, whether there were some or none
pub same-edged : (b : Bool) (ps : List Piece) →
    SameButEdges (between_edges ps) (between_edges (edged b ps))
same-edged true ps =
    same-sym (between_edges (between_edges ps)) (between_edges ps) (same-edges_twice ps)
same-edged false ps = same-refl (between_edges ps)
