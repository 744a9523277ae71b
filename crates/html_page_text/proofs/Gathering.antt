-- One pass over the atoms gathers the parts of what is seen by the definition.
use Rattle.std.proofs.Common.{◌≡◌, ℕ, Bool, true, false, List, [], ◌∷◌, ◌++◌, map, chars, length, eqb, refl, ap, ◌∙◌, sym, append_assoc}
use Rattle.std.{proofs.lemmas.List.{append-nil, map-append}, specs.Str.{IsUtf8}}
use Rattle.html_dom_tree.specs.{PlainTree.{nodes_normal}, Tree.{NodeView, NodesView, node}}
use Rattle.html_dom_shown.proofs.NodeAtoms.{node_atoms, nodes_atoms, normal_atoms}
use Rattle.html_dom_shown.specs.Collapsing.{Atom, visible, ignorable, collapsible, kept, object, break, border, Piece, char, thing, line, edge, is_supported_by, atom_pieces, atoms_pieces, merged_edges, collapsed_pieces, plains_atoms}
use Rattle.html_page_text.proofs.Parts.{some_chars, put_twice, put_before}
use Rattle.html_page_text.specs.Gathering.{GatheredPage, ended_parts, with_piece, with_pieces, Before, bare, support, blank, released, seen_at, past, Seen, nothing_seen, step, run, final}
use Rattle.html_page_text.specs.Parts.{Part, object_part, line_part, edge_part, put_text, joined_parts, begins_with_text}

-- pieces one after the other

abbrev pub seen_of : GatheredPage → Before → Seen
seen_of p b = record { page = p; before = b }

pub with_pieces-append : (p : GatheredPage) (xs ys : List Piece) →
    with_pieces p (xs ++ ys) ≡ with_pieces (with_pieces p xs) ys
unfolding with_pieces
with_pieces-append p [] ys = refl
with_pieces-append p (x ∷ xs) ys = with_pieces-append (with_piece p x) xs ys

abbrev pub page_of : List Part → List ℕ → Bool → GatheredPage
page_of ps t b = record { parts = ps; text = t; after_edge = b }

pub page_is : (p q : List Part) (t u : List ℕ) (a b : Bool) → p ≡ q → t ≡ u → a ≡ b →
    page_of p t a ≡ page_of q u b
page_is p q t u a b e f g =
    ap (λ l. page_of l t a) e ∙ (ap (λ l. page_of q l a) f ∙ ap (page_of q u) g)

part_shown : (ps : List Part) (t : List ℕ) (x : Part) (qs rs : List Part) →
    begins_with_text (x ∷ rs) ≡ false → qs ≡ ((ps ++ put_text t []) ++ x ∷ []) ++ rs →
    qs ≡ ps ++ put_text t (x ∷ rs)
part_shown ps t x qs rs e f =
    f ∙ (ap (λ l. l ++ rs) (append_assoc ps (put_text t []) (x ∷ []))
    ∙ (append_assoc ps (put_text t [] ++ x ∷ []) rs ∙ ap (λ l. ps ++ l) (put_before t x rs e)))

-- what was shown, and the parts of what is added
pieces_shown : (ps : List Part) (t : List ℕ) (b : Bool) (xs : List Piece) →
    ended_parts (with_pieces (page_of ps t b) xs)
    ≡ ps ++ put_text t (joined_parts (merged_edges b xs))
unfolding with_pieces
pieces_shown ps t b [] = refl
pieces_shown ps t b (char c ∷ xs) =
    pieces_shown ps (t ++ c ∷ []) false xs
    ∙ ap (λ l. ps ++ l) (put_twice t (c ∷ []) (joined_parts (merged_edges false xs)))
pieces_shown ps t b (thing name ∷ xs) =
    part_shown ps t (object_part name) _ (joined_parts (merged_edges false xs)) refl
    (pieces_shown ((ps ++ put_text t []) ++ object_part name ∷ []) [] false xs)
pieces_shown ps t b (line ∷ xs) =
    part_shown ps t line_part _ (joined_parts (merged_edges false xs)) refl
    (pieces_shown ((ps ++ put_text t []) ++ line_part ∷ []) [] false xs)
pieces_shown ps t true (edge ∷ xs) = pieces_shown ps t true xs
pieces_shown ps t false (edge ∷ xs) =
    part_shown ps t edge_part _ (joined_parts (merged_edges true xs)) refl
    (pieces_shown ((ps ++ put_text t []) ++ edge_part ∷ []) [] true xs)

-- characters alone

chars_added : (ps : List Part) (t : List ℕ) (b : Bool) (c : ℕ) (cs : List ℕ) →
    with_pieces (page_of ps t b) (char c ∷ map char cs) ≡ page_of ps (t ++ c ∷ cs) false
unfolding with_pieces
chars_added ps t b c [] = refl
chars_added ps t b c (d ∷ ds) =
    chars_added ps (t ++ c ∷ []) false d ds
    ∙ ap (λ l. page_of ps l false) (append_assoc t (c ∷ []) (d ∷ ds))

pub text_added : (p : GatheredPage) (bs cs : List ℕ) → chars bs ≡ cs → IsUtf8 bs →
    eqb (length bs) 0 ≡ false → with_pieces p (map char cs) ≡ page_of p.parts (p.text ++ cs) false
text_added p bs [] e u h = absurd (some_chars bs e u h)
text_added p bs (c ∷ cs) e u h = chars_added p.parts p.text p.after_edge c cs

pub one_behind : (p q r : GatheredPage) (xs : List Piece) (x : Piece) → q ≡ with_pieces p xs →
    r ≡ with_piece q x → r ≡ with_pieces p (xs ++ x ∷ [])
unfolding with_pieces
one_behind p q r xs x e f =
    f ∙ (ap (λ l. with_piece l x) e ∙ sym (with_pieces-append p xs (x ∷ [])))

-- what is seen of what is held back and of the atoms that are left

abbrev remaining : Before → List Atom → List Piece
remaining b [] = released false b
remaining b (a ∷ as') = seen_at b a ++ remaining (past b a) as'

final_of_run : (s : Seen) (as' : List Atom) →
    final (run s as') ≡ ended_parts (with_pieces s.page (remaining s.before as'))
unfolding run
final_of_run s [] = refl
final_of_run s (a ∷ as') =
    final_of_run (step s a) as' ∙ ap ended_parts
    (sym (with_pieces-append s.page (seen_at s.before a) (remaining (past s.before a) as')))

-- the same by the definition
abbrev remaining_pieces : Before → List Atom → List Piece
remaining_pieces bare as' = atoms_pieces false as'
remaining_pieces support as' = atoms_pieces true as'
remaining_pieces (blank later) as' =
    released (is_supported_by as') (blank later) ++ atoms_pieces false as'

-- behind what was held back
behind : (ps : List Piece) (x : Piece) (qs rs : List Piece) → qs ≡ rs →
    (ps ++ x ∷ []) ++ qs ≡ ps ++ x ∷ rs
behind ps x qs rs e = append_assoc ps (x ∷ []) qs ∙ ap (λ l. ps ++ x ∷ l) e

held_text : (later : List ℕ) (c : ℕ) (qs : List Piece) →
    map char (later ++ c ∷ []) ++ qs ≡ map char later ++ char c ∷ qs
held_text later c qs =
    ap (λ l. l ++ qs) (map-append char later (c ∷ []))
    ∙ append_assoc (map char later) (char c ∷ []) qs

one_held : (s : Bool) (later : List ℕ) (c : ℕ) (qs : List Piece) →
    released s (blank (later ++ c ∷ [])) ++ qs ≡ released s (blank later) ++ char c ∷ qs
one_held false later c qs = held_text later c qs
one_held true later c qs = ap (λ l. char 32 ∷ l) (held_text later c qs)

-- a blank behind what does not support it
not_seen : (s : Bool) (c : ℕ) (qs : List Piece) →
    atom_pieces false s (collapsible c) ++ qs ≡ qs
not_seen true c qs = refl
not_seen false c qs = refl

-- a blank behind what supports it
first_held : (s : Bool) (c : ℕ) (qs : List Piece) →
    released s (blank []) ++ qs ≡ atom_pieces true s (collapsible c) ++ qs
first_held true c qs = refl
first_held false c qs = refl

gathered : (b : Before) (as' : List Atom) → remaining b as' ≡ remaining_pieces b as'
gathered bare [] = refl
gathered support [] = refl
gathered (blank later) [] = sym (append-nil (map char later))
gathered bare (visible c ∷ as') = ap (λ l. char c ∷ l) (gathered support as')
gathered b (visible c ∷ as') = behind (released true b) (char c) _ _ (gathered support as')
gathered bare (kept c ∷ as') = ap (λ l. char c ∷ l) (gathered support as')
gathered b (kept c ∷ as') = behind (released true b) (char c) _ _ (gathered support as')
gathered bare (object name ∷ as') = ap (λ l. thing name ∷ l) (gathered support as')
gathered b (object name ∷ as') = behind (released true b) (thing name) _ _ (gathered support as')
gathered bare (break ∷ as') = ap (λ l. line ∷ l) (gathered bare as')
gathered b (break ∷ as') = behind (released false b) line _ _ (gathered bare as')
gathered bare (border ∷ as') = ap (λ l. edge ∷ l) (gathered bare as')
gathered b (border ∷ as') = behind (released false b) edge _ _ (gathered bare as')
gathered bare (ignorable c ∷ as') = ap (λ l. char c ∷ l) (gathered bare as')
gathered support (ignorable c ∷ as') = ap (λ l. char c ∷ l) (gathered support as')
gathered (blank later) (ignorable c ∷ as') =
    gathered (blank (later ++ c ∷ [])) as'
    ∙ one_held (is_supported_by as') later c (atoms_pieces false as')
gathered bare (collapsible c ∷ as') =
    gathered bare as' ∙ sym (not_seen (is_supported_by as') c (atoms_pieces false as'))
gathered support (collapsible c ∷ as') =
    gathered (blank []) as' ∙ first_held (is_supported_by as') c (atoms_pieces false as')
gathered (blank later) (collapsible c ∷ as') =
    gathered (blank later) as' ∙ ap (λ l. released (is_supported_by as') (blank later) ++ l)
    (sym (not_seen (is_supported_by as') c (atoms_pieces false as')))

pub seen_is : (p q : GatheredPage) (a b : Before) → p ≡ q → a ≡ b → seen_of p a ≡ seen_of q b
seen_is p q a b e f = ap (λ l. seen_of l a) e ∙ ap (seen_of q) f

pub gathered_is_seen : (as' : List Atom) →
    final (run nothing_seen as') ≡ joined_parts (collapsed_pieces as')
gathered_is_seen as' =
    final_of_run nothing_seen as' ∙ (pieces_shown [] [] false (remaining bare as')
    ∙ ap (λ l. joined_parts (merged_edges false l)) (gathered bare as'))

-- nodes one after the other

pub run-append : (s : Seen) (xs ys : List Atom) → run s (xs ++ ys) ≡ run (run s xs) ys
unfolding run
run-append s [] ys = refl
run-append s (x ∷ xs) ys = run-append (step s x) xs ys

-- past nodes of which nothing is left out
abbrev pub past_all : (preserved : Bool) → Seen → NodesView → Seen
past_all preserved s ns = run s (plains_atoms preserved (nodes_normal ns))

pub past_first : (preserved : Bool) (s : Seen) (n : NodeView) (ns : NodesView) →
    past_all preserved s (node n ns) ≡ past_all preserved (run s (node_atoms preserved n)) ns
past_first preserved s n ns =
    ap (run s) (normal_atoms (node n ns) preserved)
    ∙ (run-append s (node_atoms preserved n) (nodes_atoms preserved ns)
    ∙ ap (run (run s (node_atoms preserved n))) (sym (normal_atoms ns preserved)))
