-- Atoms between others: lists one after the other, and collapsing by context.
use Rattle.std.proofs.Common.{◌≡◌, Bool, false, List, [], ◌∷◌, ◌++◌, refl, ap, ◌∙◌, append_assoc}
use Rattle.html_dom_shown.specs.Collapsing.{Atom, ignorable, collapsible, border, is_supported_by, then_supports, atom_pieces, atoms_pieces, merged_edges, collapsed_pieces}
use Rattle.typst_html_spaces.specs.AtomContexts.{supports_or, support_at, support_past, pieces_between, AtomStays, AtomsStay, own_piece, own_pieces, CollapsesByContext, PiecesOfBoth}

pub support_at-append : (xs ys : List Atom) (after : Bool) →
    support_at (xs ++ ys) after ≡ support_at xs (support_at ys after)
support_at-append [] ys after = refl
support_at-append (x ∷ xs) ys after = ap (supports_or x) (support_at-append xs ys after)

pub support_past-append : (before : Bool) (xs ys : List Atom) →
    support_past before (xs ++ ys) ≡ support_past (support_past before xs) ys
support_past-append before [] ys = refl
support_past-append before (x ∷ xs) ys = support_past-append (then_supports before x) xs ys

pub pieces_of_both : PiecesOfBoth
pieces_of_both before after [] ys = refl
pieces_of_both before after (x ∷ xs) ys =
    rw (support_at-append xs ys after, pieces_of_both (then_supports before x) after xs ys, append_assoc)
    refl

-- the context form is the definition

supported : (xs : List Atom) → is_supported_by xs ≡ support_at xs false
supported [] = refl
supported (ignorable c ∷ xs) = supported xs
supported (collapsible c ∷ xs) = supported xs
supported (x ∷ xs) = refl

between : (before : Bool) (xs : List Atom) → atoms_pieces before xs ≡ pieces_between before false xs
between before [] = refl
between before (x ∷ xs) =
    rw (supported xs, between (then_supports before x) xs) refl

pub collapses_by_context : CollapsesByContext
collapses_by_context xs = ap (merged_edges false) (between false xs)

-- atoms that stay are seen as they are

own : (before after : Bool) (x : Atom) → AtomStays before after x →
    atom_pieces before after x ≡ own_piece x ∷ []
own before after (collapsible c) s = let e = s.0 in let b = s.1 in let a = s.2 in rw (e, b, a) refl
own before after x s = refl

pub own_between : (before after : Bool) (xs : List Atom) → AtomsStay before after xs →
    pieces_between before after xs ≡ own_pieces xs
own_between before after [] s = refl
own_between before after (x ∷ xs) s =
    rw (own before (support_at xs after) x s.0, own_between (then_supports before x) after xs s.1)
    refl

pub own_collapsed : (xs : List Atom) → AtomsStay false false xs →
    collapsed_pieces xs ≡ merged_edges false (own_pieces xs)
own_collapsed xs s =
    collapses_by_context xs ∙ ap (merged_edges false) (own_between false false xs s)

pub AtomsStay-append : (before after : Bool) (xs ys : List Atom) →
    AtomsStay before (support_at ys after) xs → AtomsStay (support_past before xs) after ys →
    AtomsStay before after (xs ++ ys)
AtomsStay-append before after [] ys s t = t
AtomsStay-append before after (x ∷ xs) ys s t =
    rw (support_at-append xs ys after)
    (s.0, AtomsStay-append (then_supports before x) after xs ys s.1 t)

pub AtomsStay-front : (before after : Bool) (xs ys : List Atom) →
    AtomsStay before after (xs ++ ys) → AtomsStay before (support_at ys after) xs
AtomsStay-front before after [] ys s = tt
AtomsStay-front before after (x ∷ xs) ys s =
    rw (← support_at-append xs ys after)
    (s.0, AtomsStay-front (then_supports before x) after xs ys s.1)

-- between borders

pub AtomsStay-bordered : (before after : Bool) (xs : List Atom) → AtomsStay false false xs →
    AtomsStay before after (border ∷ (xs ++ border ∷ []))
AtomsStay-bordered before after xs s =
    (tt, AtomsStay-append false after xs (border ∷ []) s (tt, tt))

pub AtomsStay-inside : (before after : Bool) (xs : List Atom) →
    AtomsStay before after (border ∷ (xs ++ border ∷ [])) → AtomsStay false false xs
AtomsStay-inside before after xs s = AtomsStay-front false after xs (border ∷ []) s.1
