-- The program's parts, and texts before parts.
use Rattle.std.proofs.Common.{◌≡◌, ℕ, false, List, [], ◌∷◌, ◌++◌, chars, length, eqb, refl, ap, ◌∙◌, sym, append_assoc}
use Rattle.std.proofs.lemmas.{Bool.{false≢true}, List.{append-nil, map-append}, Str.{encodes-chars}}
use Rattle.std.specs.Str.{IsUtf8}
use lib.Utf8.{encodes}
use Rattle.html_page_text.specs.PageViews.{part_view, parts_view}
use Rattle.html_page_text.specs.Parts.{Part, text_part, object_part, line_part, edge_part, put_text, begins_with_text}
use Rattle.html_page_text.specs.declared.shown.Shown.{Shown}

pub one_part : (old new : List Shown) (p : Shown) (x : Part) → new ≡ old ++ p ∷ [] →
    part_view p ≡ x → parts_view new ≡ parts_view old ++ x ∷ []
one_part old new p x e f =
    ap parts_view e ∙ (map-append part_view old (p ∷ []) ∙ ap (λ l. parts_view old ++ l ∷ []) f)

pub no_text : (ps : List Part) (cs : List ℕ) → cs ≡ [] → ps ≡ ps ++ put_text cs []
no_text ps cs e = sym (append-nil ps) ∙ ap (λ l. ps ++ put_text l []) (sym e)

pub some_chars : (bs : List ℕ) → chars bs ≡ [] → IsUtf8 bs → eqb (length bs) 0 ≡ false → ⊥
some_chars bs e u h =
    false≢true (sym h ∙ ap (λ l. eqb (length l) 0) (sym (encodes-chars bs u) ∙ ap encodes e))

pub one_text : (bs cs : List ℕ) → chars bs ≡ cs → IsUtf8 bs → eqb (length bs) 0 ≡ false →
    text_part cs ∷ [] ≡ put_text cs []
one_text bs [] e u h = absurd (some_chars bs e u h)
one_text bs (c ∷ cs) e u h = refl

pub put_twice : (t u : List ℕ) (ps : List Part) → put_text (t ++ u) ps ≡ put_text t (put_text u ps)
put_twice [] u ps = refl
put_twice (c ∷ cs) [] [] = ap (λ l. text_part (c ∷ l) ∷ []) (append-nil cs)
put_twice (c ∷ cs) [] (text_part t ∷ ps) =
    ap (λ l. text_part (c ∷ l ++ t) ∷ ps) (append-nil cs)
put_twice (c ∷ cs) [] (object_part name ∷ ps) =
    ap (λ l. text_part (c ∷ l) ∷ object_part name ∷ ps) (append-nil cs)
put_twice (c ∷ cs) [] (line_part ∷ ps) =
    ap (λ l. text_part (c ∷ l) ∷ line_part ∷ ps) (append-nil cs)
put_twice (c ∷ cs) [] (edge_part ∷ ps) =
    ap (λ l. text_part (c ∷ l) ∷ edge_part ∷ ps) (append-nil cs)
put_twice (c ∷ cs) (d ∷ ds) [] = refl
put_twice (c ∷ cs) (d ∷ ds) (text_part t ∷ ps) =
    ap (λ l. text_part (c ∷ l) ∷ ps) (append_assoc cs (d ∷ ds) t)
put_twice (c ∷ cs) (d ∷ ds) (object_part name ∷ ps) = refl
put_twice (c ∷ cs) (d ∷ ds) (line_part ∷ ps) = refl
put_twice (c ∷ cs) (d ∷ ds) (edge_part ∷ ps) = refl

pub put_before : (t : List ℕ) (x : Part) (ps : List Part) → begins_with_text (x ∷ ps) ≡ false →
    (put_text t [] ++ x ∷ []) ++ ps ≡ put_text t (x ∷ ps)
put_before [] x ps e = refl
put_before (c ∷ cs) (text_part t) ps e = absurd (false≢true (sym e))
put_before (c ∷ cs) (object_part name) ps e = refl
put_before (c ∷ cs) line_part ps e = refl
put_before (c ∷ cs) edge_part ps e = refl
