-- Notes with keys: the note at a place.
use Rattle.std.proofs.{Common.{◌≡◌, ℕ, zero, suc, ◌<◌, ◌≤◌, List, [], ◌∷◌, get_or, length, map, refl, ap, arith}, Math.ListN.{set}}
use Rattle.html_flow_lists.specs.{ItemLists.{Pairs}, ListViews.{note_view}, Notes.{NoteView, content_at, with_content_at}}
use Rattle.html_flow_lists.specs.declared.notes.Note.{Note}

pub changed_note : (ns : List Note) (place : ℕ) (d q : Note) (content : Pairs) → place < length ns →
    note_view q ≡ record (note_view (get_or ns place d)) { content = content } →
    map note_view (set ns place q) ≡ with_content_at place content (map note_view ns)
changed_note [] place d q content within e = absurd (omega arith)
changed_note (n ∷ ns) zero d q content within e = ap (λ v. v ∷ map note_view ns) e
changed_note (n ∷ ns) (suc place) d q content within e =
    let inside : place < length ns = omega arith in
    ap (λ l. note_view n ∷ l) (changed_note ns place d q content inside e)

pub content_seen : (ns : List Note) (place : ℕ) (d : Note) → place < length ns →
    content_at place (map note_view ns) ≡ (note_view (get_or ns place d)).content
content_seen [] place d within = absurd (omega arith)
content_seen (n ∷ ns) zero d within = refl
content_seen (n ∷ ns) (suc place) d within =
    let inside : place < length ns = omega arith in content_seen ns place d inside

pub none_there : (place : ℕ) (content : Pairs) (ns : List NoteView) → length ns ≤ place →
    ns ≡ with_content_at place content ns
none_there zero content [] h = refl
none_there (suc place) content [] h = refl
none_there zero content (n ∷ ns) h = absurd (omega arith)
none_there (suc place) content (n ∷ ns) h =
    let fewer : length ns ≤ place = omega arith in
    ap (λ l. n ∷ l) (none_there place content ns fewer)
