-- Footnotes (this project's rule): marks with links to notes, and one section of the notes, each
-- with a link back to its mark. The classes are those that Pandoc writes, the roles those of
-- DPUB-ARIA 1.0.
use Rattle.std.specs.Prelude.{ℕ, zero, suc, ◌+◌, ◌-◌, ◌*◌, ◌^◌, Bool, false, if◌then◌else◌, List, [], ◌∷◌, ◌++◌, Option, Some, None, codes, bytes_eq, decimal, length, nat_lt}
use Rattle.html_names_core.specs.Texts.{TextPair}
use Rattle.html_flow_convert.specs.Items.{RoleView, ItemView, element_item, text_item, ItemsView, no_items, item, absent, present, ElemView, element_as_item, new_head, inheriting, located_item}
use Rattle.html_flow_convert.specs.Views.{items_of}
use Rattle.html_flow_lists.specs.ItemLists.{Pairs, last_passes, with_changed_last}

-- a note: its key, if it has one, its content, and the span that its mark and its elements get
pub record NoteView : Type 0 where
  pub key : Option (List ℕ)
  pub content : Pairs
  pub span : ℕ

-- the location of a note and, next to it, that of its mark: each note, counted from 1, has two,
-- from the greatest location down
abbrev pub note_location : (number : ℕ) → ℕ
note_location number = 2 ^ 64 - 1 - 2 * number

abbrev pub mark_location : (number : ℕ) → ℕ
mark_location number = note_location number + 1

-- the requested names of anchors
abbrev pub note_label : (number : ℕ) → List ℕ
note_label number = codes "fn" ++ decimal number

abbrev pub mark_label : (number : ℕ) → List ℕ
mark_label number = codes "fnref" ++ decimal number

-- an element without css and parent
abbrev pub plain_item : (name : List ℕ) → List TextPair → Pairs → (span : ℕ) → ItemView
plain_item name attrs body span =
    element_item (record { name = name; attrs = attrs; css = []; parent = None; span = span })
    (present (items_of body))

abbrev pub role_pair : (role : List ℕ) → TextPair
role_pair role = (codes "role", role)

-- an element of that name with attributes, and with nothing else
abbrev pub element_with : (name : List ℕ) → List TextPair → ElemView
element_with name attrs = (record (new_head name) { attrs = attrs }, absent)

abbrev pub class_and_role : (class role : List ℕ) → List TextPair
class_and_role class role = (codes "class", class) ∷ role_pair role ∷ []

-- a link of that class and role, with that text
abbrev pub note_link : (class role text : List ℕ) (span : ℕ) → ItemView
note_link class role text span =
    plain_item (codes "a") (class_and_role class role) (inheriting (text_item text span) ∷ []) span

-- the mark of a note: a link to the note, and a place itself
abbrev pub mark_item : (number span : ℕ) → ItemView
mark_item number span =
    plain_item (codes "sup") [] (located_item (mark_location number) (Some (mark_label number))
    (Some (note_location number))
    (note_link (codes "footnote-ref") (codes "doc-noteref") (decimal number) span)) span

-- a further mark of a note: a link to the note, and no place
abbrev pub further_mark_item : (number span : ℕ) → ItemView
further_mark_item number span =
    plain_item (codes "sup") [] (located_item 0 None (Some (note_location number))
    (note_link (codes "footnote-ref") (codes "doc-noteref") (decimal number) span)) span

-- whether a note has that key
abbrev pub is_key : (key : List ℕ) → Option (List ℕ) → Bool
is_key key None = false
is_key key (Some own) = bytes_eq own key

abbrev pub has_key : (key : List ℕ) → NoteView → Bool
has_key key note = is_key key note.key

-- the number of notes before the first with that key
abbrev pub place_of_key : (key : List ℕ) → List NoteView → ℕ
place_of_key key [] = 0
place_of_key key (n ∷ ns) = if has_key key n then 0 else suc (place_of_key key ns)

abbrev pub is_marked : (key : List ℕ) → List NoteView → Bool
is_marked key notes = nat_lt (place_of_key key notes) (length notes)

-- the mark of the note with that key, which is a place if it is the first one
abbrev pub key_mark_item : (key : List ℕ) (span : ℕ) → List NoteView → ItemView
key_mark_item key span notes =
    let number = suc (place_of_key key notes) in
    if is_marked key notes then further_mark_item number span else mark_item number span

-- notes of which one has that key: if none had it, a last one without content
abbrev pub with_key : (key : List ℕ) (span : ℕ) → List NoteView → List NoteView
with_key key span notes =
    if is_marked key notes then notes
    else notes ++ record { key = Some key; content = []; span = span } ∷ []

-- notes of which the one at a place has that content
abbrev pub with_content_at : (place : ℕ) → Pairs → List NoteView → List NoteView
with_content_at place content [] = []
with_content_at zero content (n ∷ ns) = record n { content = content } ∷ ns
with_content_at (suc place) content (n ∷ ns) = n ∷ with_content_at place content ns

abbrev pub content_at : (place : ℕ) → List NoteView → Pairs
content_at place [] = []
content_at zero (n ∷ ns) = n.content
content_at (suc place) (n ∷ ns) = content_at place ns

-- the link back to the mark: an arrow to the left, as text rather than as a picture
abbrev pub back_items : (number span : ℕ) → Pairs
back_items number span =
    located_item 0 None (Some (mark_location number))
    (note_link (codes "footnote-back") (codes "doc-backlink") (0x21a9 ∷ 0xfe0e ∷ []) span)

-- items with more appended
abbrev pub with_items_behind : ItemsView → Pairs → ItemsView
with_items_behind no_items more = items_of more
with_items_behind (item i role is) more = item i role (with_items_behind is more)

-- whether an element is a paragraph with a body
abbrev pub is_line : ElemView → Bool
is_line (h, absent) = false
is_line (h, present items) = bytes_eq h.name (codes "p")

-- an element with more at the end of its body, if it has one
abbrev pub with_longer_body : (more : Pairs) → ElemView → ElemView
with_longer_body more (h, absent) = (h, absent)
with_longer_body more (h, present items) = (h, present (with_items_behind items more))

-- whether an item is a paragraph with a body
abbrev pub is_line_item : ItemView × RoleView → Bool
is_line_item (element_item h body, role) = is_line (h, body)
is_line_item x = false

abbrev pub with_longer_line : (more : Pairs) → ItemView × RoleView → ItemView × RoleView
with_longer_line more (element_item h body, role) =
    (element_as_item (with_longer_body more (h, body)), role)
with_longer_line more x = x

-- items with more appended: inside the last one if that is a paragraph with a body
abbrev pub in_last_line : (more : Pairs) → Pairs → Pairs
in_last_line more items =
    if last_passes is_line_item items then with_changed_last (with_longer_line more) items
    else items ++ more

-- a note as an entry of the section
abbrev pub note_item : (number : ℕ) → NoteView → ItemView
note_item number note =
    plain_item (codes "li") (role_pair (codes "doc-endnote") ∷ [])
    (in_last_line (back_items number note.span) note.content) note.span

abbrev pub located_note : (number : ℕ) → NoteView → Pairs
located_note number note =
    located_item (note_location number) (Some (note_label number)) None (note_item number note)

-- notes from that number on
abbrev pub note_items : (number : ℕ) → List NoteView → Pairs
note_items number [] = []
note_items number (n ∷ ns) = located_note number n ++ note_items (suc number) ns

-- the section of notes, or none if there are no notes
abbrev pub section_item : List NoteView → ItemView
section_item notes =
    plain_item (codes "section") (class_and_role (codes "footnotes") (codes "doc-endnotes"))
    (inheriting (plain_item (codes "ol") [] (note_items 1 notes) 0) ∷ []) 0

abbrev pub section_items : List NoteView → Pairs
section_items [] = []
section_items (n ∷ ns) = inheriting (section_item (n ∷ ns)) ∷ []
