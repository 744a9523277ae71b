-- What calls give one after the other for a note, put together.
use Rattle.std.proofs.Common.{◌≡◌, ℕ, false, List, [], ◌∷◌, ◌++◌, length, ◌==◌, Some, None, codes, refl, ap, ◌∙◌}
use Rattle.html_flow_convert.specs.Items.{ElemView, ItemView, RoleView, absent, element_as_item, inheriting, located_item, new_head, text_item, with_items, with_last_item, with_pair, with_span}
use Rattle.html_flow_convert.specs.Views.{items_of}
use Rattle.html_flow_lists.specs.ItemLists.{Pairs}
use Rattle.html_flow_lists.specs.Notes.{NoteView, back_items, class_and_role, element_with, in_last_line, located_note, note_items, note_label, note_link, note_location, section_items}

pub link_seen : (class role text : List ℕ) (span : ℕ) (bare full placed : ElemView)
    (p : ItemView × RoleView) (i : ItemView) →
    bare ≡ element_with (codes "a") (class_and_role class role) →
    p ≡ inheriting (text_item text span) → full ≡ with_last_item p bare →
    placed ≡ with_span span full → i ≡ element_as_item placed → i ≡ note_link class role text span
link_seen class role text span bare full placed p i bare_is p_is full_is placed_is i_is =
    i_is
    ∙ ap element_as_item (placed_is
    ∙ ap (with_span span) (full_is
    ∙ ap (λ q. with_last_item q bare) p_is
    ∙ ap (with_last_item (inheriting (text_item text span))) bare_is))

pub note_seen : (number : ℕ) (note : NoteView) (content old new : Pairs)
    (role label : List ℕ) (location : ℕ) (bare named full placed : ElemView) (i : ItemView) →
    content ≡ in_last_line (back_items number note.span) note.content →
    bare ≡ (new_head (codes "li"), absent) → named ≡ with_pair (codes "role", role) bare →
    role ≡ codes "doc-endnote" → full ≡ with_items (items_of content) named →
    placed ≡ with_span note.span full → i ≡ element_as_item placed → label ≡ note_label number →
    location ≡ note_location number → new ≡ old ++ located_item location (Some label) None i →
    new ≡ old ++ located_note number note
note_seen number note content old new role label location bare named full placed i content_is
    bare_is named_is role_is full_is placed_is i_is label_is location_is new_is =
    new_is
    ∙ rw (
      i_is,
      placed_is,
      full_is,
      named_is,
      bare_is,
      role_is,
      content_is,
      label_is,
      location_is,
    )
    refl

pub section_seen : (notes : List NoteView) (inner made : Pairs) (empty list bare full : ElemView)
    (p q : ItemView × RoleView) → (length notes == 0) ≡ false → inner ≡ note_items 1 notes →
    empty ≡ (new_head (codes "ol"), absent) → list ≡ with_items (items_of inner) empty →
    p ≡ inheriting (element_as_item list) →
    bare ≡ element_with (codes "section")
    (class_and_role (codes "footnotes") (codes "doc-endnotes")) →
    full ≡ with_last_item p bare → q ≡ inheriting (element_as_item full) → made ≡ q ∷ [] →
    made ≡ section_items notes
section_seen [] inner made empty list bare full p q some inner_is empty_is list_is p_is bare_is
    full_is q_is made_is = cc
section_seen (n ∷ ns) inner made empty list bare full p q some inner_is empty_is list_is p_is
    bare_is full_is q_is made_is =
    made_is ∙ rw (q_is, full_is, bare_is, p_is, list_is, empty_is, inner_is) refl
