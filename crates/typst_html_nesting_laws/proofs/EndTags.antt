-- An end tag is read as one.
use Rattle.std.proofs.Common.{◌≡◌, ℕ, ◌+◌, Bool, true, List, [], ◌∷◌, ◌++◌, refl}
use Rattle.html_names_core.specs.Characters.{IsOf, is_tag_char}
use Rattle.typst_html_encode.specs.Text.{end_tag_text}
use Rattle.html_page_nesting.specs.WrittenTags.{begins_with_letter}
use Rattle.html_page_names.specs.ForeignNames.{lowered}
use Rattle.html_page_stack.specs.Pages.{Page, End}
use Rattle.html_page_read.specs.PageTokens.{EndTagOpen}
use Rattle.typst_html_nesting_laws.proofs.Readers.{Emits, data_at, started}
use Rattle.typst_html_nesting_laws.proofs.TagChars.{Finishes, at_state, finishes_on, name_lowered, name_moves}

pub end_emits : (name : List ℕ) → IsOf is_tag_char name → begins_with_letter name ≡ true →
    (fresh : Bool) (place : ℕ) (p : Page) →
    Emits (data_at fresh place p) (end_tag_text name) (End (lowered name)) p
end_emits name named letter fresh place p =
    let begun = started place p in
    let q = at_state EndTagOpen fresh (place + 1 + 1) begun in
    let f : Finishes q (name ++ 62 ∷ []) (End (lowered name)) begun = finishes_on name (62 ∷ [])
    (name_moves true EndTagOpen (λ c r h. rw h refl) name named letter fresh (place + 1 + 1) begun)
    (λ here. record { place = here; is = λ after taken. rw (name_lowered name named, taken) refl })
    in
    record { start = place; place = f.place; is = f.is }
