-- Reading with a limit on the depth of elements, with only the names that the program accepts, and
-- up to the first character with which no readable text goes on.
use Rattle.std.specs.List.{common_prefix_len}
use Rattle.std.specs.Prelude.{ℕ, ◌+◌, ◌-◌, Bool, true, false, not, ◌&&◌, ◌==◌, nat_le, List, [], ◌∷◌, ◌++◌, if◌then◌else◌, bytes_eq, codes, take, drop, get_or, length, None, is_some}
use lib.Utf8.{encodes}
use Rattle.html_names_core.specs.{Characters.{is_tag_char, is_attr_char}, Names.{tag_fault, attr_fault}}
use Rattle.typst_html_encode.specs.Reader.{Open, ReaderState, Outside, Reference, Less, StartName, AttrName, ValueReference, EndName, Stop, holds_text_alone, step}
use Rattle.typst_html_read.specs.BegunReferences.{continues_reference}

-- the name of the innermost element has the character at that index or, behind the name, the
-- character is `>`
abbrev pub ends_at : List Open → (place : ℕ) → ℕ → Bool
ends_at [] place c = false
ends_at (o ∷ os) place c = c == get_or o.name place 62

-- no readable text goes on with the character, though `step` does: it is in a reference that cannot
-- be read, behind a name that is not accepted, in an end tag with no element open, or in an end tag
-- of another name. (Names are ASCII: each of their characters is a byte.)
abbrev pub refuses : ReaderState → ℕ → Bool
refuses (Reference text since stack) c = not (continues_reference since c)
refuses (Less stack) c = c == 47 && length stack == 0
refuses (StartName name stack) c = not (is_tag_char c) && is_some (tag_fault name)
refuses (AttrName name attrs attr stack) c = not (is_attr_char c) && is_some (attr_fault attr)
refuses (ValueReference name attrs attr value since stack) c = not (continues_reference since c)
refuses (EndName name stack) c = not (ends_at stack (length (encodes name)) c)
refuses s c = false

-- as `step`, but reading stops at such a character
abbrev pub next_state : ReaderState → ℕ → ReaderState
next_state s c = if refuses s c then Stop else step s c

-- the character begins the start tag of an element that would be deeper than the limit
abbrev pub begins_deep : (limit : ℕ) → ReaderState → ℕ → Bool
begins_deep limit (Less stack) c =
    is_tag_char c && not (holds_text_alone stack) && nat_le limit (length stack)
begins_deep limit s c = false

-- the number of characters before the `<` of each of these start tags, with `before` characters
-- before the text
unfoldable pub deep_places : (limit before : ℕ) → ReaderState → List ℕ → List ℕ
deep_places limit before s [] = []
deep_places limit before s (c ∷ cs) = (if begins_deep limit s c then (before - 1) ∷ [] else [])
    ++ deep_places limit (before + 1) (next_state s c) cs

abbrev pub is_stop : ReaderState → Bool
is_stop Stop = true
is_stop s = false

-- the number of characters before the one at which reading stops, or before the end if it does not
-- stop
unfoldable pub stop_place : (before : ℕ) → ReaderState → List ℕ → ℕ
stop_place before s [] = before
stop_place before s (c ∷ cs) = if is_stop (next_state s c) then before
    else stop_place (before + 1) (next_state s c) cs

abbrev pub document_type : List ℕ
document_type = codes "<!DOCTYPE html>"

abbrev pub begins_page : List ℕ → Bool
begins_page text = bytes_eq (take 15 text) document_type

-- the positions of the start tags that are too deep in a text
abbrev pub too_deep : (limit : ℕ) → List ℕ → List ℕ
too_deep limit text =
    if begins_page text then deep_places limit 15 (Outside None) (drop 15 text) else []

-- the position of the first character with which no readable text goes on
abbrev pub unread : List ℕ → ℕ
unread text = if begins_page text then stop_place 15 (Outside None) (drop 15 text)
    else common_prefix_len ◌==◌ document_type text
