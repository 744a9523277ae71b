-- How much of a page may be made again: sixteen times the bytes before the token, and 64 kB.
use Rattle.std.specs.Prelude.{ℕ, ◌+◌, ◌-◌, ◌*◌, min, nat_le, List, [], ◌∷◌, length, if◌then◌else◌, encode_utf8_all, Option, Some, None}
use Rattle.html_dom_tree.specs.Tree.{TextPair}
use Rattle.html_page_stack.specs.Formats.{Format}

-- the bytes of a text
abbrev pub text_size : List ℕ → ℕ
text_size cs = length (encode_utf8_all cs)

-- the bytes of an attribute in a tag
abbrev pub attr_size : TextPair → ℕ
attr_size a = 4 + (text_size a.0 + text_size a.1)

abbrev pub attrs_size : List TextPair → ℕ
attrs_size [] = 0
attrs_size (a ∷ as') = attr_size a + attrs_size as'

-- the bytes of the tags of an element that is made for the entry
abbrev pub copy_size : Format → ℕ
copy_size f = 5 + ((text_size f.name + text_size f.name) + attrs_size f.attrs)

-- what is left of so many bytes, if they are enough
abbrev pub spent : (spare size : ℕ) → Option ℕ
spent spare size = if nat_le size spare then Some (spare - size) else None

-- the bytes that a token which starts there may make again, where so many were
abbrev pub spare_at : (start copied : ℕ) → ℕ
spare_at start copied = min (start * 16 + 0x1_0000) 0xffff_ffff_ffff_ffff - copied

-- the bytes of the tags of elements for these entries
abbrev pub copies_size : List Format → ℕ
copies_size [] = 0
copies_size (f ∷ fs) = copy_size f + copies_size fs

-- so many bytes, if they are no more than can be made again
abbrev pub size_within : (spare size : ℕ) → Option ℕ
size_within spare size = if nat_le size spare then Some size else None
