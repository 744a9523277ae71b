-- The label of its encoding that a page declares at its beginning (HTML Standard 13.2.3.2, "prescan
-- a byte stream to determine its encoding").
use Rattle.std.specs.{Char.{is_ascii_alphabetic, is_ascii_whitespace}, List.{suffix_len}}
use Rattle.std.specs.Prelude.{ℕ, zero, suc, ◌-◌, Bool, false, ◌||◌, ◌&&◌, ◌==◌, List, [], ◌∷◌, codes, is_some, length, option_and_then, take, if◌then◌else◌, Option, Some, None}
use Rattle.html_page_encoding.specs.Attributes.{Meta, Part, attributes}
use Rattle.html_page_encoding.specs.Classes.{behind, behind_first, behind_word, front, is_word, starts}
use Rattle.html_page_encoding.specs.ContentLabels.{content_label}
use Rattle.html_page_encoding.specs.declared.class.Class.TheVariants as class
use Rattle.html_page_encoding.specs.declared.markup.Markup.{Markup}
use Rattle.html_page_encoding.specs.declared.markup.Markup.TheVariants as markup

-- the label of a `meta`

-- without the white space at the end
unfoldable pub stripped_end : List ℕ → List ℕ
stripped_end bs = take (length bs - suffix_len is_ascii_whitespace bs) bs

abbrev pub some_label : (text : List ℕ) (left : ℕ) → Option Part
some_label [] left = None
some_label (b ∷ bs) left = Some (record { text = b ∷ bs; left = left })

-- the label without white space around it, if there is more
unfoldable pub stripped : Part → Option Part
stripped p = some_label (stripped_end (behind class.Space p.text))
    (p.left - length (front class.Space p.text))

-- a part of a part
abbrev pub part_in : Part → Part → Part
part_in whole p = record p { left = whole.left - (length whole.text - p.left) }

abbrev pub label_of_content : Part → Option Part
label_of_content content =
    option_and_then (λ p. stripped (part_in content p)) (content_label content.text)

-- whether the value of `http-equiv` makes that of `content` count
abbrev pub is_pragma : Part → Bool
is_pragma p = is_word (codes "content-type") p.text

abbrev pub pragma_label : (pragma content : Option Part) → Option Part
pragma_label None content = None
pragma_label (Some p) content =
    if is_pragma p then option_and_then label_of_content content else None

abbrev pub charset_or : (charset : Option Part) (other : Option Part) → Option Part
charset_or None other = other
charset_or (Some p) other = stripped p

-- the label that a `meta` declares: a charset goes before a pragma
unfoldable pub meta_label : Meta → Option Part
meta_label m = charset_or m.charset (pragma_label m.pragma m.content)

-- markup, behind its `<`

abbrev pub starts_name : List ℕ → Bool
starts_name [] = false
starts_name (b ∷ bs) = is_ascii_alphabetic b

abbrev pub is_tag : List ℕ → Bool
is_tag [] = false
is_tag (b ∷ bs) = is_ascii_alphabetic b || ((b == 47) && starts_name bs)

abbrev pub is_other : List ℕ → Bool
is_other [] = false
is_other (b ∷ bs) = (b == 33) || (b == 47) || (b == 63)

abbrev pub starts_gap : Option (List ℕ) → Bool
starts_gap None = false
starts_gap (Some bs) = starts class.Gap bs

abbrev pub is_meta : List ℕ → Bool
is_meta bs = starts_gap (behind_word (codes "meta") bs)

unfoldable pub markup_of : List ℕ → Markup
markup_of bs = if is_some (behind_word (codes "!--") bs) then markup.Comment
    else (if is_meta bs then markup.Meta
    else (if is_tag bs then markup.Tag
    else (if is_other bs then markup.Other else markup.Text)))

-- what the scan finds: that the bytes end in markup, markup and the bytes behind it, or a label
pub data Piece : Type 0 where
  Cut : Piece
  Passed : (rest : List ℕ) → Piece
  Declared : Part → Piece

abbrev pub passed : Option (List ℕ) → Piece
passed None = Cut
passed (Some rest) = Passed rest

abbrev pub declared_or : (rest : List ℕ) → Option Part → Piece
declared_or rest None = Passed rest
declared_or rest (Some p) = Declared p

abbrev pub comment_passed : List ℕ → Piece
comment_passed [] = Cut
comment_passed (b ∷ bs) = passed (behind_first (codes "-->") bs)

abbrev pub attributes_passed : Option (Meta × List ℕ) → Piece
attributes_passed None = Cut
attributes_passed (Some (m, rest)) = Passed rest

abbrev pub meta_passed : Option (Meta × List ℕ) → Piece
meta_passed None = Cut
meta_passed (Some (m, rest)) = declared_or rest (meta_label m)

abbrev pub other_passed : List ℕ → Piece
other_passed [] = Cut
other_passed (b ∷ bs) = Passed bs

unfoldable pub markup_passed : Markup → List ℕ → Piece
markup_passed markup.Comment bs = comment_passed bs
markup_passed markup.Meta bs =
    meta_passed (option_and_then attributes (behind_word (codes "meta") bs))
markup_passed markup.Tag bs = attributes_passed (attributes (behind class.Word bs))
markup_passed markup.Other bs = other_passed (behind (class.Except 62) bs)
markup_passed markup.Text bs = Passed bs

-- the first `<` and its markup
abbrev pub first_piece : List ℕ → Piece
first_piece [] = Cut
first_piece (b ∷ bs) = markup_passed (markup_of bs) bs

unfoldable pub next_piece : List ℕ → Piece
next_piece bs = first_piece (behind (class.Except 60) bs)

abbrev pub scanned_on : (List ℕ → Option Part) → Piece → Option Part
scanned_on go Cut = None
scanned_on go (Passed rest) = go rest
scanned_on go (Declared p) = Some p

-- the label in at most so many pieces
unfoldable pub scanned_within : (at_most : ℕ) → List ℕ → Option Part
scanned_within zero bs = None
scanned_within (suc n) bs = scanned_on (scanned_within n) (next_piece bs)

-- the label that the bytes declare in markup; each piece takes a byte, so that their number is no
-- bound
unfoldable pub scanned : List ℕ → Option Part
scanned bs = scanned_within (length bs) bs
