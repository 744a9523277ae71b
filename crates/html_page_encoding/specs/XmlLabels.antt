-- The label of an encoding in an XML declaration (HTML Standard 13.2.3.2, "get an XML encoding").
use Rattle.std.specs.{List.{list_any, starts_with}, Prelude.{ℕ, ◌==◌, List, [], ◌∷◌, codes, length, if◌then◌else◌, option_and_then, Option, Some, None}}
use Rattle.html_page_encoding.specs.Attributes.{Part, is_quote}
use Rattle.html_page_encoding.specs.Classes.{behind, behind_first, front, has}
use Rattle.html_page_encoding.specs.ContentLabels.{quoted_label}
use Rattle.html_page_encoding.specs.Prescan.{part_in, stripped}
use Rattle.html_page_encoding.specs.declared.class.Class.TheVariants as class

abbrev pub text_before : (text : List ℕ) → List ℕ → Option (List ℕ)
text_before text [] = None
text_before text (b ∷ bs) = Some text

-- the XML declaration with which a page begins, without its `>` (steps 2 and 3)
unfoldable pub declaration : List ℕ → Option (List ℕ)
declaration bs = if starts_with ◌==◌ bs (codes "<?xml")
    then text_before (front (class.Except 62) bs) (behind (class.Except 62) bs) else None

-- the label in quotes (steps 10 to 14)
abbrev pub quote_read : List ℕ → Option Part
quote_read [] = None
quote_read (b ∷ bs) = if is_quote b
    then quoted_label (front (class.Except b) bs) (length bs) (behind (class.Except b) bs) else None

-- the label behind `encoding` and a `=` (steps 6 to 9)
abbrev pub value_read : List ℕ → Option Part
value_read [] = None
value_read (b ∷ bs) = if b == 61 then quote_read (behind class.Control bs) else None

-- a label without white space and controls (step 15)
abbrev pub plain : Part → Option Part
plain p = if list_any (has class.Control) p.text then None else Some p

-- the label in a declaration
unfoldable pub declared_label : List ℕ → Option Part
declared_label text = option_and_then plain
    (option_and_then (λ rest. value_read (behind class.Control rest))
    (behind_first (codes "encoding") text))

abbrev pub label_of_declaration : (left : ℕ) → (text : List ℕ) → Option Part
label_of_declaration left text = option_and_then
    (λ p. stripped (part_in (record { text = text; left = left }) p)) (declared_label text)

unfoldable pub xml_label : List ℕ → Option Part
xml_label bs = option_and_then (label_of_declaration (length bs)) (declaration bs)
