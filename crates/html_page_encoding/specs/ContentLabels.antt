-- The label of an encoding in the value of `content` (HTML Standard, "algorithm for extracting a
-- character encoding from a meta element").
use Rattle.std.specs.Prelude.{ℕ, ◌==◌, List, [], ◌∷◌, codes, length, if◌then◌else◌, option_and_then, Option, Some, None}
use Rattle.html_page_encoding.specs.Attributes.{Part, is_quote}
use Rattle.html_page_encoding.specs.Classes.{behind, behind_word, front}
use Rattle.html_page_encoding.specs.declared.class.Class.TheVariants as class

-- a label that ends before these bytes, of which the first is its quote
abbrev pub quoted_label : (text : List ℕ) (left : ℕ) → List ℕ → Option Part
quoted_label text left [] = None
quoted_label text left (b ∷ bs) = Some (record { text = text; left = left })

-- the label behind `charset`, `=` and white space (step 6)
abbrev pub label_read : List ℕ → Option Part
label_read [] = None
label_read (b ∷ bs) = if is_quote b
    then quoted_label (front (class.Except b) bs) (length bs) (behind (class.Except b) bs)
    else Some (record { text = front class.Label (b ∷ bs); left = length (b ∷ bs) })

-- the bytes behind a `=` and white space
abbrev pub behind_equals : List ℕ → Option (List ℕ)
behind_equals [] = None
behind_equals (b ∷ bs) = if b == 61 then Some (behind class.Space bs) else None

-- the bytes behind `charset` and `=`, with white space around it, if the text begins so
unfoldable pub behind_charset : List ℕ → Option (List ℕ)
behind_charset bs = option_and_then (λ rest. behind_equals (behind class.Space rest))
    (behind_word (codes "charset") bs)

abbrev pub label_or : (later : Option Part) → Option (List ℕ) → Option Part
label_or later None = later
label_or later (Some rest) = label_read rest

-- the label behind the first `charset` with a `=`
unfoldable pub content_label : List ℕ → Option Part
content_label [] = None
content_label (b ∷ bs) = label_or (content_label bs) (behind_charset (b ∷ bs))
