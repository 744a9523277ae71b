-- The attributes of a tag at the beginning of a page (HTML Standard 13.2.3.2, "get an attribute").
-- Their names and values keep their capitals here, and are compared in any ASCII case.
use Rattle.std.specs.Prelude.{ℕ, zero, suc, Bool, ◌||◌, ◌==◌, List, [], ◌∷◌, codes, length, if◌then◌else◌, Option, Some, None}
use Rattle.html_page_encoding.specs.Classes.{behind, front, is_word}
use Rattle.html_page_encoding.specs.declared.class.Class.TheVariants as class

-- some of the scanned bytes, and the number of those from the first of them on
pub record Part : Type 0 where
  pub text : List ℕ
  pub left : ℕ

-- an attribute, and the bytes behind it
pub record Attribute : Type 0 where
  pub name : List ℕ
  pub value : Part
  pub rest : List ℕ

-- what a tag goes on with: nothing that ends before the scanned bytes do, its `>` and the bytes
-- behind it, or an attribute
pub data TagFront : Type 0 where
  Cut : TagFront
  Close : (rest : List ℕ) → TagFront
  Next : Attribute → TagFront

abbrev pub valued : (name text : List ℕ) (left : ℕ) (rest : List ℕ) → Attribute
valued name text left rest = record {
  name = name;
  value = record { text = text; left = left };
  rest = rest;
}

-- with a value that ends before these bytes, of which the first is its quote
abbrev pub quoted : (name text : List ℕ) (left : ℕ) → List ℕ → TagFront
quoted name text left [] = Cut
quoted name text left (b ∷ bs) = Next (valued name text left bs)

-- with a value without quotes that ends before these bytes
abbrev pub unquoted : (name text : List ℕ) (left : ℕ) → List ℕ → TagFront
unquoted name text left [] = Cut
unquoted name text left (b ∷ bs) = Next (valued name text left (b ∷ bs))

abbrev pub is_quote : ℕ → Bool
is_quote b = (b == 34) || (b == 39)

-- with a value that begins with these bytes (steps 9 to 12)
abbrev pub value_read : (name : List ℕ) → List ℕ → TagFront
value_read name [] = Cut
value_read name (b ∷ bs) = if is_quote b
    then quoted name (front (class.Except b) bs) (length bs) (behind (class.Except b) bs)
    else unquoted name (front class.Word (b ∷ bs)) (length (b ∷ bs)) (behind class.Word (b ∷ bs))

-- with these bytes behind its name and white space (steps 6 to 8)
abbrev pub name_read : (name : List ℕ) → List ℕ → TagFront
name_read name [] = Cut
name_read name (b ∷ bs) = if b == 61 then value_read name (behind class.Space bs)
    else Next (valued name [] (length (b ∷ bs)) (b ∷ bs))

-- behind white space and `/` (steps 2 to 5)
abbrev pub attribute_read : List ℕ → TagFront
attribute_read [] = Cut
attribute_read (b ∷ bs) = if b == 62 then Close bs
    else name_read (b ∷ front class.Name bs) (behind class.Space (behind class.Name bs))

unfoldable pub tag_front : List ℕ → TagFront
tag_front bs = attribute_read (behind class.Gap bs)

-- the values of the attributes that matter, of which the first of each name counts
pub record Meta : Type 0 where
  pub pragma : Option Part
  pub content : Option Part
  pub charset : Option Part

abbrev pub no_attributes : Meta
no_attributes = record { pragma = None; content = None; charset = None }

abbrev pub first_of : Option Part → Part → Option Part
first_of None p = Some p
first_of (Some q) p = Some q

unfoldable pub taken : Meta → (name : List ℕ) → Part → Meta
taken m name p =
    if is_word (codes "http-equiv") name then record m { pragma = first_of m.pragma p }
    else (if is_word (codes "content") name then record m { content = first_of m.content p }
    else (if is_word (codes "charset") name then record m { charset = first_of m.charset p }
    else m))

abbrev pub attributes_on : (Meta → List ℕ → Option (Meta × List ℕ)) → Meta → TagFront →
    Option (Meta × List ℕ)
attributes_on go m Cut = None
attributes_on go m (Close rest) = Some (m, rest)
attributes_on go m (Next a) = go (taken m a.name a.value) a.rest

-- the attributes up to the tag's `>`, if that and they are at most so many, and the bytes behind it
unfoldable pub attributes_within : (at_most : ℕ) → Meta → List ℕ → Option (Meta × List ℕ)
attributes_within zero m bs = None
attributes_within (suc n) m bs = attributes_on (attributes_within n) m (tag_front bs)

-- the attributes up to the tag's `>`, if that is scanned, and the bytes behind it; each attribute
-- takes a byte, so that their number is no bound
unfoldable pub attributes_from : Meta → List ℕ → Option (Meta × List ℕ)
attributes_from m bs = attributes_within (length bs) m bs

abbrev pub attributes : List ℕ → Option (Meta × List ℕ)
attributes bs = attributes_from no_attributes bs
