-- Lists of names, and the faults of a text as a name. Texts are lists of characters.
use Rattle.std.specs.{Borrow.{Bor}, List.{find, list_any, list_all}, Ordering.{nat_cmp, is_lt}}
use Rattle.std.specs.Prelude.{◌++◌, ◌≡◌, ◌<◌, ℕ, Bool, true, false, not, ◌||◌, ◌&&◌, ◌==◌, length, slice_index_or, nat_lt, List, [], ◌∷◌, bytes_eq, codes, map, slice_index, if◌then◌else◌, Option, Some, None}
use Rattle.std.specs.Cmp.Lexicographic.{slice_cmp}
use Rattle.html_names_core.specs.Characters.{is_tag_char, is_attr_char, is_lower, is_capital, is_hyphen}
use Rattle.html_names_core.specs.declared.fault.NameFault.{NameFault}
use Rattle.html_names_core.specs.declared.fault.NameFault.TheVariants.{EmptyTag, BadTagChar, CustomStart, CustomCapital, Reserved, EmptyAttr, BadAttrChar}

abbrev pub put_first : ℕ → List (List ℕ) → List (List ℕ)
put_first c [] = (c ∷ []) ∷ []
put_first c (n ∷ ns) = (c ∷ n) ∷ ns

-- the names that a text lists, separated by single spaces
abbrev pub listed_names : List ℕ → List (List ℕ)
listed_names [] = [] ∷ []
listed_names (c ∷ cs) = if c == 32 then [] ∷ listed_names cs else put_first c (listed_names cs)

-- the name that an identifier spells: each `_` becomes `-`, but one at the end is removed
abbrev pub spelled_name : List ℕ → List ℕ
spelled_name [] = []
spelled_name (c ∷ []) = if c == 95 then [] else c ∷ []
spelled_name (c ∷ d ∷ cs) = (if c == 95 then 45 else c) ∷ spelled_name (d ∷ cs)

-- whether these are exactly the listed names, in order, each beside an identifier that spells it
abbrev pub are_spelled : List (Bor (List ℕ) × List ℕ) → List (List ℕ) → Bool
are_spelled [] [] = true
are_spelled (c ∷ cs) (n ∷ ns) =
    bytes_eq c.1 n && bytes_eq n (spelled_name c.0.now) && are_spelled cs ns
are_spelled _ _ = false

-- whether the text is in the list
unfoldable pub stands_in : List (List ℕ) → List ℕ → Bool
stands_in [] text = false
stands_in (n ∷ ns) text = bytes_eq n text || stands_in ns text

-- the texts that references refer to
abbrev pub texts : List (Bor (List ℕ)) → List (List ℕ)
texts = map (λ n. n.now)

abbrev pub is_ascii : List ℕ → Bool
is_ascii = list_all (λ c. nat_lt c 128)

abbrev pub are_ascii : List (List ℕ) → Bool
are_ascii = list_all is_ascii

-- whether a text is below the first of the list, if there is one
abbrev pub is_below_first : List ℕ → List (List ℕ) → Bool
is_below_first n [] = true
is_below_first n (m ∷ ms) = is_lt (slice_cmp nat_cmp n m)

-- whether each text is below the next, by their bytes
abbrev pub rises : List (List ℕ) → Bool
rises [] = true
rises (n ∷ ns) = is_below_first n ns && rises ns

-- the text is at that index of the list
abbrev pub IsPlace : List (List ℕ) → List ℕ → ℕ → Type 0
IsPlace names text n = (n < length names) × (slice_index_or names n [] ≡ text)

-- the names that HTML reserves for SVG and MathML
abbrev pub reserved_names : List (List ℕ)
reserved_names =
    listed_names (codes "annotation-xml color-profile font-face font-face-src font-face-uri")
    ++ listed_names (codes "font-face-format font-face-name missing-glyph")

unfoldable pub is_reserved : List ℕ → Bool
is_reserved name = stands_in reserved_names name

-- the first fault of a name with a hyphen, such as a custom element has
abbrev pub custom_fault : List ℕ → Option NameFault
custom_fault name =
    if is_lower (slice_index name 0)
    then (if list_any is_capital name then Some CustomCapital
    else (if is_reserved name then Some Reserved else None))
    else Some CustomStart

abbrev pub fault_after : List ℕ → Option ℕ → Option NameFault
fault_after name (Some c) = Some (BadTagChar c)
fault_after name None = if list_any is_hyphen name then custom_fault name else None

-- the first fault of a text as a tag name, in this order: it is empty, a character is not valid, or
-- a name with a hyphen does not begin with a lowercase letter, contains a capital or is reserved
abbrev pub tag_fault : List ℕ → Option NameFault
tag_fault [] = Some EmptyTag
tag_fault (c ∷ cs) = fault_after (c ∷ cs) (find (λ d. not (is_tag_char d)) (c ∷ cs))

abbrev pub bad_attr_char : Option ℕ → Option NameFault
bad_attr_char (Some c) = Some (BadAttrChar c)
bad_attr_char None = None

-- the first fault of a text as an attribute name: it is empty, or a character is not valid
abbrev pub attr_fault : List ℕ → Option NameFault
attr_fault [] = Some EmptyAttr
attr_fault (c ∷ cs) = bad_attr_char (find (λ d. not (is_attr_char d)) (c ∷ cs))
