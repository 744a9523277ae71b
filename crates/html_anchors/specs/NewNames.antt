-- New names (this project's rule), beside the names that are in use in a tree.
use Rattle.std.specs.Prelude.{ℕ, zero, suc, ◌^◌, Bool, true, false, if◌then◌else◌, [], ◌∷◌, ◌++◌, codes, decimal, Option, Some, None}
pub use Rattle.html_links.specs.TreeNames.{Name, with_used_name, first_id, all_ids, anchor_names, frame_names, gathered_names, nodes_names, element_names}

-- a stem, `-` and a number
abbrev pub name_with_number : Name → ℕ → Name
name_with_number stem n = stem ++ (codes "-" ++ decimal n)

-- the first number from `n` on whose name is free, after at most that many tries
unfoldable pub first_free : (stem : Name) (used : Name → Bool) (tries n : ℕ) → ℕ
first_free stem used zero n = n
first_free stem used (suc tries) n = elim (used (name_with_number stem n)) as (λ b. ℕ)
    [ true ↦ first_free stem used tries (suc n) | false ↦ n ]

-- the text before a number, and the first number
abbrev pub stem_of : (label : Name) → Name
stem_of [] = codes "loc"
stem_of (c ∷ cs) = c ∷ cs

abbrev pub first_number : (label : Name) → ℕ
first_number [] = 1
first_number (c ∷ cs) = 2

-- the name with the first free number; one of 2 ^ 63 names is free, since no memory holds so many
abbrev pub free_name : (label : Name) (used : Name → Bool) → Name
free_name label used =
    name_with_number (stem_of label) (first_free (stem_of label) used (2 ^ 63) (first_number label))

-- the text of a label; no label is like an empty one
abbrev pub text_of_label : Option Name → Name
text_of_label None = []
text_of_label (Some n) = n

-- the label if it is not empty and not in use; else the label with the first free number from 2;
-- without a label, or with an empty one, `loc` with the first free number from 1
abbrev pub name_for : (label : Name) (used : Name → Bool) → Name
name_for [] used = free_name [] used
name_for (c ∷ cs) used = if used (c ∷ cs) then free_name (c ∷ cs) used else c ∷ cs

unfoldable pub new_name : (label : Option Name) (used : Name → Bool) → Name
new_name label used = name_for (text_of_label label) used
