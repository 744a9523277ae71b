-- Numbers for names: a table numbers the tags from 0 on, and the attributes separately.
use Rattle.std.specs.Prelude.{◌≡◌, ℕ, ◌+◌, ◌⊎◌, false, List, [], ◌∷◌, ◌++◌, bytes_eq, slice_index_or, if◌then◌else◌, Option, Some, None, Result, IfOk, OnOk, OnErr, ◌<◌, length}
use Rattle.std.specs.declared.alloc.AllocError.{AllocError}
use Rattle.html_names_core.specs.Names.{stands_in}

-- a table of names: the texts of the tags and of the attributes that have a number, in the order of
-- their numbers
pub record NamesView : Type 0 where
  pub tags : List (List ℕ)
  pub attrs : List (List ℕ)

-- no name has a number
abbrev pub no_names : NamesView
no_names = record { tags = []; attrs = [] }

-- the number of a name among names: how many come before the first that is equal to it, or how
-- many there are if none is
unfoldable pub number_in : List (List ℕ) → List ℕ → ℕ
number_in [] name = 0
number_in (n ∷ ns) name = if bytes_eq n name then 0 else number_in ns name + 1

-- the number of a text among names, if it is one of them
abbrev pub number_where : List (List ℕ) → List ℕ → Option ℕ
number_where names name = if stands_in names name then Some (number_in names name) else None

-- the names, with that name at the end unless it is among them
unfoldable pub with_name : List (List ℕ) → List ℕ → List (List ℕ)
with_name names name = if stands_in names name then names else names ++ name ∷ []

-- the name with that number
abbrev pub name_at : List (List ℕ) → ℕ → List ℕ
name_at names number = slice_index_or names number []

-- each number is that of its name, so no two of the names are equal
abbrev pub IsNumbered : List (List ℕ) → Type 0
IsNumbered names = (number : ℕ) → number < length names →
    number_in names (name_at names number) ≡ number

-- a table of names, with that tag in it
abbrev pub with_tag : NamesView → List ℕ → NamesView
with_tag table tag = record { tags = with_name table.tags tag; attrs = table.attrs }

-- a table of names, with that attribute in it
abbrev pub with_attr : NamesView → List ℕ → NamesView
with_attr table attr = record { tags = table.tags; attrs = with_name table.attrs attr }

-- a call returns the number of a name, which is below the count of the names after the call, and
-- the table becomes `grown`; if the call fails, the name had no number and the table is unchanged
pub record Numbers {E T : Type 0} (result : Result ℕ E) (given after : List (List ℕ))
    (name : List ℕ) (old new grown : T) : Type 0 where
  pub number : IfOk result (λ n. n ≡ number_in given name)
  pub below : IfOk result (λ n. n < length after)
  pub names : OnOk result (new ≡ grown)
  pub absent : OnErr result (stands_in given name ≡ false)
  pub kept : OnErr result (new ≡ old)

-- a call looks up the numbers of two names, one after the other, and the table becomes `both`; if
-- the call fails, it stopped at a name that had no number: at the first, with the table unchanged,
-- or at the second, with the table `one`
pub record NumbersBoth {A : Type 0} (result : Result A AllocError) (given : List (List ℕ))
    (first second : List ℕ) (old new one both : NamesView) : Type 0 where
  pub names : OnOk result (new ≡ both)
  pub stopped : OnErr result (((stands_in given first ≡ false) × (new ≡ old))
      ⊎ ((stands_in (with_name given first) second ≡ false) × (new ≡ one)))
