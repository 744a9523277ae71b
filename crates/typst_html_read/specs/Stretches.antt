-- Stretches of characters that are read at once.
use Rattle.std.specs.{List.{list_all}, Prelude.{◌≡◌, ℕ, Bool, true, not, ◌&&◌, ◌||◌, ◌==◌, List, [], ◌∷◌, ◌++◌}}
use Rattle.typst_html_encode.specs.Reader.{ReaderState}
use Rattle.typst_html_read.specs.{BegunReferences.{begins_reference}, LimitedReading.{next_state, begins_deep, is_stop}}

-- the character is neither `&` nor `end`
abbrev pub is_plain : (end : ℕ) → ℕ → Bool
is_plain end c = not (c == end || c == 38)

-- `front` and `rest` make up the text, and each character of `front` is of the class
pub record Splits (class : ℕ → Bool) (text front rest : List ℕ) : Type 0 where
  pub parts : text ≡ front ++ rest
  pub within : list_all class front ≡ true

-- the character continues a reference and does not end it
abbrev pub continues : (since : List ℕ) → ℕ → Bool
continues since c = not (c == 59) && begins_reference (since ++ c ∷ [])

-- each of the characters can be appended to those before it
abbrev pub all_grow : (class : List ℕ → ℕ → Bool) → List ℕ → List ℕ → Bool
all_grow class read [] = true
all_grow class read (c ∷ cs) = class read c && all_grow class (read ++ c ∷ []) cs

-- the text begins with such characters, which are appended to those read before, and the rest
-- remains
pub record Adds (class : List ℕ → ℕ → Bool) (old new text rest : List ℕ) : Type 0 where
  pub front : List ℕ
  pub parts : text ≡ front ++ rest
  pub within : all_grow class old front ≡ true
  pub added : new ≡ old ++ front

-- as `next_state`, for one character after the other
abbrev pub next_states : ReaderState → List ℕ → ReaderState
next_states s [] = s
next_states s (c ∷ cs) = next_states (next_state s c) cs

-- reading stops at none of the characters, and none begins the start tag of an element
abbrev pub runs_on : ReaderState → List ℕ → Bool
runs_on s [] = true
runs_on s (c ∷ cs) =
    (not (begins_deep 0 s c) && not (is_stop (next_state s c))) && runs_on (next_state s c) cs

-- the text begins with such characters, which are read, and the rest remains
pub record ReadsOn (old new : ReaderState) (text rest : List ℕ) : Type 0 where
  pub front : List ℕ
  pub parts : text ≡ front ++ rest
  pub runs : runs_on old front ≡ true
  pub state : new ≡ next_states old front
