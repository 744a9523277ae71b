-- The turns of a token: how often it is processed again before it is taken.
use Rattle.std.specs.Prelude.{◌≡◌, ◌+◌, ℕ, zero, suc, Bool, true, false, length}
use Rattle.html_page_stack.specs.Pages.{Page, Token, Turn, Taken, Again}
use Rattle.html_page_tree.specs.PageTrees.{processed, taken_at_last, turn}

-- whether the token is taken in this turn, or as the test says of the next
abbrev pub taken_behind : (taken : Token → Page → Bool) → Turn → Bool
taken_behind taken (Taken p) = true
taken_behind taken (Again p token) = taken token p

-- whether the token is taken within so many turns
unfoldable pub taken_within : (turns : ℕ) → Token → Page → Bool
taken_within zero token p = false
taken_within (suc n) token p = taken_behind (taken_within n) (turn token p)

-- each token of each page is taken within the turns that it has
abbrev pub TokensTaken : Type 0
TokensTaken = (token : Token) (p : Page) → taken_within (suc (length p.stack + 14)) token p ≡ true

-- more turns change nothing
abbrev pub TurnsEnd : Type 0
TurnsEnd = (token : Token) (p : Page) (more : ℕ) →
    processed (more + suc (length p.stack + 14)) token p ≡ taken_at_last token p
