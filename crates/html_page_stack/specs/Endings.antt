-- What a step leaves, and what a page ends with. An allocation may fail before either.
use Rattle.std.specs.Prelude.{◌≡◌, List, [], ◌∷◌, Option, Some, None, option_map, Result, IfOk}
use Rattle.html_dom_tree.specs.{Views.{element_view}, declared.node.HtmlElement.{HtmlElement}}
use Rattle.html_page_stack.specs.{OpenElements.{OpenElement, root_of}, PageViews.{element_of, notes_of, token_of}, Pages.{Page, Turn, Taken, Again, settled}}
use Rattle.html_page_stack.specs.declared.{element.PageElement.{PageElement}, notes.Notes.{Notes}, token.Token.{Token}}

-- the turn, from the token that is processed again, if any
abbrev pub turn_of : Option Token → Page → Turn
turn_of None p = Taken p
turn_of (Some token) p = Again p (token_of token)

-- the rules of a mode handle a token as expected
abbrev pub Turns : {E : Type 0} → Result (Option Token) E → (expected : Turn) (new : Page) → Type 0
Turns r expected new = IfOk r (λ again. turn_of again new ≡ expected)

-- a call reads a page to its end, and returns its root and its errors
pub record Finishes {E : Type 0} (r : Result (Option HtmlElement × Notes) E) (p : Page) : Type 0 where
  pub root : IfOk r (λ read. option_map element_view read.0 ≡ root_of (settled p).stack)
  pub notes : IfOk r (λ read. notes_of read.1 ≡ p.notes)

-- a call takes the innermost element off, if there is one
abbrev pub Pops : Option PageElement → (old new : List OpenElement) → Type 0
Pops None old new = (old ≡ []) × (new ≡ [])
Pops (Some e) old new = old ≡ element_of e ∷ new
