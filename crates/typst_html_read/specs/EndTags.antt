-- The end tag of the innermost element.
use Rattle.std.specs.{List.{list_all}, Prelude.{◌≡◌, ℕ, List, [], ◌∷◌, ◌++◌, true, codes}}
use Rattle.html_names_core.specs.Characters.{is_tag_char}
use Rattle.typst_html_encode.specs.Reader.{Open, ReaderState, complete, with_text}

-- the text begins with the end tag of the innermost element
pub record EndsTag (stack : List Open) (text rest : List ℕ) : Type 0 where
  pub top : Open
  pub others : List Open
  pub stands : stack ≡ top ∷ others
  pub named : list_all is_tag_char top.name ≡ true
  pub parts : text ≡ codes "</" ++ (top.name ++ (codes ">" ++ rest))

-- the innermost element, with the text as its last child, is complete
abbrev pub Leaves : (text : List ℕ) → List Open → ReaderState → Type 0
Leaves text [] new = Unit {0}
Leaves text (o ∷ os) new = new ≡ complete o.name o.attrs (with_text text o.children) os
