-- Plain trees for facts about the reader.
use Rattle.std.specs.Prelude.{ℕ, List, []}
use Rattle.html_dom_tree.specs.PlainTree.{Plain, words, branch, no_plains, plain}

-- an element that holds one text
abbrev pub paragraph_of : (name text : List ℕ) → Plain
paragraph_of name text = branch name [] (plain (words text) no_plains)
