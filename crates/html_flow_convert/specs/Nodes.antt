-- Nodes that white space processing adds.
use Rattle.std.specs.Prelude.{ℕ, Bool, true, false, ◌==◌, List, [], ◌∷◌, codes, None}
use Rattle.html_dom_tree.specs.Tree.{Head, NodeView, element_node, none}

-- an element of that name, css and span, with nothing else and without children
abbrev pub made_head : (name : List ℕ) (css : List (List ℕ × List ℕ)) (span : ℕ) → Head
made_head name css span =
    record { name = name; attrs = []; css = css; parent = None; span = span; pre_span = false }

-- a forced line break
abbrev pub break_node : (span : ℕ) → NodeView
break_node span = element_node (made_head (codes "br") [] span) none

-- a `span` in which white space stays (CSS Text 3: `white-space: pre-wrap`)
abbrev pub pre_wrap_head : (span : ℕ) → Head
pre_wrap_head span = record
    (made_head (codes "span") ((codes "white-space", codes "pre-wrap") ∷ []) span)
    { pre_span = true }

-- whether the text is that one character
abbrev pub is_one : ℕ → List ℕ → Bool
is_one d [] = false
is_one d (c ∷ []) = c == d
is_one d (c ∷ e ∷ cs) = false
