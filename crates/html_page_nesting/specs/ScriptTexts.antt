-- Whether a script's end tag is read as text (HTML Standard 13.2.5.4, 13.2.5.15 to 13.2.5.31).
use Rattle.std.specs.Prelude.{ℕ, Bool, false, ◌&&◌, ◌==◌, nat_lt, List, [], ◌∷◌, ◌++◌, if◌then◌else◌, codes, Option, Some, None, drop}
use Rattle.html_dom_tree.specs.Tree.{NodeView, text_node, NodesView, none, node}
use Rattle.html_page_read.specs.PageTokens.{script_depth}
use Rattle.html_text.specs.RawEnds.{ends_raw}
use Rattle.html_page_nesting.specs.declared.script.ScriptDepth.{ScriptDepth}
use Rattle.html_page_nesting.specs.declared.script.ScriptDepth.TheVariants as depth
use Rattle.html_page_nesting.specs.declared.script.ScriptText.{ScriptText}

-- the depth in comments behind a script's text and one more character, or None behind the end tag
-- that ends it, the first at a depth below 2
abbrev pub depth_behind : Option ℕ → (text : List ℕ) → ℕ → Option ℕ
depth_behind None text c = None
depth_behind (Some n) text c = if nat_lt n 2 && ends_raw (codes "script") text c then None
    else Some (script_depth n text c)

-- the depth behind a text and more text
abbrev pub depth_past : Option ℕ → (text more : List ℕ) → Option ℕ
depth_past depth text [] = depth
depth_past depth text (c ∷ cs) = depth_past (depth_behind depth text c) (text ++ c ∷ []) cs

abbrev pub is_in_script : Option ℕ → Bool
is_in_script None = false
is_in_script (Some n) = n == 2

-- whether the end tag behind a script's text is read as text
abbrev pub hides_end : (text : List ℕ) → Bool
hides_end text = is_in_script (depth_past (Some 0) [] text)

abbrev pub node_text : NodeView → List ℕ
node_text (text_node s span) = s
node_text n = []

-- the texts among these nodes, joined
abbrev pub joined_text : NodesView → List ℕ
joined_text none = []
joined_text (node n ns) = node_text n ++ joined_text ns

-- what suffices of a script's text to go on: the depth, and the last eight characters
abbrev pub Kept : Type 0
Kept = Option ℕ × List ℕ

abbrev pub first_kept : Kept
first_kept = (Some 0, 0 ∷ 0 ∷ 0 ∷ 0 ∷ 0 ∷ 0 ∷ 0 ∷ 0 ∷ [])

abbrev pub kept_behind : Kept → ℕ → Kept
kept_behind k c = (depth_behind k.0 k.1 c, drop 1 k.1 ++ c ∷ [])

abbrev pub depth_of : ScriptDepth → Option ℕ
depth_of depth.Outside = Some 0
depth_of depth.Comment = Some 1
depth_of depth.Script = Some 2
depth_of depth.Ended = None

abbrev pub kept_of : ScriptText → Kept
kept_of s = (depth_of s.depth, s.last)
