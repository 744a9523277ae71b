-- Runs of blanks, as they grow.
use Rattle.std.specs.Prelude.{Bool, false, ◌&&◌, ◌||◌, List, [], ◌∷◌}
use Rattle.html_dom_tree.specs.Tree.{NodeView, is_tag}
use Rattle.html_flow_convert.specs.Runs.{is_space, is_tab, is_blank_node}

-- whether a node belongs to the run before it, which may be empty
abbrev pub goes_on : (run : List NodeView) → NodeView → Bool
goes_on [] n = is_blank_node n
goes_on (m ∷ run) n = is_blank_node n || is_tag n

-- whether any run of blanks is preserved, given whether the current run has a space
abbrev pub has_kept_run : (has_space : Bool) → List NodeView → Bool
has_kept_run has_space [] = false
has_kept_run has_space (n ∷ ns) =
    (is_tab n || (has_space && is_space n)) || has_kept_run (is_space n || (has_space && is_tag n)) ns
