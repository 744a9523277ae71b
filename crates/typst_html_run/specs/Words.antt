-- The words that the program is called with.
use Rattle.std.specs.Prelude.{ℕ, List, [], ◌∷◌, map, Option, Some, None, option_map, option_and_then, codes, bytes_eq, String, string_bytes, Bool, true, false, if◌then◌else◌}
use Rattle.std.specs.declared.alloc.Global.{Global}
use Rattle.typst_html_run.specs.declared.words.{Task.{Task}, Task.TheVariants.{Tree, Doc}}

abbrev pub texts_of : List (String Global) → List (List ℕ)
texts_of = map string_bytes

-- the task of that word
abbrev pub task_of : (word : List ℕ) → Option Task
task_of word = if bytes_eq word (codes "tree") then Some Tree
    else (if bytes_eq word (codes "doc") then Some Doc else None)

-- whether pretty text is wanted: the task is followed by nothing or by `--pretty`
abbrev pub wants_pretty : (options : List (List ℕ)) → Option Bool
wants_pretty [] = Some false
wants_pretty (w ∷ []) = if bytes_eq w (codes "--pretty") then Some true else None
wants_pretty (w ∷ v ∷ ws) = None

-- the task, and whether pretty text is wanted, if the words are valid
abbrev pub wanted_task : (words : List (List ℕ)) → Option (Task × Bool)
wanted_task [] = None
wanted_task (word ∷ options) = option_and_then
    (λ task. option_map (λ pretty. (task, pretty)) (wants_pretty options)) (task_of word)
