-- Attributes that are event handlers: browsers run their values.
use Rattle.std.specs.{Char.{eq_ignore_ascii_case}, Prelude.{ℕ, Bool, false, ◌&&◌, List, [], ◌∷◌}}

-- the name begins with `on`, in any ASCII case, as those of all event handlers do (HTML Standard
-- 8.1.8.1)
abbrev pub is_event_handler : List ℕ → Bool
is_event_handler (first ∷ second ∷ others) =
    eq_ignore_ascii_case first 111 && eq_ignore_ascii_case second 110
is_event_handler (first ∷ []) = false
is_event_handler [] = false
