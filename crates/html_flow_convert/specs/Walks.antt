-- A walk over nodes, as the program does it.
use Rattle.std.specs.Prelude.{Bool, List, [], ◌∷◌, ◌++◌}
use Rattle.html_flow_convert.specs.{BareSpaces.{Thing, border, visible, space}, Lines.{last_after, answer_before}}
use Rattle.html_flow_convert.specs.declared.{answers.SpaceWalk.{SpaceWalk}, line.Last.{Last}, look.Look.{Look}}
use Rattle.html_flow_convert.specs.declared.look.Look.TheVariants as look

-- whether each space so far is bare, except one that stands last, and what stands last
abbrev pub WalkView : Type 0
WalkView = List Bool × Last

abbrev pub walk_view : SpaceWalk → WalkView
walk_view w = (w.bare.items, w.last)

-- the walk after one more thing
abbrev pub walk_with : WalkView → Look → WalkView
walk_with w next = (w.0 ++ answer_before w.1 next, last_after w.1 next)

-- the walk after more things
unfoldable pub walk_on : WalkView → List Thing → WalkView
walk_on w [] = w
walk_on w (border ∷ ts) = walk_on (walk_with w look.Border) ts
walk_on w (visible ∷ ts) = walk_on (walk_with w look.Visible) ts
walk_on w (space ∷ ts) = walk_on (walk_with w look.Space) ts
