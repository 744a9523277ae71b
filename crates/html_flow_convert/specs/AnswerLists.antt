-- Whether each lone space is bare, as a list whose first entries are used.
use Rattle.std.specs.Prelude.{Bool, List, drop}
use Rattle.html_flow_convert.specs.declared.protect.Answers.{Answers}

-- the entries that are left
abbrev pub answers_view : Answers → List Bool
answers_view a = drop a.next a.reused.now.bare.items
