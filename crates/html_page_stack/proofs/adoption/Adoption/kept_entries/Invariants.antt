use Rattle.std.proofs.Common.{◌≡◌, ◌++◌, drop, map}
use Rattle.html_page_stack.specs.{Adoption.{kept_entries}, AdoptionViews.{adoption_of}, PageViews.{entries_of, format_of}}
use Rattle.html_page_stack.proofs.adoption.Adoption.kept_entries.Given as goal

abbrev pub invariant-loop-entry : goal.invariant-loop-entry
invariant-loop-entry l =
    map format_of l.kept.items
    ++ kept_entries (adoption_of l.self) (entries_of (drop l.entry-index l.entry-items))
    ≡ kept_entries (adoption_of l.self) (entries_of l.entry-items)
