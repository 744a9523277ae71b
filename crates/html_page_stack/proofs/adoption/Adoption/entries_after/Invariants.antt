use Rattle.std.{proofs.Common.{◌≡◌, ◌+◌, ◌<◌, ◌^◌, ◌++◌, length}, specs.Vec.Iter.{into_iter_items}}
use Rattle.html_page_stack.specs.{Adoption.{entries_after}, AdoptionViews.{adoption_of}, PageViews.{entries_of}}
use Rattle.html_page_stack.proofs.adoption.Adoption.entries_after.Given as goal

abbrev pub invariant-loop-entry : goal.invariant-loop-entry
invariant-loop-entry l = record {
  after : entries_of l.after.items
      ++ entries_after (adoption_of l.self) l.count l.before (entries_of (into_iter_items l.entry-iterator))
      ≡ entries_after (adoption_of l.self) l.count 0 (entries_of l.fn.entries.items);
  few : l.before + length (into_iter_items l.entry-iterator) < 2 ^ 63;
}
