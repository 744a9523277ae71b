use Rattle.std.proofs.Common.{◌≡◌, true, drop}
use Rattle.html_page_names.specs.{ReferenceRow.{value_in}, ReferenceTables.{are_as_long, rows_view}}
use Rattle.html_page_names.proofs.references.value_in.Given as goal

abbrev pub invariant-loop-reference : goal.invariant-loop-reference
invariant-loop-reference l = record {
  long : are_as_long l.names (drop l.reference-index l.references) ≡ true;
  agrees : value_in (rows_view l.names (drop l.reference-index l.references)) l.name
      ≡ value_in (rows_view l.initial.names l.references) l.name;
}
