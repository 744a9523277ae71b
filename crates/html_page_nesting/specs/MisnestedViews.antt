-- Findings of the program as pure values.
use Rattle.std.specs.Prelude.{List, map}
use Rattle.html_page_nesting.specs.{Misnested.{Finding}, declared.finding.Misnested.{Misnested}}

abbrev pub finding_view : Misnested → Finding
finding_view m = record { path = m.path.items; span = m.span.0; why = m.why }

abbrev pub findings_view : List Misnested → List Finding
findings_view = map finding_view
