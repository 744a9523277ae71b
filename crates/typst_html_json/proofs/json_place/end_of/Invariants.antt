use Rattle.std.proofs.Common.{◌≡◌, ◌+◌, ◌≤◌, drop}
use Rattle.typst_html_json.specs.JsonPlaces.{end_of}
use Rattle.typst_html_json.proofs.json_place.end_of.Given as goal

abbrev pub invariant-loop-b : goal.invariant-loop-b
invariant-loop-b l = record {
  same : end_of l.line l.column (drop l.b-index l.text) ≡ end_of 1 0 l.text;
  line : l.line ≤ l.b-index + 1;
  column : l.column ≤ l.b-index;
}
