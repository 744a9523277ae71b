use Rattle.std.proofs.Common.{◌≡◌, ◌+◌, [], drop}
use Rattle.typst_html_json.specs.{JsonPlaces.{begun}, declared.json_stage.Stage.TheVariants.{Value}}
use Rattle.typst_html_json.proofs.json_place.begun_len.Given as goal

abbrev pub invariant-loop-index : goal.invariant-loop-index
invariant-loop-index l = l.index + begun l.point.stage l.point.brackets.items (drop l.index l.text)
    ≡ begun Value [] l.text
