use Rattle.std.proofs.Common.{◌≡◌, ◌++◌, map, drop}
use Rattle.html_dom_flat.specs.FlatViews.{flat_pair}
use Rattle.typst_html_encode.specs.{ExportFaults.{attrs_faults}, ReadingBack.{PairsAreNamed}, Text.{attrs_text}}
use Rattle.typst_html_encode.proofs.tags.write_attrs.Given as goal

abbrev pub invariant-loop-number : goal.invariant-loop-number
invariant-loop-number l =
    let names = l.element.children.names.now in
    let span = l.element.flat.now.span.0 in
    let left = map (flat_pair names) (drop l.number-index l.number-items) in
    let all = map (flat_pair names) l.number-items in
    record {
      agrees : l.out ++ attrs_text left ≡ l.initial.out ++ attrs_text all;
      clean : attrs_faults span left ≡ attrs_faults span all;
      named : PairsAreNamed left → PairsAreNamed all;
    }
