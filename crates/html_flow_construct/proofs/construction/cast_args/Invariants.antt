use Rattle.std.proofs.Common.{◌≡◌, ◌++◌, drop}
use Rattle.html_dom_tree.specs.Views.{attrs_view}
use Rattle.html_flow_faults.specs.ConstructFaults.{faults_view}
use Rattle.html_flow_construct.specs.Construct.{args_view, attrs, entries_view, faults}
use Rattle.html_flow_construct.proofs.construction.cast_args.Given as goal

abbrev pub invariant-loop-arg : goal.invariant-loop-arg
invariant-loop-arg l =
    let es = entries_view l.entries in
    let left = args_view (drop l.arg-index l.args) in
    record {
      cast : attrs_view l.made ++ attrs es left ≡ attrs es (args_view l.args);
      refused : faults_view l.wrong.items ++ faults es left ≡ faults es (args_view l.args);
    }
