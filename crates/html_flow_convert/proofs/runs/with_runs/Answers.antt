use Rattle.std.proofs.Common.{◌≡◌, ◌++◌, [], ◌∷◌, true, false, map, reverse, refl, sym, ap, ◌∙◌}
use Rattle.std.proofs.lemmas.List.{map-append, nil_from_length, reverse-reverse}
use Rattle.html_dom_tree.{proofs.Reversed.{next_reversed}, specs.Views.{node_view}}
use Rattle.html_flow_convert.proofs.Blanks.{goes_on_node, begins_on, run_goes_on, run_ends, runs_end, runs_stay}
use Rattle.html_flow_convert.specs.{OpenRuns.{goes_on, has_kept_run}, Runs.{run_nodes}}
use Rattle.html_flow_convert.proofs.runs.with_runs.Goals as goal

pub returns-then-not-has_kept_run : goal.returns-then-not-has_kept_run
returns-then-not-has_kept_run c =
    runs_stay (map node_view c.args.nodes.items)
    (rw c.deref.ensures.value at (sym c.has_kept_run.ensures ∙ c.if-not-has_kept_run.true))

pub loop-node-init : goal.loop-node-init
loop-node-init c =
    let all = c.args.nodes.items in
    let again = ap reverse c.reverse.ensures.items ∙ reverse-reverse all in
    record {
      made = rw (c.new-made.ensures.items, c.new-run.ensures.items, again) refl;
      begins = rw c.new-run.ensures.items refl;
    }

pub loop-node-preserved-in-Continue-1 : goal.loop-node-preserved-in-Continue-1
loop-node-preserved-in-Continue-1 c =
    let held = c.loop-node.invariant in
    let n = node_view c.in-Some.node in
    let run = map node_view c.loop-node.run.items in
    let nodes = c.give_back.new.nodes.items in
    let next = next_reversed c.loop-node.nodes.items nodes c.in-Some.node
    (rw c.give_back.ensures c.in-Some.ensures.items) in
    let on : goes_on run n ≡ true =
    rw c.deref-in-Some.ensures.value at (sym c.goes_on.ensures ∙ c.if-goes_on.true) in
    let grown : map node_view c.push.new.self.items ≡ run ++ n ∷ [] =
    rw (c.in_ok-push.ensures.items, map-append) refl in
    record {
      made = rw grown (sym (run_goes_on _ run (map node_view (reverse nodes)) n (goes_on_node run n on))
          ∙ rw next at held.made);
      begins = rw grown (begins_on run n held.begins on);
    }

pub loop-node-preserved : goal.loop-node-preserved
loop-node-preserved c =
    let held = c.loop-node.invariant in
    let n = node_view c.in-Some.node in
    let done = map node_view c.loop-node.made.items in
    let run = map node_view c.loop-node.run.items in
    let nodes = c.give_back.new.nodes.items in
    let next = next_reversed c.loop-node.nodes.items nodes c.in-Some.node
    (rw c.give_back.ensures c.in-Some.ensures.items) in
    let off : goes_on run n ≡ false =
    rw c.deref-in-Some.ensures.value at (sym c.goes_on.ensures ∙ c.if-goes_on.false) in
    let pushed : map node_view c.push-else-goes_on.new.self.items ≡ (done ++ run_nodes run) ++ n ∷ [] =
    rw (c.in_ok-push-2.ensures.items, map-append, c.in_ok-end_run.ensures.made) refl in
    let none : map node_view c.end_run.new.run.items ≡ [] = rw c.in_ok-end_run.ensures.ended refl in
    record {
      made = rw (pushed, none) (sym (run_ends done run (map node_view (reverse nodes)) n held.begins off)
          ∙ rw next at held.made);
      begins = rw none refl;
    }

pub returns : goal.returns
returns c =
    let held = c.loop-node.invariant in
    let run = map node_view c.loop-node.run.items in
    let empty = nil_from_length c.loop-node.nodes.items
    (sym c.loop-node.nodes.ok.0 ∙ c.in_default.ensures.cases.0) in
    c.in_ok-end_run-2.ensures.made ∙ (sym (runs_end _ run held.begins) ∙ rw empty at held.made)
