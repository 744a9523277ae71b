use Rattle.std.proofs.Common.{◌≡◌, [], ap, drop, sym, ◌∙◌}
use Rattle.std.proofs.Math.ListN.{drop_of_length-le}
use Rattle.std.specs.List.{fold}
use Rattle.html_dom_tree.specs.Views.{nodes_view}
use Rattle.html_page_nesting.specs.ScriptTexts.{is_in_script, joined_text, kept_behind, kept_of}
use Rattle.html_page_nesting.proofs.ScriptTexts.{kept_end}
use Rattle.html_page_nesting.proofs.script.hide_end.Goals as goal

pub returns : goal.returns
returns c =
    let read = c.loop-node.read in
    let nodes = c.args.nodes.now in
    let none : drop c.loop-node.node-index nodes ≡ [] =
    drop_of_length-le nodes c.loop-node-test.false in
    let all = ap (λ l. fold kept_behind (kept_of read) (joined_text (nodes_view l))) (sym none)
    ∙ c.loop-node.invariant in
    c.hides_end.ensures ∙ (ap (λ k. is_in_script k.0) all ∙ kept_end (joined_text (nodes_view nodes)))
