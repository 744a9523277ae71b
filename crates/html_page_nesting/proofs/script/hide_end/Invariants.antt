use Rattle.std.proofs.Common.{◌≡◌, drop}
use Rattle.std.specs.List.{fold}
use Rattle.html_dom_tree.specs.Views.{nodes_view}
use Rattle.html_page_nesting.specs.ScriptTexts.{first_kept, joined_text, kept_behind, kept_of}
use Rattle.html_page_nesting.proofs.script.hide_end.Given as goal

abbrev pub invariant-loop-node : goal.invariant-loop-node
invariant-loop-node l =
    fold kept_behind (kept_of l.read) (joined_text (nodes_view (drop l.node-index l.nodes)))
    ≡ fold kept_behind first_kept (joined_text (nodes_view l.nodes))
