use Rattle.std.proofs.Common.{◌≡◌}
use Rattle.std.specs.List.{fold}
use Rattle.html_page_nesting.specs.ScriptTexts.{kept_behind, kept_of}
use Rattle.html_page_nesting.proofs.script.ScriptText.behind_text.Given as goal

abbrev pub invariant-loop-c : goal.invariant-loop-c
invariant-loop-c l =
    kept_of l.read ≡ fold kept_behind (kept_of l.fn.self) l.yielded
