-- The contract of a call that returns a text: the result is this text, unless the call fails.
use Rattle.std.specs.{Prelude.{ℕ, List, IfOk, ◌≡◌, Result, String}, declared.alloc.Global.{Global}}
use Rattle.html_names_core.specs.Texts.{text_view}

abbrev pub IsText : {E : Type 0} → Result (String Global) E → List ℕ → Type 0
IsText result content = IfOk result (λ text. text_view text ≡ content)
