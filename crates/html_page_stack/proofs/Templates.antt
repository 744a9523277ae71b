-- The modes of the open templates, of which the last is the innermost.
use Rattle.std.proofs.{Common.{◌≡◌, List, [], ◌∷◌, ◌++◌, drop, reverse, ap}, lemmas.List.{reverse-append}}
use Rattle.html_page_stack.specs.declared.modes.TemplateMode.{TemplateMode}

pub outer_modes : (ms : List TemplateMode) (m : TemplateMode) → drop 1 (reverse (ms ++ m ∷ [])) ≡ reverse ms
outer_modes ms m = ap (drop 1) (reverse-append ms (m ∷ []))
