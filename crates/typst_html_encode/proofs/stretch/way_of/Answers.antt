use Rattle.std.proofs.Common.{sym, subst}
use Rattle.typst_html_encode.proofs.PassedBytes.{selects_text, selects_reference, selects_value, selects_raw}
use Rattle.typst_html_encode.specs.PlainStretches.{Selects}
use Rattle.typst_html_encode.proofs.stretch.way_of.Goals as goal

pub returns-in-Text : goal.returns-in-Text
returns-in-Text c = subst (λ e. Selects e 1) (sym c.in-Text.is) selects_text

pub returns-in-Reference : goal.returns-in-Reference
returns-in-Reference c = subst (λ e. Selects e 0) (sym c.in-Reference.is) selects_reference

pub returns-in-Value : goal.returns-in-Value
returns-in-Value c = subst (λ e. Selects e 2) (sym c.in-Value.is) selects_value

pub returns-in-Raw : goal.returns-in-Raw
returns-in-Raw c = subst (λ e. Selects e 4) (sym c.in-Raw.is) selects_raw
