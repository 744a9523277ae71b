use Rattle.html_values_css.proofs.Giving as shown
use Rattle.html_values_css.proofs.laws.hands_begin.Goals as goal

pub returns : goal.returns
returns g c = shown.hands_begin g.S.WarningSink.warnings g.S.WarningSink.borrow
    g.S.WarningSink.emit_gives
