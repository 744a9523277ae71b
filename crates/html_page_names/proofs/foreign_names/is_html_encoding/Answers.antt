use Rattle.std.proofs.Common.{chars, ◌∙◌}
use Rattle.html_page_names.{proofs.Lowered.{first_encoding, second_encoding}, specs.ForeignNames.{lowered}}
use Rattle.html_page_names.proofs.foreign_names.is_html_encoding.Goals as goal

pub returns-then-is_same_lowered : goal.returns-then-is_same_lowered
returns-then-is_same_lowered c = c.if-is_same_lowered.true
    ∙ first_encoding (lowered (chars c.args.value.now)) c.if-is_same_lowered.ensures

pub returns-else-is_same_lowered : goal.returns-else-is_same_lowered
returns-else-is_same_lowered c = c.is_same_lowered-else-is_same_lowered.ensures
    ∙ second_encoding (lowered (chars c.args.value.now)) c.if-is_same_lowered.ensures
