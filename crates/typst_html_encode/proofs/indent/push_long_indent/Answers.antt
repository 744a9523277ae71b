use Rattle.std.proofs.lemmas.Result.{on_ok_weaker}
use Rattle.typst_html_encode.proofs.Indents.{indent_left}
use Rattle.typst_html_encode.proofs.indent.push_long_indent.Goals as goal

pub returns : goal.returns
returns c = on_ok_weaker c.push_spaces.result
    (indent_left c.args.out.now c.push_ascii.new.self c.short_indent.result.now
    c.push_spaces.new.out c.first_levels-levels.result c.args.level
    c.first_levels-levels.ensures.within c.in_ok-push_ascii.ensures.added c.short_indent.ensures)
    c.push_spaces.ensures
