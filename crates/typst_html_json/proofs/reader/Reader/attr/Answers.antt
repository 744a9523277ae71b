use Rattle.std.proofs.Common.{chars}
use Rattle.html_names_core.specs.Names.{attr_fault}
use Rattle.typst_html_json.proofs.Readings.{name_refused}
use Rattle.typst_html_json.proofs.reader.Reader.attr.Goals as goal

pub returns-in_ok-note-in-Err : goal.returns-in_ok-note-in-Err
returns-in_ok-note-in-Err c =
    name_refused attr_fault (chars c.args.text.now) _ c.in-Err.fault c.args.span c.args.self.now
    c.note.new.self c.in-Err.ensures.name.fault c.in_ok-note-in-Err.ensures
