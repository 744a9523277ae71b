use Rattle.std.proofs.Common.{sym, ◌∙◌}
use Rattle.html_flow_convert.specs.Views.{pairs_view}
use Rattle.html_flow_lists.proofs.NoteKeys.{changed_note, content_seen}
use Rattle.html_flow_lists.proofs.notes.replaced_content.Goals as goal

pub returns-clause-notes : goal.returns-clause-notes
returns-clause-notes c =
    changed_note c.args.notes.now c.args.place c.index-notes-place.result c.replace_content.new.self
    (pairs_view c.args.content.items) c.requires c.replace_content.ensures.note

pub returns-clause-former : goal.returns-clause-former
returns-clause-former c =
    c.replace_content.ensures.former
    ∙ sym (content_seen c.args.notes.now c.args.place c.index-notes-place.result c.requires)
