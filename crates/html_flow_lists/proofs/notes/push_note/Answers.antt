use Rattle.std.proofs.Common.{codes, refl}
use Rattle.html_names_core.{proofs.Lists.{chars_ascii}, specs.Tables.{known_attrs, known_tags}}
use Rattle.html_flow_lists.{proofs.NoteParts.{note_seen}, specs.ListViews.{note_view}}
use Rattle.html_flow_lists.proofs.notes.push_note.Goals as goal

pub returns : goal.returns
unfolding known_tags known_attrs
returns c =
    note_seen c.args.number (note_view c.args.note) _ _ _ _ _ _ _ _ _ _ _
    c.in_ok-push_back_link.ensures c.new.ensures c.in_ok-entry.ensures.ok
    (chars_ascii (codes "doc-endnote") refl) c.with_body.ensures c.spanned.ensures
    c.from-entry.ensures c.in_ok-label.ensures c.note_location.ensures
    c.in_ok-push_located.ensures.ok
