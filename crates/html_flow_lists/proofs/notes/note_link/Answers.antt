use Rattle.html_names_core.specs.{Tables.{known_tags}, Texts.{text_view}}
use Rattle.html_flow_lists.proofs.NoteParts.{link_seen}
use Rattle.html_flow_lists.proofs.notes.note_link.Goals as goal

pub returns : goal.returns
unfolding known_tags
returns c =
    link_seen c.args.class.now c.args.role.now (text_view c.args.text) c.args.span.0 _ _ _ _ _
    c.in_ok-link.ensures c.text_pair.ensures
    c.in_ok-link-2.ensures.ok c.spanned.ensures c.from.ensures
