use Rattle.std.proofs.Common.{◌++◌, ap, chars, codes, ◌∙◌, None, Some}
use Rattle.html_flow_convert.specs.{Items.{located_item}, Views.{pairs_view}}
use Rattle.html_flow_lists.{proofs.Lines.{arrow_chars}, specs.Notes.{mark_location, note_link}}
use Rattle.html_flow_lists.proofs.notes.push_link_to_mark.Goals as goal

pub returns : goal.returns
returns c =
    rw (c.in_ok-push_located.ensures.ok, c.in_ok-link.ensures, c.mark_location.ensures)
    (ap (λ t. pairs_view c.args.items.now.items
    ++ located_item 0 None (Some (mark_location c.args.number))
    (note_link (codes "footnote-back") (codes "doc-backlink") t c.args.span.0))
    (ap chars c.in_ok-arrow.ensures.ok ∙ arrow_chars))
