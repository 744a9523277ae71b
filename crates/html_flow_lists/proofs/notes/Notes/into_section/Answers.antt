use Rattle.std.proofs.{Common.{◌==◌, ◌∷◌, [], ◌++◌, ap, sym, ◌∙◌}, lemmas.List.{length-map}}
use Rattle.html_names_core.specs.Tables.{known_tags}
use Rattle.html_flow_convert.specs.Views.{pairs_view}
use Rattle.html_flow_lists.{proofs.NoteParts.{section_seen}, specs.ListViews.{note_view, notes_view}}
use Rattle.html_flow_lists.proofs.notes.Notes.into_section.Goals as goal

pub returns : goal.returns
unfolding known_tags
returns c =
    let held = c.args.self.notes in
    section_seen (notes_view c.args.self) _ _ _ _ _ _ _ _
    (ap (λ n. n == 0) (length-map held.items note_view ∙ sym held.ok.0)
    ∙ sym c.is_empty.ensures
    ∙ c.if-is_empty.false)
    c.in_ok-note_items.ensures c.new.ensures c.with_body-list.ensures c.from.ensures
    c.in_ok-section.ensures c.in_ok-with_item.ensures.ok c.from-2.ensures
    (ap pairs_view (c.in_ok-push.ensures.items
    ∙ ap (λ l. l ++ c.from-2.result ∷ []) c.new-items.ensures.items))
