use Rattle.std.proofs.Common.{◌≡◌, ℕ, false, ap, sym, ◌∙◌, refl}
use Rattle.html_dom_document.specs.{Documents.{DocumentView}, Introspectors.{IntrospectorView, location_text}, Views.{document_view}}
use Rattle.typst_html_export.proofs.Untargeted.{nothing_in, no_text_in, without_targets}
use Rattle.typst_html_export.proofs.document.with_anchors.Goals as goal

pub returns-then-is_empty-clause-made : goal.returns-then-is_empty-clause-made
returns-then-is_empty-clause-made c =
    let d : DocumentView = document_view c.args.document in
    let targets = c.in_ok-targets.targets in
    let none_in : (l : ℕ) → d.introspector.is_link_target l ≡ false = λ l.
    sym (ap (λ (f : ℕ → _). f l) (c.in_ok-targets.ensures
    ∙ ap (λ (i : IntrospectorView). i.is_link_target) c.introspector.ensures))
    ∙ nothing_in targets (c.if-is_empty.ensures.0 refl) l in
    let anchors = no_text_in c.new.result c.new.ensures.empty in
    ap (λ (i : IntrospectorView). record d { introspector = i }) (c.set_anchors.ensures
    ∙ (ap (λ (i : IntrospectorView). record i { anchor = location_text c.new.result })
    c.introspector_mut.ensures.value
    ∙ ap (λ a. record d.introspector { anchor = a }) anchors))
    ∙ without_targets d c.args.document.output.root_is_element none_in
