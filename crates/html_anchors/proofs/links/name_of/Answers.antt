use Rattle.std.proofs.{Common.{◌≡◌, ◌<◌, length, string_bytes, Some, sym, ap, ◌∙◌, rules}, lemmas.Str.{IsUtf8-string_bytes}}
use Rattle.std.specs.Prelude.{option_map}
use Rattle.html_dom_tree.specs.Views.{text_view}
use Rattle.html_dom_document.specs.Introspectors.{introspector_view}
use Rattle.html_anchors.proofs.Linking.{a_name, name_there, no_name}
use Rattle.html_anchors.proofs.links.name_of.Goals as goal

pub returns-then-is_empty : goal.returns-then-is_empty
returns-then-is_empty c =
    let bytes = string_bytes c.in_ok-name.name.now in
    let none : length bytes ≡ 0 = search rules in
    sym (no_name bytes none)
    ∙ name_there (introspector_view c.args.known.now).anchor _ c.in_ok-dest.field-0.0
    (Some (text_view c.in_ok-name.name.now)) (ap (option_map (λ l. l.0)) c.in_ok-dest.was)
    c.in_ok-name.ensures

pub returns-else-is_empty : goal.returns-else-is_empty
returns-else-is_empty c =
    let bytes = string_bytes c.in_ok-name.name.now in
    let some : 0 < length bytes = search rules in
    sym (a_name bytes (IsUtf8-string_bytes c.in_ok-name.name.now) some)
    ∙ name_there (introspector_view c.args.known.now).anchor _ c.in_ok-dest.field-0.0
    (Some (text_view c.in_ok-name.name.now)) (ap (option_map (λ l. l.0)) c.in_ok-dest.was)
    c.in_ok-name.ensures
