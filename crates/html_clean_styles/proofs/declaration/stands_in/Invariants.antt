use Rattle.std.proofs.Common.{◌≡◌, drop}
use Rattle.html_names_core.specs.{Names.{stands_in}, Texts.{text_view, texts_view}}
use Rattle.html_clean_styles.proofs.declaration.stands_in.Given as goal

abbrev pub invariant-loop-property : goal.invariant-loop-property
invariant-loop-property l =
    stands_in (texts_view (drop l.property-index l.properties)) (text_view l.name)
    ≡ stands_in (texts_view l.properties) (text_view l.name)
