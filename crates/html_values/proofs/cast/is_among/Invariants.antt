use Rattle.std.proofs.Common.{◌≡◌, drop, chars}
use Rattle.html_names_core.specs.{Names.{stands_in}, Texts.{texts_view}}
use Rattle.html_values.proofs.cast.is_among.Given as goal

abbrev pub invariant-loop-allowed : goal.invariant-loop-allowed
invariant-loop-allowed l =
    stands_in (texts_view (drop l.allowed-index l.texts)) (chars l.text)
    ≡ stands_in (texts_view l.texts) (chars l.text)
