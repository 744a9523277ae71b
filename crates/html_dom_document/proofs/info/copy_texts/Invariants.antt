use Rattle.std.proofs.Common.{◌≡◌, take}
use Rattle.html_names_core.specs.Texts.{texts_view}
use Rattle.html_dom_document.proofs.info.copy_texts.Given as goal

abbrev pub invariant-loop-text : goal.invariant-loop-text
invariant-loop-text l = texts_view l.copies.items ≡ texts_view (take l.text-index l.text-items)
