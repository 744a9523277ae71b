use Rattle.std.proofs.Common.{◌≡◌, true, chars, drop}
use Rattle.html_names_core.specs.Names.{are_ascii, texts}
use Rattle.html_page_read.specs.DocumentTypes.{begins_with_one}
use Rattle.html_page_read.proofs.doctype.begins_with_one.Given as goal

abbrev pub invariant-loop-front : goal.invariant-loop-front
invariant-loop-front l = record {
  ascii : are_ascii (texts (drop l.front-index l.fronts)) ≡ true;
  same : begins_with_one (texts (drop l.front-index l.fronts)) (chars l.text)
      ≡ begins_with_one (texts l.fn.fronts) (chars l.fn.text);
}
