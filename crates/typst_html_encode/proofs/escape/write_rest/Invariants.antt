use Rattle.std.proofs.Common.{◌≡◌, ◌++◌, chars, length}
use denote.Text.{Utf8}
use denote.Shadow.{shadow}
use Rattle.typst_html_encode.specs.{ExportFaults.{text_faults}, Text.{escaped_text}}
use Rattle.typst_html_encode.proofs.escape.write_rest.Given as goal

abbrev pub invariant-loop-c : goal.invariant-loop-c
invariant-loop-c l =
    let left = chars l.rest in
    let all = chars l.fn.text in
    record {
      is_text : shadow (Utf8 l.rest);
      agrees : l.out ++ escaped_text l.escaping left ≡ l.fn.out ++ escaped_text l.escaping all;
      clean : text_faults l.escaping l.span.0 left ≡ text_faults l.escaping l.span.0 all;
    }

abbrev pub decreases-loop-c : goal.decreases-loop-c
decreases-loop-c l = length l.rest
