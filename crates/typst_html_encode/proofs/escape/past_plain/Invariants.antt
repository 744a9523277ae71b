use Rattle.std.proofs.Common.{◌≡◌}
use denote.Text.{Utf8}
use denote.Shadow.{shadow}
use Rattle.std.specs.Str.Iter.{chars_rest}
use Rattle.typst_html_encode.specs.PlainStretches.{PassesPlain}
use Rattle.typst_html_encode.proofs.escape.past_plain.Given as goal

abbrev pub invariant-loop-c : goal.invariant-loop-c
invariant-loop-c l =
    record {
      is_text : shadow (Utf8 l.rest);
      at : chars_rest l.left ≡ l.rest;
      passed : PassesPlain l.escaping l.text l.rest;
    }
