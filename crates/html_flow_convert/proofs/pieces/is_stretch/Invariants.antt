use Rattle.std.{proofs.Common.{◌≡◌, IsUtf8, false, chars}, specs.Str.Iter.{chars_rest}}
use Rattle.html_flow_convert.specs.TextStretches.{is_stretch}
use Rattle.html_flow_convert.proofs.pieces.is_stretch.Given as goal

abbrev pub invariant-loop-c : goal.invariant-loop-c
invariant-loop-c l = record {
  utf8 : IsUtf8 (chars_rest l.left);
  agrees : is_stretch l.ends_normal (chars (chars_rest l.left)) ≡ is_stretch false (chars l.fn.text);
}
