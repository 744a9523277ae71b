use Rattle.std.{proofs.Common.{◌≡◌, chars}, specs.Str.{IsUtf8}, specs.Str.Iter.{chars_rest}}
use Rattle.html_links.specs.Indicated.{behind_hash}
use Rattle.html_links.proofs.indicated.behind_hash.Given as goal

abbrev pub invariant-loop-c : goal.invariant-loop-c
invariant-loop-c l = record {
  utf8 : IsUtf8 (chars_rest l.left);
  agrees : behind_hash (chars (chars_rest l.left)) ≡ behind_hash (chars l.fn.href);
}
