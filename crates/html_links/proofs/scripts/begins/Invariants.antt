use Rattle.std.{proofs.Common.{◌≡◌, IsUtf8, chars, filter}, specs.Str.Iter.{chars_rest}}
use Rattle.html_links.specs.{Indicated.{is_kept}, Scripts.{begins}}
use denote.Shadow.{shadow}
use denote.Text.{Utf8}
use Rattle.html_links.proofs.scripts.begins.Given as goal

abbrev pub invariant-loop-expected : goal.invariant-loop-expected
invariant-loop-expected l = record {
  is_text : shadow (Utf8 l.left);
  utf8 : IsUtf8 (chars_rest l.expected-iterator);
  same : begins (chars (chars_rest l.expected-iterator)) (filter is_kept (chars l.left))
      ≡ begins (chars l.small) (filter is_kept (chars l.url));
}
