use Rattle.std.{proofs.Common.{◌≡◌, IsUtf8, chars, filter}, specs.Str.Iter.{chars_rest}}
use Rattle.html_links.specs.Indicated.{is_kept}
use Rattle.html_clean_values.specs.SchemeTests.{scheme_rest_is}
use denote.Shadow.{shadow}
use denote.Text.{Utf8}
use Rattle.html_clean_values.proofs.schemes.is_scheme_rest.Given as goal

abbrev pub invariant-loop-expected : goal.invariant-loop-expected
invariant-loop-expected l = record {
  is_text : shadow (Utf8 l.left);
  utf8 : IsUtf8 (chars_rest l.expected-iterator);
  same : scheme_rest_is (chars (chars_rest l.expected-iterator)) (filter is_kept (chars l.left))
      ≡ scheme_rest_is (chars l.scheme) (filter is_kept (chars l.url));
}
