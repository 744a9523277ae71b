use Rattle.std.proofs.Common.{◌≡◌, chars, filter, is_some, length}
use Rattle.html_links.specs.Indicated.{is_kept}
use Rattle.html_clean_values.specs.Urls.{scheme_rest}
use denote.Shadow.{shadow}
use denote.Text.{Utf8}
use Rattle.html_clean_values.proofs.schemes.has_scheme_rest.Given as goal

abbrev pub invariant-loop-c : goal.invariant-loop-c
invariant-loop-c l = record {
  is_text : shadow (Utf8 l.left);
  same : is_some (scheme_rest (filter is_kept (chars l.left)))
      ≡ is_some (scheme_rest (filter is_kept (chars l.url)));
}

abbrev pub decreases-loop-c : goal.decreases-loop-c
decreases-loop-c l = length (chars l.left)
