use Rattle.std.proofs.Common.{◌≡◌, chars, length}
use Rattle.std.specs.List.{list_all}
use Rattle.html_names_core.specs.Texts.{texts_view}
use Rattle.html_clean_values.specs.{Urls.{url_is_allowed}, Words.{words}}
use denote.Shadow.{shadow}
use denote.Text.{Utf8}
use Rattle.html_clean_values.proofs.urls.urls_are_allowed.Given as goal

abbrev pub invariant-loop-url : goal.invariant-loop-url
invariant-loop-url l =
    let is_allowed = url_is_allowed (texts_view l.schemes) l.relative in
    record {
      is_text : shadow (Utf8 l.left);
      same : list_all is_allowed (words (chars l.left))
          ≡ list_all is_allowed (words (chars l.text));
    }

abbrev pub decreases-loop-url : goal.decreases-loop-url
decreases-loop-url l = length (chars l.left)
