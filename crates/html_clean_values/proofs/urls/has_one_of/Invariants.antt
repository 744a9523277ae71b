use Rattle.std.proofs.Common.{◌≡◌, chars, drop, filter}
use Rattle.html_names_core.specs.Texts.{texts_view}
use Rattle.html_links.specs.Indicated.{is_kept}
use Rattle.html_clean_values.specs.SchemeTests.{one_is_scheme}
use Rattle.html_clean_values.proofs.urls.has_one_of.Given as goal

abbrev pub invariant-loop-scheme : goal.invariant-loop-scheme
invariant-loop-scheme l =
    one_is_scheme (texts_view (drop l.scheme-index l.schemes)) (filter is_kept (chars l.url))
    ≡ one_is_scheme (texts_view l.schemes) (filter is_kept (chars l.url))
