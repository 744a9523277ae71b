use Rattle.std.proofs.Common.{rules, chars, sym, ap, ◌∙◌}
use Rattle.std.specs.List.{list_all}
use Rattle.html_names_core.specs.Texts.{texts_view}
use Rattle.html_clean_values.proofs.SrcsetSteps.{first_allowed, first_refused}
use Rattle.html_clean_values.specs.{Urls.{srcset_is_allowed, url_is_allowed}}
use Rattle.html_clean_values.proofs.srcset.srcset_is_allowed.Goals as goal

pub returns-then-not-url_is_allowed : goal.returns-then-not-url_is_allowed
unfolding srcset_is_allowed
returns-then-not-url_is_allowed c =
    sym (first_refused (texts_view c.args.schemes.now) c.args.relative (chars c.loop-url.left.now)
    (chars c.in-Some.url.now) (chars c.in-Some.rest.now) c.in-Some.ensures
    (sym c.url_is_allowed.ensures ∙ c.if-not-url_is_allowed.true)) ∙ c.loop-url.invariant.same

pub loop-url-preserved : goal.loop-url-preserved
loop-url-preserved c =
    record {
      is_text = search rules;
      same = first_allowed (texts_view c.args.schemes.now) c.args.relative
          (chars c.loop-url.left.now) (chars c.in-Some.url.now) (chars c.in-Some.rest.now) _
          c.in-Some.ensures (sym c.url_is_allowed.ensures ∙ c.if-not-url_is_allowed.false)
          c.past_candidate-left.ensures.urls ∙ c.loop-url.invariant.same;
    }

pub returns : goal.returns
unfolding srcset_is_allowed
returns c =
    sym (ap (list_all (url_is_allowed (texts_view c.args.schemes.now) c.args.relative))
    c.in_default.ensures) ∙ c.loop-url.invariant.same
