use Rattle.std.proofs.{Common.{ℕ, List, ◌∷◌, ◌++◌, ap, append_assoc}, lemmas.List.{map-append}}
use Rattle.html_page_nesting.specs.{Misnested.{Finding}, MisnestedViews.{findings_view}}
use Rattle.html_page_nesting.proofs.finding.VecMisnestedMisnestedSink.take.Goals as goal

pub returns : goal.returns
returns c rest =
    let here : List ℕ → Finding =
    λ path. record { path = path; span = c.args.span.0; why = c.args.why } in
    rw (c.in_ok-push.ensures.items, map-append, append_assoc)
    (ap (λ path. findings_view c.args.self.now.items ++ here path ∷ rest)
    (c.in_ok-path.ensures.items_if_clones_equal (λ x y is. is)))
