use Rattle.std.proofs.{Common.{ℕ, List, ◌∷◌, ◌++◌, ap, append_assoc}, lemmas.List.{map-append}}
use Rattle.html_names_core.specs.Texts.{text_view}
use Rattle.html_page_findings.specs.{Findings.{repeated_view}, PlacedTexts.{Placed}}
use Rattle.html_page_findings.proofs.repeated.VecRepeatedIdTextSink.take.Goals as goal

pub returns : goal.returns
returns c rest =
    let here : List ℕ → Placed = λ path. (path, text_view c.args.text) in
    rw (c.in_ok-push.ensures.items, map-append, append_assoc)
    (ap (λ path. repeated_view c.args.self.now.items ++ here path ∷ rest)
    (c.in_ok-path.ensures.items_if_clones_equal (λ x y is. is)))
