-- Attributes in a row.
use Rattle.std.proofs.Common.{◌≡◌, ℕ, List, [], ◌∷◌, Option, Some, None, option_map, option_and_then, refl, ap}
use Rattle.html_names_core.specs.Names.{attr_fault}
use Rattle.html_dom_tree.specs.Tree.{TextPair}
use Rattle.typst_html_json.proofs.Rows.{Row, joined}
use Rattle.typst_html_json.specs.{Fields.{pair_at, pairs_of, row_from}, Marks.{Mark}, NameRefusals.{refusals, pairs_refusals}}
use Rattle.typst_html_json.specs.Reading.{marked}

pub pairs_step : (m : Mark) (pair : Option TextPair) (pairs : Option (List TextPair))
    → marked m (option_and_then (λ p. option_map (λ ps. p ∷ ps) pairs) pair)
    ≡ row_from (λ p ps. p ∷ ps) (marked m pair) (λ n. marked n pairs)
pairs_step m None pairs = refl
pairs_step m (Some p) None = refl
pairs_step m (Some p) (Some ps) = refl

abbrev pub pairs_row : (span : ℕ) → Row TextPair (List TextPair)
pairs_row span = record {
  add = λ p ps. p ∷ ps;
  nothing = [];
  one = λ d m. marked m (pair_at d);
  all = λ ds m. marked m (pairs_of ds);
  ones = λ p. refusals span (attr_fault p.0);
  alls = pairs_refusals span;
  ends = λ m. refl;
  steps = λ d ds m. pairs_step m (pair_at d) (pairs_of ds);
  clean = refl;
  adds = λ p ps. refl;
}

pub joined-pairs : (ps : List TextPair) → joined (λ p qs. p ∷ qs) ps [] ≡ ps
joined-pairs [] = refl
joined-pairs (p ∷ ps) = ap (λ qs. p ∷ qs) (joined-pairs ps)
