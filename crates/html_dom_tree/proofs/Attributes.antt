-- The first pair of a name: where it stands, what it holds, and what a write to it and setting it
-- change.
use Rattle.std.proofs.Common.{◌≡◌, ℕ, ◌+◌, ◌<◌, ◌≤◌, Bool, true, false, List, [], ◌∷◌, ◌++◌, length, map, get_or, set, bytes_eq, Option, Some, None, String, Global, refl, ap, sym, arith, add-one}
use Rattle.std.specs.Prelude.{if◌then◌else◌, is_some}
use Rattle.html_names_core.specs.declared.html_attr.HtmlAttr.{HtmlAttr}
use Rattle.html_dom_tree.specs.{Attributes.{first, place, with_set, with_value}, Tree.{TextPair}, Views.{text_view, pair_view}}

abbrev pub Item : Type 0
Item = HtmlAttr × String Global

module _ (name : List ℕ) where
  -- where it stands in a list with one more pair in front
  abbrev next : Bool → ℕ → ℕ
  next b n = if b then 0 else n + 1

  -- with that value in the pair at a place, seen as pairs of texts
  abbrev put_at : List Item → ℕ → String Global → List TextPair
  put_at ps n value = map pair_view (set ps n ((get_or ps n ([], value)).0, value))

  -- with that value in the first pair of the name, seen as pairs of texts
  abbrev put_first : List Item → String Global → List TextPair
  put_first ps value = with_value (map pair_view ps) name (text_view value)

  put_by : (is_name : Bool) (p : Item) (ps : List Item) (n : ℕ) (value : String Global) →
      put_at ps n value ≡ put_first ps value →
      put_at (p ∷ ps) (next is_name n) value
      ≡ (if is_name then (p.0, text_view value) ∷ map pair_view ps
      else pair_view p ∷ put_first ps value)
  put_by true p ps n value rest = refl
  put_by false p ps n value rest = rw add-one (ap (λ l. pair_view p ∷ l) rest)

  -- a write at its place
  pub put : (ps : List Item) (value : String Global) →
      put_at ps (place (map pair_view ps) name) value ≡ put_first ps value
  put [] value = refl
  put (p ∷ ps) value =
      put_by (bytes_eq p.0 name) p ps (place (map pair_view ps) name) value (put ps value)

  -- the first value of the name in a list with one more pair in front
  abbrev first_by : Bool → Item → List Item → Option (List ℕ)
  first_by is_name p ps = if is_name then Some (text_view p.1) else first (map pair_view ps) name

  at_by : (is_name : Bool) (p : Item) (ps : List Item) (n : ℕ) (other : Item) →
      (n < length ps → first (map pair_view ps) name ≡ Some (text_view (get_or ps n other).1)) →
      next is_name n < length (p ∷ ps) →
      first_by is_name p ps ≡ Some (text_view (get_or (p ∷ ps) (next is_name n) other).1)
  at_by true p ps n other rest within = refl
  at_by false p ps n other rest within = rw add-one (rest (omega arith))

  pub first_at : (ps : List Item) (other : Item) →
      let n = place (map pair_view ps) name in
      n < length ps → first (map pair_view ps) name ≡ Some (text_view (get_or ps n other).1)
  first_at [] other within = absurd (omega arith)
  first_at (p ∷ ps) other within =
      let n = place (map pair_view ps) name in
      at_by (bytes_eq p.0 name) p ps n other (first_at ps other) within

  past_by : (is_name : Bool) (p : Item) (ps : List Item) (n : ℕ) →
      (length ps ≤ n → first (map pair_view ps) name ≡ None) →
      length (p ∷ ps) ≤ next is_name n → first_by is_name p ps ≡ None
  past_by true p ps n rest past = absurd (omega arith)
  past_by false p ps n rest past = rest (omega arith)

  pub first_past : (ps : List Item) →
      length ps ≤ place (map pair_view ps) name → first (map pair_view ps) name ≡ None
  first_past [] past = refl
  first_past (p ∷ ps) past =
      past_by (bytes_eq p.0 name) p ps (place (map pair_view ps) name) (first_past ps) past

-- what is set, where the name is there and where it is not

pub set_there : (ps : List TextPair) (p : TextPair) (value : List ℕ) → first ps p.0 ≡ Some value →
    with_value ps p.0 p.1 ≡ with_set ps p
set_there ps p value e =
    ap (λ o. if is_some o then with_value ps p.0 p.1 else ps ++ p ∷ []) (sym e)
