-- Numbers that a table has given.
use Rattle.std.{proofs.Common.{◌≡◌, ℕ, ◌<◌, true, List, sym, length, get_or, subst}, specs.List.{list_all}}
use Rattle.html_names_table.specs.NameTables.{NamesView}
use Rattle.html_dom_flat.{proofs.Elements.{given_pair}, specs.FlatViews.{FlatPair, is_pair_given}}

-- the number of one of the attributes of an element
pub pair_given : (names : NamesView) (pairs : List FlatPair) (i : ℕ) (d pair : FlatPair) →
    list_all (is_pair_given names) pairs ≡ true → i < length pairs → pair ≡ get_or pairs i d →
    pair.0 < length names.attrs
pair_given names pairs i d pair given below is =
    subst (λ p. p.0 < length names.attrs) (sym is) (given_pair names pairs i d given below)
