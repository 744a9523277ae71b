-- Elements in the list of a tree.
use Rattle.std.proofs.{Common.{◌≡◌, ℕ, ◌<◌, true, List, length, get_or, drop, take}, lemmas.Bool.{ltb-true}}
use Rattle.std.proofs.lemmas.List.{Elements.{All-drop, All-take}, Sums.{AllPass-from_list_all, list_all-from_AllPass}}
use Rattle.std.specs.List.{list_all, AllPass}
use Rattle.html_names_table.specs.NameTables.{NamesView}
use Rattle.html_dom_flat.specs.{FlatViews.{FlatPair, is_pair_given, is_node_given, are_given}, declared.flat_node.FlatNode.{FlatNode}}

module _ (names : NamesView) (nodes : List FlatNode) (i : ℕ)
    (given : are_given names nodes ≡ true) where
  all_given : AllPass (is_node_given names) nodes
  all_given = AllPass-from_list_all (is_node_given names) nodes given

  pub given_drop : are_given names (drop i nodes) ≡ true
  given_drop =
      list_all-from_AllPass (is_node_given names) (drop i nodes)
      (All-drop (λ n. is_node_given names n ≡ true) i nodes all_given)

  pub given_take : are_given names (take i nodes) ≡ true
  given_take =
      list_all-from_AllPass (is_node_given names) (take i nodes)
      (All-take (λ n. is_node_given names n ≡ true) i nodes all_given)

pub given_pair : (names : NamesView) (pairs : List FlatPair) (i : ℕ) (d : FlatPair) →
    list_all (is_pair_given names) pairs ≡ true → i < length pairs →
    (get_or pairs i d).0 < length names.attrs
given_pair names pairs i d given below =
    ltb-true _ _ (AllPass-from_list_all (is_pair_given names) pairs given i d below)
