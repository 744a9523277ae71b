-- Which names of attributes a policy lets stay.
use Rattle.std.specs.{List.{list_any, starts_with}}
use Rattle.std.specs.Prelude.{ℕ, Bool, not, ◌&&◌, ◌||◌, ◌==◌, List, codes, bytes_eq}
use Rattle.html_names_core.specs.{AttrKinds.{is_event_handler}, Names.{listed_names, stands_in}}
use Rattle.html_clean_policy.specs.Policies.{PolicyView}

abbrev pub is_pair : (element name : List ℕ) → List ℕ × List ℕ → Bool
is_pair element name pair = bytes_eq pair.0 element && bytes_eq pair.1 name

-- whether the pairs contain this one
unfoldable pub has_pair : List (List ℕ × List ℕ) → (element name : List ℕ) → Bool
has_pair pairs element name = list_any (is_pair element name) pairs

unfoldable pub is_data_name : (name : List ℕ) → Bool
is_data_name name = starts_with ◌==◌ name (codes "data-")

-- whether the policy lists the attribute for that element
unfoldable pub is_listed : PolicyView → (element name : List ℕ) → Bool
is_listed p element name = stands_in p.attrs name || has_pair p.own_attrs element name
    || (p.data_attrs && is_data_name name)

unfoldable pub is_srcdoc : (name : List ℕ) → Bool
is_srcdoc name = stands_in (listed_names (codes "srcdoc")) name

-- whether no policy lets the attribute stay: a browser runs its value, or reads it as a page
unfoldable pub is_barred : (name : List ℕ) → Bool
is_barred name = is_event_handler name || is_srcdoc name

unfoldable pub may_stay : PolicyView → (element name : List ℕ) → Bool
may_stay p element name = is_listed p element name && not (is_barred name)
