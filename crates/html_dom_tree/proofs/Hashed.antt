-- A list of attributes is hashed by the bytes of its texts, which are those of its view.
use Rattle.std.proofs.Common.{◌≡◌, List, ◌++◌, map, string_bytes, sym, ap}
use Rattle.std.specs.Hash as fed
use Rattle.std.proofs.lemmas.Str.{IsUtf8-string_bytes, encodes-chars}
use lib.Utf8.{encodes}
use Rattle.html_names_core.proofs.Equals as equals
use Rattle.html_dom_tree.{proofs.Attributes.{Item}, specs.Hashes.{pair_writes, pairs_writes}, specs.Views.{pair_view}}

abbrev item_fed : Item → fed.HashWrites
item_fed p = fed.str (encodes p.0) ++ fed.str (string_bytes p.1)

one_fed : (p : Item) → item_fed p ≡ pair_writes (pair_view p)
one_fed p =
    let bytes = string_bytes p.1 in
    ap (λ s. fed.str (encodes p.0) ++ fed.str s)
    (sym (encodes-chars bytes (IsUtf8-string_bytes p.1)))

pub hashed : (ps : List Item) → fed.slice item_fed ps ≡ pairs_writes (map pair_view ps)
hashed ps = equals.hashed pair_view item_fed one_fed ps
