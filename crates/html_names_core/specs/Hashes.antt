-- The input to a hash of pairs of texts: their number, then the name and the value of each pair.
use Rattle.std.specs.Prelude.{List, ◌++◌}
use Rattle.std.specs.Hash as fed
use lib.Utf8.{encodes}
use Rattle.html_names_core.specs.Texts.{TextPair}

abbrev pub pair_writes : TextPair → fed.HashWrites
pair_writes p = fed.str (encodes p.0) ++ fed.str (encodes p.1)

abbrev pub pairs_writes : List TextPair → fed.HashWrites
pairs_writes = fed.slice pair_writes
