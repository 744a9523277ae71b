-- The JSON value of bytes, as `serde_json` reads it, if the bytes are UTF-8.
use Rattle.std.specs.{Prelude.{ℕ, List, Option, None, if◌then◌else◌}, Str.{is_utf8}}
use Rattle.serde_json.specs.{Data.{Data}, Read.{read}}

abbrev pub json_of : List ℕ → Option Data
json_of bytes = if is_utf8 bytes then read bytes else None
