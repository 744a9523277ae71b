-- The text of a value is UTF-8.
use Rattle.std.proofs.{Common.{◌≡◌, ℕ, List, None, Some, Bool, true, false, refl}, lemmas.Str.{IsUtf8-from_is_utf8, is_utf8-from_IsUtf8}}
use Rattle.std.specs.Str.{is_utf8, IsUtf8}
use Rattle.serde_json.specs.{Data.{Data}, Read.{read}}
use Rattle.typst_html_json.specs.Json.{json_of}

pub json_of-value : (bytes : List ℕ) (d : Data) → IsUtf8 bytes → read bytes ≡ Some d
    → json_of bytes ≡ Some d
json_of-value bytes d text is = rw (is_utf8-from_IsUtf8 bytes text) is

by_test : (bytes : List ℕ) (b : Bool) → is_utf8 bytes ≡ b → (IsUtf8 bytes → read bytes ≡ None)
    → json_of bytes ≡ None
by_test bytes true is no_value = rw is (no_value (IsUtf8-from_is_utf8 bytes is))
by_test bytes false is no_value = rw is refl

pub json_of-none : (bytes : List ℕ) → (IsUtf8 bytes → read bytes ≡ None) → json_of bytes ≡ None
json_of-none bytes no_value = by_test bytes _ refl no_value

pub ruleset json_of_steps = (json_of-value, json_of-none)
