-- Texts in pieces.
use Rattle.std.specs.{Prelude.{ℕ, List, [], ◌∷◌, ◌++◌, String, string_bytes}, declared.alloc.Global.{Global}}
use Rattle.typst_html_ffi.specs.declared.pieces.LongText.{LongText}

-- the bytes of all pieces, in order
abbrev pub pieces_bytes : List (String Global) → List ℕ
pieces_bytes [] = []
pieces_bytes (piece ∷ pieces) = string_bytes piece ++ pieces_bytes pieces

-- the bytes of a text that is being written
abbrev pub text_bytes : LongText → List ℕ
text_bytes text = pieces_bytes text.whole.items ++ string_bytes text.last
