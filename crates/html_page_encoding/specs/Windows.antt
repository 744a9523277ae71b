-- The characters of windows-1252 (Encoding Standard, "index windows-1252").
use Rattle.std.specs.Prelude.{ℕ, ◌-◌, ◌&&◌, ◌==◌, nat_le, nat_lt, List, [], ◌∷◌, if◌then◌else◌, slice_index_or}

-- those of the bytes 0x80 to 0x9f, and U+0000 for a byte whose character has its own number
abbrev pub windows_table : List ℕ
windows_table =
    0x20ac ∷ 0 ∷ 0x201a ∷ 0x192 ∷ 0x201e ∷ 0x2026 ∷ 0x2020 ∷ 0x2021
    ∷ 0x2c6 ∷ 0x2030 ∷ 0x160 ∷ 0x2039 ∷ 0x152 ∷ 0 ∷ 0x17d ∷ 0
    ∷ 0 ∷ 0x2018 ∷ 0x2019 ∷ 0x201c ∷ 0x201d ∷ 0x2022 ∷ 0x2013 ∷ 0x2014
    ∷ 0x2dc ∷ 0x2122 ∷ 0x161 ∷ 0x203a ∷ 0x153 ∷ 0 ∷ 0x17e ∷ 0x178 ∷ []

abbrev pub or_itself : (c found : ℕ) → ℕ
or_itself c found = if found == 0 then c else found

abbrev pub windows_char : ℕ → ℕ
windows_char c = if nat_le 128 c && nat_lt c 160
    then or_itself c (slice_index_or windows_table (c - 128) 0) else c
