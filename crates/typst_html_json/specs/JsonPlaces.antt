-- Where a text that is not JSON is wrong (RFC 8259): at the first byte with which no JSON text
-- begins as this one does, or at the end, if more could follow. Arrays and objects are nested at
-- most 127 levels deep, as `serde_json` reads them, and surrogates stand in pairs alone.
use Rattle.std.specs.Bool.{then_some}
use Rattle.std.specs.Prelude.{ℕ, suc, ◌+◌, ◌-◌, ◌==◌, ◌&&◌, ◌||◌, Bool, true, false, List, [], ◌∷◌, ◌++◌, length, take, nat_le, nat_lt, slice_get, Option, Some, None, option_map, if◌then◌else◌}
use Rattle.std.specs.Str.Lossy.{utf8_valid_len}
use Rattle.typst_html_json.specs.declared.fault.{InputPlace.{InputPlace}, InputPlace.TheVariants.{Text}}
use Rattle.typst_html_json.specs.declared.json_stage.{Bracket.{Bracket}, Move.{Move}, NumberPart.{NumberPart}}
use Rattle.typst_html_json.specs.declared.json_stage.{Bracket.TheVariants.{Array, Object}, Move.TheVariants.{GoOn, Open, Close}}
use Rattle.typst_html_json.specs.declared.json_stage.NumberPart.TheVariants as part
use Rattle.typst_html_json.specs.declared.json_stage.Stage.{Stage}
use Rattle.typst_html_json.specs.declared.json_stage.Stage.TheVariants as stage
use Rattle.typst_html_json.specs.declared.json_stage.TextPart.{TextPart}
use Rattle.typst_html_json.specs.declared.json_stage.TextPart.TheVariants as within
use Rattle.typst_html_json.specs.declared.json_stage.WordPart.{WordPart}
use Rattle.typst_html_json.specs.declared.json_stage.WordPart.TheVariants as word

-- white space (section 2)
abbrev pub is_space : (b : ℕ) → Bool
is_space b = b == 32 || b == 9 || b == 10 || b == 13

abbrev pub is_within : (first last b : ℕ) → Bool
is_within first last b = nat_le first b && nat_le b last

abbrev pub is_digit : (b : ℕ) → Bool
is_digit = is_within 48 57

abbrev pub is_exponent : (b : ℕ) → Bool
is_exponent b = b == 69 || b == 101

abbrev pub is_hex : (b : ℕ) → Bool
is_hex b = is_digit b || is_within 65 70 b || is_within 97 102 b

-- the first digit of a surrogate, and the second one of a high and of a low one
abbrev pub is_d : (b : ℕ) → Bool
is_d b = b == 68 || b == 100

abbrev pub is_high : (b : ℕ) → Bool
is_high b = is_within 56 57 b || is_within 65 66 b || is_within 97 98 b

abbrev pub is_low : (b : ℕ) → Bool
is_low b = is_within 67 70 b || is_within 99 102 b

-- strings (section 7)

-- the characters that a backslash escapes alone: " \ / b f n r t
abbrev pub is_escaped : (b : ℕ) → Bool
is_escaped b = b == 34 || b == 92 || b == 47 || b == 98 || b == 102 || b == 110 || b == 114 || b == 116

-- behind a string: a colon if it is a key
abbrev pub behind_text : (is_key : Bool) → Stage
behind_text is_key = if is_key then stage.Colon else stage.Behind

abbrev pub text_move : (is_key : Bool) → TextPart → (b : ℕ) → Option Stage
text_move is_key within.Plain b = if b == 34 then Some (behind_text is_key)
    else (if b == 92 then Some (stage.Text is_key within.Escape)
    else then_some (nat_le 32 b) (stage.Text is_key within.Plain))
text_move is_key within.Escape b = if b == 117 then Some (stage.Text is_key within.Unit)
    else then_some (is_escaped b) (stage.Text is_key within.Plain)
text_move is_key within.Unit b = if is_d b then Some (stage.Text is_key within.UnitD)
    else then_some (is_hex b) (stage.Text is_key within.ThreeLeft)
text_move is_key within.UnitD b = if is_within 48 55 b then Some (stage.Text is_key within.TwoLeft)
    else then_some (is_high b) (stage.Text is_key within.HighTwoLeft)
text_move is_key within.ThreeLeft b = then_some (is_hex b) (stage.Text is_key within.TwoLeft)
text_move is_key within.TwoLeft b = then_some (is_hex b) (stage.Text is_key within.OneLeft)
text_move is_key within.OneLeft b = then_some (is_hex b) (stage.Text is_key within.Plain)
text_move is_key within.HighTwoLeft b = then_some (is_hex b) (stage.Text is_key within.HighOneLeft)
text_move is_key within.HighOneLeft b = then_some (is_hex b) (stage.Text is_key within.LowEscape)
text_move is_key within.LowEscape b = then_some (b == 92) (stage.Text is_key within.LowU)
text_move is_key within.LowU b = then_some (b == 117) (stage.Text is_key within.LowUnit)
text_move is_key within.LowUnit b = then_some (is_d b) (stage.Text is_key within.LowUnitD)
text_move is_key within.LowUnitD b = then_some (is_low b) (stage.Text is_key within.TwoLeft)

-- `true`, `false` and `null` (section 3)
abbrev pub word_move : WordPart → (b : ℕ) → Option Stage
word_move word.Rue b = then_some (b == 114) (stage.Word word.Ue)
word_move word.Ue b = then_some (b == 117) (stage.Word word.E)
word_move word.E b = then_some (b == 101) stage.Behind
word_move word.Alse b = then_some (b == 97) (stage.Word word.Lse)
word_move word.Lse b = then_some (b == 108) (stage.Word word.Se)
word_move word.Se b = then_some (b == 115) (stage.Word word.E)
word_move word.Ull b = then_some (b == 117) (stage.Word word.Ll)
word_move word.Ll b = then_some (b == 108) (stage.Word word.L)
word_move word.L b = then_some (b == 108) stage.Behind

-- behind a value, where white space is passed (sections 4 and 5)
abbrev pub ended_move : (innermost : Option Bracket) → (b : ℕ) → Option Move
ended_move None b = None
ended_move (Some Array) b = if b == 44 then Some (GoOn stage.Value) else then_some (b == 93) Close
ended_move (Some Object) b = if b == 44 then Some (GoOn stage.Key) else then_some (b == 125) Close

abbrev pub behind_move : (innermost : Option Bracket) → (b : ℕ) → Option Move
behind_move innermost b =
    if is_space b then Some (GoOn stage.Behind) else ended_move innermost b

-- numbers (section 6)

-- behind the digits before a point
abbrev pub behind_whole : (innermost : Option Bracket) → (b : ℕ) → Option Move
behind_whole innermost b = if b == 46 then Some (GoOn (stage.Number part.Point))
    else (if is_exponent b then Some (GoOn (stage.Number part.Exponent)) else behind_move innermost b)

abbrev pub number_move : NumberPart → (innermost : Option Bracket) → (b : ℕ) → Option Move
number_move part.Minus innermost b = if b == 48 then Some (GoOn (stage.Number part.Zero))
    else then_some (is_digit b) (GoOn (stage.Number part.Whole))
number_move part.Zero innermost b = behind_whole innermost b
number_move part.Whole innermost b = if is_digit b then Some (GoOn (stage.Number part.Whole))
    else behind_whole innermost b
number_move part.Point innermost b = then_some (is_digit b) (GoOn (stage.Number part.Fraction))
number_move part.Fraction innermost b = if is_digit b then Some (GoOn (stage.Number part.Fraction))
    else (if is_exponent b then Some (GoOn (stage.Number part.Exponent)) else behind_move innermost b)
number_move part.Exponent innermost b = if b == 43 || b == 45
    then Some (GoOn (stage.Number part.Sign))
    else then_some (is_digit b) (GoOn (stage.Number part.Power))
number_move part.Sign innermost b = then_some (is_digit b) (GoOn (stage.Number part.Power))
number_move part.Power innermost b = if is_digit b then Some (GoOn (stage.Number part.Power))
    else behind_move innermost b

-- the beginning of a value (section 3)
abbrev pub begin_word : (b : ℕ) → Option Move
begin_word b = if b == 116 then Some (GoOn (stage.Word word.Rue))
    else (if b == 102 then Some (GoOn (stage.Word word.Alse))
    else then_some (b == 110) (GoOn (stage.Word word.Ull)))

abbrev pub begin_move : (b : ℕ) → Option Move
begin_move b = if b == 34 then Some (GoOn (stage.Text false within.Plain))
    else (if b == 91 then Some (Open Array)
    else (if b == 123 then Some (Open Object)
    else (if b == 45 then Some (GoOn (stage.Number part.Minus))
    else (if b == 48 then Some (GoOn (stage.Number part.Zero))
    else (if is_digit b then Some (GoOn (stage.Number part.Whole)) else begin_word b)))))

-- the beginning of a key
abbrev pub key_move : (b : ℕ) → Option Move
key_move b = then_some (b == 34) (GoOn (stage.Text true within.Plain))

-- between strings, numbers and words
abbrev pub move_past_space : Stage → (innermost : Option Bracket) → (b : ℕ) → Option Move
move_past_space stage.FirstItem innermost b = if b == 93 then Some Close else begin_move b
move_past_space stage.Value innermost b = begin_move b
move_past_space stage.FirstKey innermost b = if b == 125 then Some Close else key_move b
move_past_space stage.Key innermost b = key_move b
move_past_space stage.Colon innermost b = then_some (b == 58) (GoOn stage.Value)
move_past_space here innermost b = ended_move innermost b

-- white space changes no stage there
abbrev pub move_between : Stage → (innermost : Option Bracket) → (b : ℕ) → Option Move
move_between here innermost b =
    if is_space b then Some (GoOn here) else move_past_space here innermost b

-- what a byte does, or None if no JSON text goes on with it
abbrev pub move_at : Stage → (innermost : Option Bracket) → (b : ℕ) → Option Move
move_at (stage.Text is_key w) innermost b = option_map GoOn (text_move is_key w b)
move_at (stage.Number p) innermost b = number_move p innermost b
move_at (stage.Word w) innermost b = option_map GoOn (word_move w b)
move_at here innermost b = move_between here innermost b

abbrev pub first_stage : Bracket → Stage
first_stage Array = stage.FirstItem
first_stage Object = stage.FirstKey

-- the innermost of the open brackets
abbrev pub innermost_of : List Bracket → Option Bracket
innermost_of brackets = slice_get brackets (length brackets - 1)

abbrev pub max_depth : ℕ
max_depth = 127

-- one byte and those behind it, if a move leads on
abbrev pub behind_byte : Option Move → (brackets : List Bracket)
    → (next : Stage → List Bracket → ℕ) → ℕ
behind_byte None brackets next = 0
behind_byte (Some (GoOn here)) brackets next = suc (next here brackets)
behind_byte (Some (Open bracket)) brackets next = if nat_lt (length brackets) max_depth
    then suc (next (first_stage bracket) (brackets ++ bracket ∷ [])) else 0
behind_byte (Some Close) brackets next =
    suc (next stage.Behind (take (length brackets - 1) brackets))

-- how many bytes of a text go on, at that stage within these brackets
unfoldable pub begun : Stage → (brackets : List Bracket) → (text : List ℕ) → ℕ
begun here brackets [] = 0
begun here brackets (b ∷ text) = behind_byte (move_at here (innermost_of brackets) b) brackets
    (λ next inside. begun next inside text)

-- the offset at which a text is wrong: that of the first byte with which none goes on, or of the
-- first that is not UTF-8; the length of the text if there is none, also if a number is too large
abbrev pub wrong_offset : (text : List ℕ) → ℕ
wrong_offset text = begun stage.Value [] (take (utf8_valid_len text) text)

-- the line of the end of a text and the length of that line, in bytes, given those before it
abbrev pub end_of : (line column : ℕ) → (text : List ℕ) → ℕ × ℕ
end_of line column [] = (line, column)
end_of line column (b ∷ text) =
    if b == 10 then end_of (line + 1) 0 text else end_of line (column + 1) text

-- the line and the column of the byte at an offset, counted from 1; at the end of the text the
-- length of its last line is the column
abbrev pub place_at : (offset : ℕ) → (text : List ℕ) → ℕ × ℕ
place_at offset text = let before = end_of 1 0 (take offset text) in
    (before.0, (if nat_lt offset (length text) then before.1 + 1 else before.1))

-- the line and the column at which a text is wrong
unfoldable pub wrong_place : (text : List ℕ) → ℕ × ℕ
wrong_place text = place_at (wrong_offset text) text

abbrev pub input_place : (text : List ℕ) → InputPlace
input_place text = Text (wrong_place text).0 (wrong_place text).1
