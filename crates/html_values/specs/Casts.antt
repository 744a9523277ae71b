-- Casts: which values a type of attribute accepts, and the text, nothing, or refusal that each
-- becomes (this project's table of casts).
use Rattle.std.specs.{Fmt.{decimal, signed_decimal}, List.{join_by, list_any}}
use Rattle.std.specs.Prelude.{ℕ, ℤ, pos, negsuc, zero, suc, ◌==◌, List, [], ◌∷◌, codes, Bool, true, false, ◌&&◌, ◌||◌, if◌then◌else◌, Option, None, Some, Result, Ok, Err, ◌≡◌, String, Vec, option_map, length, slice_index, ◌-◌}
use Rattle.std.specs.{Int.NonZero.{non_zero_u64_get}, declared.alloc.Global.{Global}}
use Rattle.html_names_core.specs.{Names.{stands_in}, Texts.{text_view, texts_view}}
use Rattle.html_values_css.specs.{CastFaults.{IsFirst}, Colors.{color_text}, Endings.{Gives}, declared.cast_fault.CastFault.{CastFault}}
use Rattle.html_values_css.specs.declared.cast_fault.CastFault.TheVariants.{WrongKind, NotInStrings, NumberRange, NotOneChar, VerticalDir, BadImageSource, SeparatorInItem, YearRange}
use Rattle.html_values_css.specs.declared.direction.{Dir.{Dir}, Dir.TheVariants.{LTR, RTL, TTB, BTT}}
use Rattle.html_values.specs.AttrTexts.{word_of, dir_text, has_year, moment_text, duration_text, size_text, candidate_text}
use Rattle.html_values.specs.Types.{AttrTypeView, presence, native, strings, union, list, AttrTypesView, no_attr_types, attr_type}
use Rattle.html_values.specs.Values.{ValueView, none_value, auto_value, bool_value, int_value, str_value, color_value, datetime_value, duration_value, dir_value, image_value, array_value, ValuesView, no_values, value}
use Rattle.html_values.specs.declared.{image.ImageCandidate.{ImageCandidate}, native_type.NativeType.{NativeType}}

-- the result of casting a value to an attribute of a type
pub data CastAnswer : Type 0 where
  gives : List ℕ → CastAnswer
  nothing : CastAnswer
  refuses : CastFault → CastAnswer

-- the fault of an answer, if it is a refusal
abbrev pub answer_faults : CastAnswer → List CastFault
answer_faults (gives t) = []
answer_faults nothing = []
answer_faults (refuses f) = f ∷ []

-- how a cast ends: with a value whose view is the answer, or with the fault of the answer
abbrev pub GivesCast : {A : Type 0} → (A → CastAnswer) → Result A CastFault → CastAnswer → Type 0
GivesCast view r answer = Gives view r answer (answer_faults answer)

-- how a call ends that returns a value if there is one, and fails with that fault otherwise
abbrev pub Finds : {A B : Type 0} → (A → B) → CastFault → Result A CastFault → Option B → Type 0
Finds view fault (Ok made) found = found ≡ Some (view made)
Finds view fault (Err other) found = (other ≡ fault) × (found ≡ None)

-- the answer for a result: a text, an image candidate, or an optional text
abbrev pub text_answer : String Global → CastAnswer
text_answer text = gives (text_view text)

abbrev pub candidate_answer : ImageCandidate → CastAnswer
candidate_answer made =
    gives (candidate_text (text_view made.src) (option_map non_zero_u64_get made.width))

-- the result for an array's item: its text, or the fault
abbrev pub text_result : Result (String Global) CastFault → Result (List ℕ) CastFault
text_result (Ok text) = Ok (text_view text)
text_result (Err fault) = Err fault

abbrev pub option_answer : Option (String Global) → CastAnswer
option_answer None = nothing
option_answer (Some text) = text_answer text

-- whether a native type accepts values of this kind
abbrev pub native_castable : NativeType → ValueView → Bool
native_castable NativeType.NoValue none_value = true
native_castable NativeType.NoneEmpty none_value = true
native_castable NativeType.NoneUndefined none_value = true
native_castable NativeType.Auto auto_value = true
native_castable NativeType.TrueFalse (bool_value b) = true
native_castable NativeType.YesNo (bool_value b) = true
native_castable NativeType.OnOff (bool_value b) = true
native_castable NativeType.Int (int_value n) = true
native_castable NativeType.NonNegativeInt (int_value n) = true
native_castable NativeType.PositiveInt (int_value n) = true
native_castable NativeType.Str (str_value s) = true
native_castable NativeType.Char (str_value s) = true
native_castable NativeType.Datetime (datetime_value m) = true
native_castable NativeType.Duration (duration_value s) = true
native_castable NativeType.Color (color_value c) = true
native_castable NativeType.HorizontalDir (dir_value d) = true
native_castable NativeType.IconSize (array_value vs) = true
native_castable NativeType.ImageCandidate (image_value src width) = true
native_castable t v = false

-- an integer as a number from 0 on, and as one from 1 on, if it is in that range
abbrev pub natural : ℤ → Option ℕ
natural (pos n) = Some n
natural (negsuc n) = None

abbrev pub positive : ℤ → Option ℕ
positive (pos zero) = None
positive (pos (suc n)) = Some (suc n)
positive (negsuc n) = None

-- the answer for a number in the range, and the refusal of any other
abbrev pub in_range : Option ℕ → (ℕ → CastAnswer) → CastAnswer
in_range None answer = refuses NumberRange
in_range (Some n) answer = answer n

abbrev pub one_char : List ℕ → CastAnswer
one_char (c ∷ []) = gives (c ∷ [])
one_char cs = refuses NotOneChar

abbrev pub horizontal : Dir → CastAnswer
horizontal LTR = gives (dir_text LTR)
horizontal RTL = gives (dir_text RTL)
horizontal TTB = refuses VerticalDir
horizontal BTT = refuses VerticalDir

-- the whole number that a value is, if it is one
abbrev pub int_of : ValueView → Option ℤ
int_of (int_value n) = Some n
int_of v = None

-- the size of an icon: exactly two whole numbers, none below zero
abbrev pub size_of : Option ℤ → Option ℤ → CastAnswer
size_of None height = refuses WrongKind
size_of (Some width) None = refuses WrongKind
size_of (Some width) (Some height) =
    in_range (natural width) (λ w. in_range (natural height) (λ h. gives (size_text w h)))

abbrev pub icon_size : ValuesView → CastAnswer
icon_size (value width (value height no_values)) = size_of (int_of width) (int_of height)
icon_size vs = refuses WrongKind

-- whether a text is empty, or begins or ends with a comma
abbrev pub is_bad_source : List ℕ → Bool
is_bad_source src =
    (length src == 0) || ((slice_index src 0 == 44) || (slice_index src (length src - 1) == 44))

abbrev pub candidate : List ℕ → Option ℕ → CastAnswer
candidate src width =
    if is_bad_source src then refuses BadImageSource else gives (candidate_text src width)

-- an image, whose width, if it has one, is at least one
abbrev pub image : List ℕ → Option ℤ → CastAnswer
image src None = candidate src None
image src (Some width) = in_range (positive width) (λ w. candidate src (Some w))

abbrev pub native_cast : NativeType → ValueView → CastAnswer
native_cast NativeType.NoValue none_value = gives (codes "none")
native_cast NativeType.NoneEmpty none_value = gives []
native_cast NativeType.NoneUndefined none_value = gives (codes "undefined")
native_cast NativeType.Auto auto_value = gives (codes "auto")
native_cast NativeType.TrueFalse (bool_value b) = gives (word_of (codes "true") (codes "false") b)
native_cast NativeType.YesNo (bool_value b) = gives (word_of (codes "yes") (codes "no") b)
native_cast NativeType.OnOff (bool_value b) = gives (word_of (codes "on") (codes "off") b)
native_cast NativeType.Int (int_value n) = gives (signed_decimal n)
native_cast NativeType.NonNegativeInt (int_value n) = in_range (natural n) (λ k. gives (decimal k))
native_cast NativeType.PositiveInt (int_value n) = in_range (positive n) (λ k. gives (decimal k))
native_cast NativeType.Str (str_value s) = gives s
native_cast NativeType.Char (str_value s) = one_char s
native_cast NativeType.Datetime (datetime_value m) =
    if has_year m then gives (moment_text m) else refuses YearRange
native_cast NativeType.Duration (duration_value s) = gives (duration_text s)
native_cast NativeType.Color (color_value c) = gives (color_text c)
native_cast NativeType.HorizontalDir (dir_value d) = horizontal d
native_cast NativeType.IconSize (array_value vs) = icon_size vs
native_cast NativeType.ImageCandidate (image_value src width) = image src width
native_cast t v = refuses WrongKind

abbrev pub strings_cast : List (List ℕ) → ValueView → CastAnswer
strings_cast ts (str_value s) = if stands_in ts s then gives s else refuses NotInStrings
strings_cast ts v = refuses WrongKind

abbrev mutual
  pub castable : AttrTypeView → ValueView → Bool
  castable presence (bool_value b) = true
  castable presence v = false
  castable (native t) v = native_castable t v
  castable (strings ts) (str_value s) = stands_in ts s
  castable (strings ts) v = false
  castable (union ks) v = castable_by_any ks v
  castable (list inner separator shorthand) (array_value vs) = true
  castable (list inner separator shorthand) v = shorthand && castable inner v

  pub castable_by_any : AttrTypesView → ValueView → Bool
  castable_by_any no_attr_types v = false
  castable_by_any (attr_type k ks) v = castable k v || castable_by_any ks v

abbrev mutual
  pub has_presence : AttrTypeView → Bool
  has_presence presence = true
  has_presence (native t) = false
  has_presence (strings ts) = false
  has_presence (union ks) = presence_in ks
  has_presence (list inner separator shorthand) = false

  pub presence_in : AttrTypesView → Bool
  presence_in no_attr_types = false
  presence_in (attr_type k ks) = has_presence k || presence_in ks

-- the answer for an item: its text, which is empty for nothing, or the refusal
abbrev pub item_answer : CastAnswer → CastAnswer
item_answer (gives t) = gives t
item_answer nothing = gives []
item_answer (refuses f) = refuses f

-- a value instead of an array of itself, if that is allowed
abbrev pub shorthand_answer : Bool → CastAnswer → CastAnswer
shorthand_answer false answer = refuses WrongKind
shorthand_answer true answer = item_answer answer

-- the text of a list's item, which may not contain the separator
abbrev pub item_text : ℕ → CastAnswer → Result (List ℕ) CastFault
item_text separator (gives t) =
    if list_any (λ c. c == separator) t then Err SeparatorInItem else Ok t
item_text separator nothing = Ok []
item_text separator (refuses f) = Err f

-- the texts of an array's items, or the first refusal
abbrev pub Texts : Type 0
Texts = Result (List (List ℕ)) CastFault

abbrev pub and_then : Result (List ℕ) CastFault → Texts → Texts
and_then (Err f) rest = Err f
and_then (Ok t) (Err f) = Err f
and_then (Ok t) (Ok ts) = Ok (t ∷ ts)

abbrev pub item_texts : (ValueView → CastAnswer) → ℕ → ValuesView → Texts
item_texts inner separator no_values = Ok []
item_texts inner separator (value v vs) =
    and_then (item_text separator (inner v)) (item_texts inner separator vs)

-- the text between two items of a list: the separator, with a space after a comma
abbrev pub list_separator_text : ℕ → List ℕ
list_separator_text separator = if separator == 44 then codes ", " else separator ∷ []

abbrev pub list_answer : ℕ → Texts → CastAnswer
list_answer separator (Ok texts) = gives (join_by (λ t. t) (list_separator_text separator) texts)
list_answer separator (Err f) = refuses f

-- how a call ends that returns the texts of an array's items
abbrev pub GivesTexts : Result (Vec (String Global) Global) CastFault → ℕ → Texts → Type 0
GivesTexts (Ok made) separator texts = texts ≡ Ok (texts_view made.items)
GivesTexts (Err fault) separator texts =
    IsFirst fault (answer_faults (list_answer separator texts))

abbrev mutual
  pub cast : AttrTypeView → ValueView → CastAnswer
  cast presence (bool_value true) = gives []
  cast presence (bool_value false) = nothing
  cast presence v = refuses WrongKind
  cast (native t) v = native_cast t v
  cast (strings ts) v = strings_cast ts v
  cast (union ks) v = first_cast ks v
  cast (list inner separator shorthand) (array_value vs) =
      list_answer separator (item_texts (cast inner) separator vs)
  cast (list inner separator shorthand) v =
      shorthand_answer (shorthand && castable inner v) (cast inner v)

  -- the first type that accepts the value casts it
  pub first_cast : AttrTypesView → ValueView → CastAnswer
  first_cast no_attr_types v = refuses WrongKind
  first_cast (attr_type k ks) v = if castable k v then cast k v else first_cast ks v
