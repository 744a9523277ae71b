-- The texts of typed values in attributes, each a list of characters (this project's table of
-- values).
use Rattle.std.specs.Fmt.{decimal}
use Rattle.std.specs.Prelude.{ℕ, ℤ, pos, negsuc, unsigned_abs, zero, suc, ltb, ◌&&◌, ◌/◌, ◌%◌, ◌==◌, List, [], ◌∷◌, ◌++◌, codes, Bool, true, false, if◌then◌else◌, Option, None, Some, option_map}
use Rattle.std.specs.Int.NonZero.{non_zero_u64_get}
use Rattle.html_names_core.specs.Texts.{text_view, two_digits}
use Rattle.html_values.specs.declared.{image.ImageCandidate.{ImageCandidate}, moment.Moment.{Moment}}
use Rattle.html_values.specs.declared.{moment.Moment.TheVariants.{Date, Time, DateTime}, words.HorizontalDir.{HorizontalDir}}
use Rattle.html_values_css.specs.declared.direction.{Dir.{Dir}, Dir.TheVariants.{LTR, RTL, TTB, BTT}}
use Rattle.jiff_core.specs.declared.civil.{date.Date.{Date as CivilDate}, time.Time.{Time as CivilTime}}

-- the word for a Boolean
abbrev pub word_of : List ℕ → List ℕ → Bool → List ℕ
word_of one other true = one
word_of one other false = other

abbrev pub dir_text : Dir → List ℕ
dir_text LTR = codes "ltr"
dir_text RTL = codes "rtl"
dir_text TTB = codes "ttb"
dir_text BTT = codes "btt"

abbrev pub horizontal_dir : HorizontalDir → Dir
horizontal_dir HorizontalDir.LTR = LTR
horizontal_dir HorizontalDir.RTL = RTL

abbrev pub horizontal_text : HorizontalDir → List ℕ
horizontal_text dir = dir_text (horizontal_dir dir)

-- a number below ten thousand in four digits
abbrev pub four_digits : ℕ → List ℕ
four_digits n = two_digits (n / 100) ++ two_digits (n % 100)

-- whether a year is from 1 to 9999, so that it has four digits
abbrev pub year_fits : ℤ → Bool
year_fits (pos n) = ltb 0 n && ltb n 10_000
year_fits (negsuc n) = false

-- whether the year of a moment, if it has one, is from 1 to 9999
abbrev pub has_year : Moment → Bool
has_year (Date d) = year_fits d.year
has_year (Time t) = true
has_year (DateTime b) = year_fits b.date.year

-- HTML Standard 2.3.5, valid date string
abbrev pub date_text : CivilDate → List ℕ
date_text d =
    four_digits (unsigned_abs d.year) ++ codes "-" ++ two_digits d.month
    ++ codes "-" ++ two_digits d.day

-- the seconds of a time, omitted if they are zero
abbrev pub seconds_text : ℕ → List ℕ
seconds_text n = if n == 0 then [] else codes ":" ++ two_digits n

-- HTML Standard 2.3.5, valid time string, without parts of a second
abbrev pub time_text : CivilTime → List ℕ
time_text t = two_digits t.hour ++ codes ":" ++ two_digits t.minute ++ seconds_text t.second

-- HTML Standard 2.3.5, valid local date and time string
abbrev pub moment_text : Moment → List ℕ
moment_text (Date d) = date_text d
moment_text (Time t) = time_text t
moment_text (DateTime b) = date_text b.date ++ codes "T" ++ time_text b.time

-- a text with a space at its end, unless it is empty
abbrev pub gap_after : List ℕ → List ℕ
gap_after [] = []
gap_after (x ∷ xs) = x ∷ xs ++ codes " "

-- two texts with a space between them, if neither is empty
abbrev pub texts_with_gap : List ℕ → List ℕ → List ℕ
texts_with_gap xs [] = xs
texts_with_gap xs (y ∷ ys) = gap_after xs ++ y ∷ ys

-- a count with its unit, unless it is zero
abbrev pub count_text : ℕ → List ℕ → List ℕ
count_text zero unit = []
count_text (suc n) unit = decimal (suc n) ++ unit

-- HTML Standard 2.3.5, valid duration string: weeks, days, hours, minutes, seconds
abbrev pub counts_text : ℕ → List ℕ
counts_text s =
    texts_with_gap (count_text (s / 604_800) (codes "w"))
    (texts_with_gap (count_text (s / 86_400 % 7) (codes "d"))
    (texts_with_gap (count_text (s / 3_600 % 24) (codes "h"))
    (texts_with_gap (count_text (s / 60 % 60) (codes "m")) (count_text (s % 60) (codes "s")))))

abbrev pub duration_text : ℕ → List ℕ
duration_text s = if s == 0 then codes "0s" else counts_text s

-- HTML Standard 4.2.4, a keyword of `sizes`
abbrev pub size_text : ℕ → ℕ → List ℕ
size_text width height = decimal width ++ codes "x" ++ decimal height

abbrev pub image_candidate_view : ImageCandidate → List ℕ × Option ℕ
image_candidate_view image = (text_view image.src, option_map non_zero_u64_get image.width)

-- HTML Standard 4.8.4.2.1, an image candidate string
abbrev pub candidate_text : List ℕ → Option ℕ → List ℕ
candidate_text src None = src
candidate_text src (Some width) = src ++ codes " " ++ decimal width ++ codes "w"
