-- The kinds of a name, each a bit.
use Rattle.std.specs.Prelude.{◌≡◌, ℕ, ◌^◌, Bool, not, ◌==◌, bit_and, List}
use Rattle.html_page_names.specs.{PageNames.{of}, declared.kind.Kind.{Kind}}
use Rattle.html_page_names.specs.declared.kind.Kind.TheVariants as kind
use Rattle.html_page_names.specs.declared.kinds.Kinds.{Kinds}

-- the index of a kind among the kinds, and of its bit
abbrev pub kind_place : Kind → ℕ
kind_place kind.A = 0
kind_place kind.AnnotationXml = 1
kind_place kind.Body = 2
kind_place kind.Br = 3
kind_place kind.Button = 4
kind_place kind.Caption = 5
kind_place kind.Cell = 6
kind_place kind.Col = 7
kind_place kind.Colgroup = 8
kind_place kind.DescriptionPart = 9
kind_place kind.Font = 10
kind_place kind.Form = 11
kind_place kind.Head = 12
kind_place kind.Hr = 13
kind_place kind.Html = 14
kind_place kind.Image = 15
kind_place kind.Input = 16
kind_place kind.ListItem = 17
kind_place kind.Math = 18
kind_place kind.Nobr = 19
kind_place kind.Noscript = 20
kind_place kind.Optgroup = 21
kind_place kind.Option = 22
kind_place kind.P = 23
kind_place kind.Rtc = 24
kind_place kind.Ruby = 25
kind_place kind.Script = 26
kind_place kind.Select = 27
kind_place kind.Svg = 28
kind_place kind.Table = 29
kind_place kind.Template = 30
kind_place kind.Tr = 31
kind_place kind.Root = 32
kind_place kind.Frameset = 33
kind_place kind.Plaintext = 34
kind_place kind.HeadLeaf = 35
kind_place kind.EscapableRaw = 36
kind_place kind.Raw = 37
kind_place kind.ScriptOrStyle = 38
kind_place kind.HeadContent = 39
kind_place kind.NoscriptContent = 40
kind_place kind.Formatting = 41
kind_place kind.Marker = 42
kind_place kind.Leaf = 43
kind_place kind.Heading = 44
kind_place kind.ClosesInScope = 45
kind_place kind.ClosesP = 46
kind_place kind.Unformatted = 47
kind_place kind.Implied = 48
kind_place kind.Section = 49
kind_place kind.TablePart = 50
kind_place kind.Misplaced = 51
kind_place kind.Special = 52
kind_place kind.BoundsScope = 53
kind_place kind.BoundsList = 54
kind_place kind.PassedByItems = 55
kind_place kind.RubyPart = 56
kind_place kind.RubyText = 57
kind_place kind.DropsFeed = 58
kind_place kind.Breakout = 59
kind_place kind.Glyph = 60
kind_place kind.MathText = 61
kind_place kind.BarsFrameset = 62
kind_place kind.SvgHtml = 63

abbrev pub kind_bit : Kind → ℕ
kind_bit k = 2 ^ kind_place k

-- whether the kind is among those of the bits
abbrev pub has_bit : Kind → (bits : ℕ) → Bool
has_bit k bits = not (bit_and bits (kind_bit k) == 0)

abbrev pub has : Kinds → Kind → Bool
has ks k = has_bit k ks.bits

-- the kinds are those of the name
abbrev pub IsKindsOf : (name : List ℕ) → Kinds → Type 0
IsKindsOf name ks = (k : Kind) → has ks k ≡ of k name
