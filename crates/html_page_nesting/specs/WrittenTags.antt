-- Names and values of a start tag that the tokenizer reads as they are (HTML Standard 13.2.3.5,
-- 13.2.5.6 to 13.2.5.8, 13.2.5.33; 13.2.6.1, adjusted names).
use Rattle.std.specs.List.{list_all, list_any}
use Rattle.std.specs.Prelude.{ℕ, Bool, false, not, ◌&&◌, ◌||◌, List, [], ◌∷◌, if◌then◌else◌, Option, Some, None}
use Rattle.html_names_core.specs.Characters.{is_capital, is_lower}
use Rattle.html_dom_tree.specs.{Attributes.{names_differ}, Tree.{TextPair, Head}}
use Rattle.html_page_names.specs.ForeignNames.{keeps_case, math_attrs, svg_attrs, svg_names}
use Rattle.html_page_nesting.specs.{WrittenTexts.{has_return}, declared.misnesting.Misnesting.{Misnesting}}
use Rattle.html_page_nesting.specs.declared.misnesting.Misnesting.TheVariants as why
use Rattle.html_page_nesting.specs.declared.reading.{Space.{Space}, Space.TheVariants.{Html, Svg, MathMl}}

-- the names that have capitals in the tree
abbrev pub capital_tags : Space → List (List ℕ)
capital_tags Svg = svg_names
capital_tags space = []

abbrev pub capital_attrs : Space → List (List ℕ)
capital_attrs Html = []
capital_attrs Svg = svg_attrs
capital_attrs MathMl = math_attrs

-- whether a name begins with a letter; otherwise the `<` before it is text
abbrev pub begins_with_letter : (name : List ℕ) → Bool
begins_with_letter [] = false
begins_with_letter (c ∷ cs) = is_lower c || is_capital c

abbrev pub keep_case : (capital_names : List (List ℕ)) → List TextPair → Bool
keep_case capital_names = list_all (λ a. keeps_case capital_names a.0)

abbrev pub attrs_misnesting : Space → List TextPair → Option Misnesting
attrs_misnesting space attrs = if not (keep_case (capital_attrs space) attrs) then Some why.AttributeName
    else (if not (names_differ attrs) then Some why.RepeatedAttribute
    else (if list_any (λ a. has_return a.1) attrs then Some why.CarriageReturn else None))

abbrev pub tag_misnesting : Space → Head → Option Misnesting
tag_misnesting space h = if begins_with_letter h.name && keeps_case (capital_tags space) h.name
    then attrs_misnesting space h.attrs else Some why.TagName
