-- Names in SVG and MathML that get their capitals back after all letters were made lowercase (HTML
-- Standard 13.2.6.1 and 13.2.6.5).
use Rattle.std.specs.{Char.{to_ascii_lowercase}, List.{find, list_any}, Prelude.{ℕ, Bool, not, if◌then◌else◌, List, ◌++◌, codes, bytes_eq, map, unwrap_or}}
use Rattle.html_names_core.specs.{Characters.{is_capital}, Names.{listed_names, stands_in}}

-- a text in lowercase
abbrev pub lowered : List ℕ → List ℕ
lowered = map to_ascii_lowercase

abbrev pub svg_names : List (List ℕ)
svg_names =
    listed_names (codes "altGlyph altGlyphDef altGlyphItem animateColor animateMotion")
    ++ listed_names (codes "animateTransform clipPath feBlend feColorMatrix feComponentTransfer")
    ++ listed_names (codes "feComposite feConvolveMatrix feDiffuseLighting feDisplacementMap")
    ++ listed_names (codes "feDistantLight feDropShadow feFlood feFuncA feFuncB feFuncG feFuncR")
    ++ listed_names (codes "feGaussianBlur feImage feMerge feMergeNode feMorphology feOffset")
    ++ listed_names (codes "fePointLight feSpecularLighting feSpotLight feTile feTurbulence")
    ++ listed_names (codes "foreignObject glyphRef linearGradient radialGradient textPath")

abbrev pub svg_attrs : List (List ℕ)
svg_attrs =
    listed_names (codes "attributeName attributeType baseFrequency baseProfile calcMode")
    ++ listed_names (codes "clipPathUnits diffuseConstant edgeMode filterUnits glyphRef")
    ++ listed_names (codes "gradientTransform gradientUnits kernelMatrix kernelUnitLength")
    ++ listed_names (codes "keyPoints keySplines keyTimes lengthAdjust limitingConeAngle")
    ++ listed_names (codes "markerHeight markerUnits markerWidth maskContentUnits maskUnits")
    ++ listed_names (codes "numOctaves pathLength patternContentUnits patternTransform")
    ++ listed_names (codes "patternUnits pointsAtX pointsAtY pointsAtZ preserveAlpha")
    ++ listed_names (codes "preserveAspectRatio primitiveUnits refX refY repeatCount repeatDur")
    ++ listed_names (codes "requiredExtensions requiredFeatures specularConstant")
    ++ listed_names (codes "specularExponent spreadMethod startOffset stdDeviation stitchTiles")
    ++ listed_names (codes "surfaceScale systemLanguage tableValues targetX targetY textLength")
    ++ listed_names (codes "viewBox viewTarget xChannelSelector yChannelSelector zoomAndPan")

abbrev pub math_attrs : List (List ℕ)
math_attrs = listed_names (codes "definitionURL")

-- the name of the list that is this one in lowercase, if there is one
abbrev pub with_capitals : List (List ℕ) → List ℕ → List ℕ
with_capitals names name = unwrap_or (find (λ n. bytes_eq (lowered n) name) names) name

-- whether a parser leaves a name as it is: it makes all letters lowercase, and then gives these
-- names their capitals. So a name with capitals must be one of them, and one without must be none
-- of them in lowercase
unfoldable pub keeps_case : (capital_names : List (List ℕ)) → (name : List ℕ) → Bool
keeps_case capital_names name = if list_any is_capital name then stands_in capital_names name
    else not (list_any (λ n. bytes_eq (lowered n) name) capital_names)

-- whether a `font` with an attribute of that name closes SVG and MathML (13.2.6.5)
unfoldable pub is_font_attr : List ℕ → Bool
is_font_attr name = stands_in (listed_names (codes "color face size")) name

-- whether the attribute of that name has the media type of an `annotation-xml`'s content
unfoldable pub is_encoding : List ℕ → Bool
is_encoding name = stands_in (listed_names (codes "encoding")) name

-- whether the value is a media type of HTML for the content of an `annotation-xml`
unfoldable pub is_html_encoding : List ℕ → Bool
is_html_encoding value = stands_in (listed_names (codes "application/xhtml+xml text/html")) value
