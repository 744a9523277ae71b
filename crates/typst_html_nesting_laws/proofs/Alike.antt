-- What is known of ancestors is known of the open elements that they are.
use Rattle.std.proofs.Common.{◌≡◌, ℕ, suc, Bool, true, false, not, ◌&&◌, ◌||◌, List, [], ◌∷◌, length, refl, sym, ap, ◌∙◌, Some, arith}
use Rattle.std.{proofs.{Math.Bool.{or-false}, lemmas.{Bool.{false≢true}, Option.{none-some}}}, specs.List.{list_any}}
use Rattle.std.specs.Prelude.{if◌then◌else◌}
use Rattle.html_dom_tree.specs.Tree.{Head}
use Rattle.html_page_nesting.specs.Ancestors.{Ancestor, bounds_scope, bounds_button_scope, foreign_space, hides_formatting, is_in, is_point, is_read_as_html, place_of, reading_in, reading_of, space_of}
use Rattle.html_page_nesting.specs.declared.reading.Space.{Space, TheVariants.{Html, Svg, MathMl}}
use Rattle.html_page_nesting.specs.Ancestors as nest
use Rattle.html_page_nesting.specs.declared.reading.Reading.TheVariants as reading
use Rattle.html_page_names.specs.PageNames.{of}
use Rattle.html_page_names.specs.declared.kind.Kind.TheVariants as kind
use Rattle.html_page_stack.specs.{Pages.{StartTag, Start}, declared.modes.{Mode.{Mode}, Scope.TheVariants.{General, Button}}}
use Rattle.html_page_stack.specs.OpenElements.{OpenElement, at, bounds, bounds_general, current_space, in_scope, is_at, is_foreign_bound, has_item, holds_html_in, holds_text_in, is_foreign, is_removed, mode, named_mode, says_html}
use Rattle.html_page_stack.specs.OpenElements as open_elements
use Rattle.html_page_stack.specs.declared.modes.Space.TheVariants as spaces
use Rattle.html_page_tree.specs.PageTrees.{holds_svg_in, is_foreign_token}
use Rattle.typst_html_nesting_laws.proofs.{KindFacts.{fails_of, names}, Modes.{mode_in, place_mode}, Branches.{decide}}
use Rattle.typst_html_nesting_laws.proofs.Ways.{AreAlike, IsAlike, open_space}

pub html_is : (s : Space) → open_elements.is_html (open_space s) ≡ nest.is_html s
html_is Html = refl
html_is s = refl

pub html_space : (s : Space) → nest.is_html s ≡ true → open_space s ≡ spaces.Html
html_space Html h = refl
html_space s h = absurd (false≢true h)

point_in : (s : Space) (name : List ℕ) → is_foreign_bound (open_space s) name ≡ is_point s name
point_in Html name = refl
point_in s name = refl

not_removed : (s : Space) → is_removed (open_space s) ≡ false
not_removed Html = refl
not_removed s = refl

foreign_space_in : (s : Space) → nest.is_html s ≡ false → is_foreign (open_space s) ≡ true
foreign_space_in Html h = sym h
foreign_space_in s h = refl

-- one element

pub space_foreign : (a : Ancestor) (o : OpenElement) → IsAlike a o →
    nest.is_html a.space ≡ false → is_foreign o.space ≡ true
space_foreign a o s h = ap is_foreign s.space ∙ foreign_space_in a.space h

-- the innermost of open elements was not removed
pub never_removed : (above : List Ancestor) (o : OpenElement) (os : List OpenElement) →
    AreAlike above (o ∷ os) → is_removed o.space ≡ false
never_removed [] o os s = absurd s
never_removed (a ∷ above) o os s = ap is_removed s.0.space ∙ not_removed a.space

pub space_html : (a : Ancestor) (o : OpenElement) → IsAlike a o →
    open_elements.is_html o.space ≡ nest.is_html a.space
space_html a o s = ap open_elements.is_html s.space ∙ html_is a.space

pub of_is : (test : List ℕ → Bool) (a : Ancestor) (o : OpenElement) → IsAlike a o →
    open_elements.is_of test o ≡ nest.is_of test a
of_is test a o s = rw (space_html _ _ s, s.name) refl

pub point_is : (a : Ancestor) (o : OpenElement) → IsAlike a o →
    is_foreign_bound o.space o.head.name ≡ is_point a.space a.head.name
point_is a o s = rw (s.space, s.name) (point_in a.space a.head.name)

pub scope_is : (a : Ancestor) (o : OpenElement) → IsAlike a o → bounds_general o ≡ bounds_scope a
scope_is a o s = rw (of_is (of kind.BoundsScope) a o s, point_is a o s) refl

pub button_scope_is : (a : Ancestor) (o : OpenElement) → IsAlike a o →
    bounds Button o ≡ bounds_button_scope a
button_scope_is a o s = rw (of_is (of kind.Button) a o s, scope_is a o s) refl

-- the current element

pub at_is : (test : List ℕ → Bool) (above : List Ancestor) (os : List OpenElement) →
    AreAlike above os → is_at test os ≡ is_in test above
at_is test [] [] s = refl
at_is test (a ∷ above) (o ∷ os) s = of_is test a o s.0
at_is test above os s = absurd s

pub length_is : (above : List Ancestor) (os : List OpenElement) → AreAlike above os →
    length os ≡ length above
length_is [] [] s = refl
length_is (a ∷ above) (o ∷ os) s = ap suc (length_is above os s.1)
length_is above os s = absurd s

-- searches

-- with the same goals and bounds
pub reaches_is : (goal bound : Ancestor → Bool) (open_goal open_bound : OpenElement → Bool) →
    ((a : Ancestor) (o : OpenElement) → IsAlike a o → open_goal o ≡ goal a) →
    ((a : Ancestor) (o : OpenElement) → IsAlike a o → open_bound o ≡ bound a) →
    (above : List Ancestor) (os : List OpenElement) → AreAlike above os →
    open_elements.reaches open_goal open_bound os ≡ nest.reaches goal bound above
reaches_is goal bound open_goal open_bound g b [] [] s = refl
reaches_is goal bound open_goal open_bound g b (a ∷ above) (o ∷ os) s =
    rw (g a o s.0, b a o s.0, reaches_is goal bound open_goal open_bound g b above os s.1) refl
reaches_is goal bound open_goal open_bound g b above os s = absurd s

-- the reader's search with fewer goals and more bounds finds nothing where the other does not
fewer : (g g' b b' r r' : Bool) → (g' ≡ true → g ≡ true) → (b ≡ true → b' ≡ true) →
    (r ≡ false → r' ≡ false) → (g || (not b && r)) ≡ false → (g' || (not b' && r')) ≡ false
fewer g g' b b' r r' goal bound rest h = grind arith

pub unreached : (goal bound : Ancestor → Bool) (open_goal open_bound : OpenElement → Bool) →
    ((a : Ancestor) (o : OpenElement) → IsAlike a o → open_goal o ≡ true → goal a ≡ true) →
    ((a : Ancestor) (o : OpenElement) → IsAlike a o → bound a ≡ true → open_bound o ≡ true) →
    (above : List Ancestor) (os : List OpenElement) → AreAlike above os →
    nest.reaches goal bound above ≡ false → open_elements.reaches open_goal open_bound os ≡ false
unreached goal bound open_goal open_bound g b [] [] s h = refl
unreached goal bound open_goal open_bound g b (a ∷ above) (o ∷ os) s h =
    fewer (goal a) (open_goal o) (bound a) (open_bound o) (nest.reaches goal bound above)
    (open_elements.reaches open_goal open_bound os) (g a o s.0) (b a o s.0)
    (unreached goal bound open_goal open_bound g b above os s.1) h
unreached goal bound open_goal open_bound g b above os s h = absurd s

pub in_scope_is : (test : List ℕ → Bool) (above : List Ancestor) (os : List OpenElement) →
    AreAlike above os → in_scope General test os ≡ nest.reaches (nest.is_of test) bounds_scope above
in_scope_is test above os s = reaches_is (nest.is_of test) bounds_scope (open_elements.is_of test)
    (bounds General) (of_is test) scope_is above os s

pub in_button_scope_is : (test : List ℕ → Bool) (above : List Ancestor) (os : List OpenElement) →
    AreAlike above os →
    in_scope Button test os ≡ nest.reaches (nest.is_of test) bounds_button_scope above
in_button_scope_is test above os s = reaches_is (nest.is_of test) bounds_button_scope
    (open_elements.is_of test) (bounds Button) (of_is test) button_scope_is above os s

-- an element that hides formatting elements
pub marker_is : (a : Ancestor) (o : OpenElement) → IsAlike a o → hides_formatting a ≡ true →
    open_elements.is_of (of kind.Marker) o ≡ true
marker_is a o t e = of_is (of kind.Marker) a o t ∙ e

-- an item
pub none_item : (test : List ℕ → Bool) (above : List Ancestor) (os : List OpenElement) →
    AreAlike above os →
    nest.reaches (nest.is_of test) nest.bounds_item above ≡ false → has_item test os ≡ false
none_item test above os s h = unreached (nest.is_of test) nest.bounds_item
    (open_elements.is_of test) open_elements.bounds_item (λ a o t e. sym (of_is test a o t) ∙ e)
    bounded above os s h where
      -- by its space, and whether its name is special, passed, or `search`
      bounds_it : (sp : Space) (special passed search : Bool) (name : List ℕ) →
          ((nest.is_html sp && (special && not passed && not search)) || is_point sp name) ≡ true →
          (((nest.is_html sp && special) || is_point sp name)
          && not (nest.is_html sp && passed)) ≡ true
      bounds_it Html true false search name e = refl
      bounds_it Html false passed search name e = absurd (false≢true e)
      bounds_it Html true true search name e = absurd (false≢true e)
      bounds_it sp special passed search name e = ap (λ b. b && true) e

      bounded : (a : Ancestor) (o : OpenElement) → IsAlike a o → nest.bounds_item a ≡ true →
          open_elements.bounds_item o ≡ true
      bounded a o t e =
          let special = of_is (of kind.Special) a o t in
          let point = point_is a o t in
          let passed = of_is (of kind.PassedByItems) a o t in
          rw (special, point, passed) (bounds_it a.space (of kind.Special a.head.name)
          (of kind.PassedByItems a.head.name) (nest.is_search a.head.name) a.head.name e)

-- how what stands there is read

-- whether an element holds HTML, or text, or an `svg`, and what the rules make of it

svg_by : (b : Bool) (name : List ℕ) →
    (b || (false && not (of kind.Glyph name)) || (false && of kind.Svg name))
    ≡ is_read_as_html (if b then reading.AsHtml else reading.AsSvg) name
svg_by true name = refl
svg_by false name = refl

math_by : (text annotation says : Bool) (name : List ℕ) → (text ≡ true → annotation ≡ false) →
    ((annotation && says) || (text && not (of kind.Glyph name)) || (annotation && of kind.Svg name))
    ≡ is_read_as_html (if text then reading.AsMathText else (if annotation
    then (if says then reading.AsHtml else reading.AsAnnotation) else reading.AsMathMl)) name
math_by true true says name e = absurd (false≢true (sym (e refl)))
math_by true false says name e = or-false (not (of kind.Glyph name))
math_by false true true name e = refl
math_by false true false name e = refl
math_by false false says name e = refl

start_in : (s : Space) (h : Head) (o : OpenElement) (name : List ℕ) → o.head.name ≡ h.name →
    o.head.attrs ≡ h.attrs →
    (holds_html_in (open_space s) o || (holds_text_in (open_space s) o && not (of kind.Glyph name))
    || (holds_svg_in (open_space s) o && of kind.Svg name)) ≡ is_read_as_html (reading_in s h) name
start_in Html h o name n a = refl
start_in Svg h o name n a = rw n (svg_by (of kind.SvgHtml h.name) name)
start_in MathMl h o name n a = rw (n, a) (math_by (of kind.MathText h.name)
    (of kind.AnnotationXml h.name) (list_any says_html h.attrs) name
    (fails_of (of kind.AnnotationXml) kind.MathText h.name (unfold names in refl)))

pub start_foreign : (tag : StartTag) (above : List Ancestor) (os : List OpenElement) →
    AreAlike above os →
    is_foreign_token (Start tag) os ≡ not (is_read_as_html (reading_of above) tag.name)
start_foreign tag [] [] s = refl
start_foreign tag (a ∷ above) (o ∷ os) s =
    ap (λ x. not (holds_html_in x o || (holds_text_in x o && not (of kind.Glyph tag.name))
    || (holds_svg_in x o && of kind.Svg tag.name))) s.0.space
    ∙ ap not (start_in a.space a.head o tag.name s.0.name s.0.attrs)
start_foreign tag above os s = absurd s

-- the space of an element that is read by the rules for SVG and MathML

svg_space : (b : Bool) (name : List ℕ) →
    is_read_as_html (if b then reading.AsHtml else reading.AsSvg) name ≡ false →
    Svg ≡ foreign_space (if b then reading.AsHtml else reading.AsSvg)
svg_space true name e = absurd (false≢true (sym e))
svg_space false name e = refl

math_space : (text annotation says : Bool) → MathMl ≡ foreign_space (if text
    then reading.AsMathText else (if annotation
    then (if says then reading.AsHtml else reading.AsAnnotation) else reading.AsMathMl))
math_space true annotation says = refl
math_space false true true = refl
math_space text annotation says = refl

foreign_in : (s : Space) (h : Head) (name : List ℕ) →
    is_read_as_html (reading_in s h) name ≡ false → s ≡ foreign_space (reading_in s h)
foreign_in Html h name e = absurd (false≢true (sym e))
foreign_in Svg h name e = svg_space (of kind.SvgHtml h.name) name e
foreign_in MathMl h name e = math_space (of kind.MathText h.name) (of kind.AnnotationXml h.name)
    (list_any nest.says_html h.attrs)

-- it is that of the current element
pub space_is : (name : List ℕ) (above : List Ancestor) (os : List OpenElement) → AreAlike above os →
    is_read_as_html (reading_of above) name ≡ false →
    current_space os ≡ open_space (space_of (reading_of above) name)
space_is name [] os s h = absurd (false≢true (sym h))
space_is name (a ∷ above) (o ∷ os) s h =
    rw (s.0.space, h) (ap open_space (foreign_in a.space a.head name h))
space_is name (a ∷ above) [] s h = absurd s

-- the mode of a place

-- there the current element is one of HTML
pub placed_html : (m : Mode) (a : Ancestor) (above : List Ancestor) →
    mode_in (place_of (a ∷ above)) ≡ Some m → nest.is_html a.space ≡ true
placed_html m a above h = decide (nest.is_html a.space) (λ e. e)
    (λ e. absurd (none-some m (rw e at h)))

pub mode_is : (m : Mode) (above : List Ancestor) (os : List OpenElement) → AreAlike above os →
    mode_in (place_of above) ≡ Some m → mode os ≡ m
mode_is m [] os s h = absurd (none-some m h)
mode_is m (a ∷ above) (o ∷ os) s h =
    let html = placed_html m a above h in
    let in_html : open_elements.is_html o.space ≡ true = space_html _ _ s.0 ∙ html in
    let named : named_mode o.head.name os ≡ Some m = rw s.0.name (place_mode a.head.name os m
    (rw (at_is (of kind.Head) above os s.1) (rw html at h))) in
    rw (in_html, named) refl
mode_is m (a ∷ above) [] s h = absurd s
