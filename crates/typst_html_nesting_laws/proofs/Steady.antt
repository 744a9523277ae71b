-- A place of a body stays in a mode of one, whatever element of it is begun.
use Rattle.std.proofs.Common.{◌≡◌, ℕ, Bool, true, false, ◌&&◌, ◌||◌, List, [], ◌∷◌, inl, inr, map, refl, sym, ap, subst, ◌∙◌}
use Rattle.std.{proofs.lemmas.Bool.{and_parts, both_ways, false≢true}, specs.Prelude.{if◌then◌else◌, None}}
use Rattle.html_dom_tree.specs.Tree.{Head, NodesView}
use Rattle.html_page_nesting.specs.{NestingRules.{element_misnesting, has_place}, Surroundings.{surroundings_of}}
use Rattle.html_page_nesting.specs.Ancestors.{Ancestor, ancestor, is_in, is_read_as_html, place_in, place_inside, place_of, reading_in, reading_of, space_of}
use Rattle.html_page_nesting.specs.declared.reading.{Place.{Place}, Space.{Space, TheVariants.{Html}}}
use Rattle.html_page_nesting.specs.Ancestors as nest
use Rattle.html_page_nesting.specs.declared.reading.Place.TheVariants as place
use Rattle.html_page_names.specs.{PageNames.{kind_names, of}, declared.kind.Kind.{Kind}}
use Rattle.html_page_names.specs.declared.kind.Kind.TheVariants as kind
use Rattle.html_page_stack.specs.{OpenElements.{OpenElement, is_at, is_html, mode, mode_inside, named_mode}, declared.modes.Mode.{Mode}}
use Rattle.html_page_stack.specs.declared.modes.Mode.TheVariants.{BeforeHead, InHead, InHeadNoscript, InText, InTable, InCaption, InColumns, InSection, InRow, InCell}
use Rattle.typst_html_nesting_laws.proofs.{Alike.{at_is, space_html}, Branches.{decide, either, of_two, second_false, skip}}
use Rattle.typst_html_nesting_laws.proofs.{Stands.{Stands, html_stands}, KindFacts.{agree_of, names, none_of}}
use Rattle.typst_html_nesting_laws.proofs.{Modes.{brings, mode_around, own_mode, template_mode}, Rules.{begins_foreign, has, named_kept}}
use Rattle.typst_html_nesting_laws.proofs.{Turns.{read_mode}, Ways.{AreAlike, IsAlike, IsSteady, ends_at_once, is_body_mode, is_page_place}}

body_inside : (m : Mode) → is_body_mode (read_mode (mode_inside m)) ≡ is_body_mode (read_mode m)
body_inside BeforeHead = refl
body_inside _ = refl

-- an element that brings no mode stands in that of the elements around it
pub around_steady : (above : List Ancestor) (os : List OpenElement) → AreAlike above os →
    IsSteady above os → place_of above ≡ place.Body → (o : OpenElement) →
    (if is_html o.space then named_mode o.head.name os else None) ≡ None →
    is_body_mode (read_mode (mode (o ∷ os))) ≡ true
around_steady [] os alike steady body o none = absurd (cc)
around_steady (a ∷ above) [] alike steady body o none = absurd alike
around_steady (a ∷ above) (q ∷ qs) alike steady body o none =
    ap (λ m. is_body_mode (read_mode m)) (mode_around o q qs none)
    ∙ (body_inside (mode (q ∷ qs)) ∙ steady body)

-- the place in an element of a kind
placed_by : (n : List ℕ) (os : List OpenElement) (k : Kind) (p : Place) →
    map (place_in (is_at (of kind.Head) os)) (kind_names k) ≡ map (λ l. p) (kind_names k) →
    of k n ≡ true → place_in (is_at (of kind.Head) os) n ≡ p
placed_by n os k p same h = agree_of (place_in (is_at (of kind.Head) os)) (λ l. p) k n same h

-- an element of HTML whose place is that of a body brings a mode of one, or none
own_body : (m : Mode) (n : List ℕ) (os : List OpenElement) → brings m n os ≡ true → place_in
    (is_at (of kind.Head) os) n ≡ place.Body → of kind.Raw n ≡ false →
    is_body_mode (read_mode m) ≡ true
unfolding names
own_body InHead n os h body raw = let x = placed_by n os kind.Head place.Head refl h in absurd (cc)
own_body InHeadNoscript n os h body raw =
    let in_head = is_at (of kind.Head) os in
    let both = and_parts _ _ h in
    let place_by = λ (b : Bool). if b then place.HeadNoscript else place.Body in
    let x = agree_of (place_in in_head) (λ l. place_by in_head) kind.Noscript n refl both.0
    ∙ ap place_by both.1 in absurd (cc)
own_body InText n os h body raw = absurd (both_ways _ raw h)
own_body InTable n os h body raw =
    let x = placed_by n os kind.Table place.Table refl h in absurd (cc)
own_body InCaption n os h body raw = refl
own_body InColumns n os h body raw =
    let x = placed_by n os kind.Colgroup place.Columns refl h in absurd (cc)
own_body InSection n os h body raw =
    let x = placed_by n os kind.Section place.Section refl h in absurd (cc)
own_body InRow n os h body raw = let x = placed_by n os kind.Tr place.Row refl h in absurd (cc)
own_body InCell n os h body raw = refl
own_body _ n os h body raw = absurd (false≢true h)

html_steady : (above : List Ancestor) (os : List OpenElement) (o : OpenElement) →
    AreAlike above os → IsSteady above os → is_html o.space ≡ true →
    Stands o.head.name os (place_of above) → of kind.Raw o.head.name ≡ false → place_in
    (is_in (of kind.Head) above) o.head.name ≡ place.Body →
    is_body_mode (read_mode (mode (o ∷ os))) ≡ true
html_steady above os o alike steady html (inl s) raw body = ap (λ m. is_body_mode (read_mode m))
    (own_mode o os s.mode html s.is) ∙ own_body s.mode o.head.name os s.is
    (ap (λ b. place_in b o.head.name) (at_is (of kind.Head) above os alike) ∙ body) raw
html_steady above os o alike steady html (inr s) raw body =
    around_steady above os alike steady s.body o
    (either (is_html o.space) (λ h. s.none) (λ h. refl))

-- SVG and MathML begin in a body alone

svg_placed : (p : Place) (n : List ℕ) → is_page_place p ≡ false → has_place p n ≡ true →
    (of kind.Svg n || of kind.Math n) ≡ true → ⊥
svg_placed place.Page n page h k = false≢true (sym page)
svg_placed p n page h k = of_two k
    (λ s. both_ways _ (none_of (has_place p) kind.Svg n (unfold names in refl) h) s)
    (λ m. both_ways _ (none_of (has_place p) kind.Math n (unfold names in refl) h) m)

is_body : (p : Place) → ((p ≡ place.Body → ⊥) → ⊥) → p ≡ place.Body
is_body place.Body h = refl
is_body p h = absurd (h (λ e. cc))

-- what is read by the rules for SVG and MathML stands in an element of them
reading_place : (above : List Ancestor) (n : List ℕ) →
    is_read_as_html (reading_of above) n ≡ false → place_of above ≡ place.Body
reading_place [] n h = absurd (false≢true (sym h))
reading_place (a ∷ above) n h = by_space a.space h where
  by_space : (s : Space) → is_read_as_html (reading_in s a.head) n ≡ false →
      place_inside (is_in (of kind.Head) above) s a.head.name ≡ place.Body
  by_space Html h = absurd (false≢true (sym h))
  by_space s h = refl

foreign_place : (above : List Ancestor) (h : Head) (kids : NodesView) →
    is_page_place (place_of above) ≡ false → element_misnesting h kids (surroundings_of above)
    ≡ None → nest.is_html (space_of (reading_of above) h.name) ≡ false → place_of above ≡ place.Body
foreign_place above h kids page rules foreign =
    let around = surroundings_of above in
    decide (is_read_as_html (reading_of above) h.name)
    (λ e. is_body (place_of above) (λ other. svg_placed (place_of above) h.name page
    (has (place_of above) h.name around page (named_kept h kids around rules e) other)
    (begins_foreign h kids around rules foreign e))) (reading_place above h.name)

pub steady_begun : (above : List Ancestor) (h : Head) (kids : NodesView) (os : List OpenElement) →
    AreAlike above os → IsSteady above os → is_page_place (place_of above) ≡ false →
    element_misnesting h kids (surroundings_of above) ≡ None → ends_at_once h ≡ false →
    (nest.is_html (space_of (reading_of above) h.name) && of kind.Raw h.name) ≡ false →
    (o : OpenElement) → IsAlike (ancestor h above) o → IsSteady (ancestor h above ∷ above) (o ∷ os)
steady_begun above h kids os alike steady page rules once raw o same place_is =
    decide (nest.is_html (space_of (reading_of above) h.name))
    (λ html. let here : is_html o.space ≡ true = space_html _ _ same ∙ html in
    decide (of kind.Template h.name)
    (λ t. ap (λ m. is_body_mode (read_mode m))
    (template_mode o os here (ap (of kind.Template) same.name ∙ t)))
    (λ t. html_steady above os o alike steady here
    (subst (λ m. Stands m os (place_of above)) (sym same.name)
    (html_stands above h kids os alike page rules html t once))
    (ap (of kind.Raw) same.name ∙ second_false raw html)
    (ap (place_in (is_in (of kind.Head) above)) same.name ∙ (rw html at place_is))))
    (λ foreign. around_steady above os alike steady
    (foreign_place above h kids page rules foreign) o
    (skip _ (space_html _ _ same ∙ foreign) refl))
