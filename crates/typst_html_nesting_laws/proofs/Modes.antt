-- The mode that an element of HTML brings, that around it, and what may stand in it.
use Rattle.std.proofs.{Common.{◌≡◌, ℕ, Bool, true, false, ◌&&◌, List, ◌∷◌, length, map, refl, sym, ap, ◌∙◌}, Math.Dec.{eqb-suc-zero}}
use Rattle.std.{proofs.lemmas.{Bool.{and_parts, false_from_ne_true, false≢true}, Option.{none-some}}, specs.Prelude.{if◌then◌else◌, Option, Some, None}}
use Rattle.html_page_nesting.specs.{Ancestors.{place_in}, declared.reading.Place.{Place}}
use Rattle.html_page_nesting.specs.declared.reading.Place.TheVariants as place
use Rattle.html_page_names.specs.{PageNames.{kind_names, of}, declared.kind.Kind.{Kind}}
use Rattle.html_page_names.specs.declared.kind.Kind.TheVariants as kind
use Rattle.html_page_stack.specs.{OpenElements.{OpenElement, is_at, is_html, mode, mode_inside, named_mode}, declared.modes.Mode.{Mode}}
use Rattle.html_page_stack.specs.declared.modes.Mode.TheVariants.{InHead, InHeadNoscript, InText, InTable, InCaption, InColumns, InSection, InRow, InCell, InTemplate}
use Rattle.typst_html_nesting_laws.proofs.{KindFacts.{agree_of, names}, Turns.{is_told}}

-- an element of that name brings that mode, in which its own end tag ends it
abbrev pub brings : Mode → (name : List ℕ) → List OpenElement → Bool
brings InHead n os = of kind.Head n
brings InHeadNoscript n os = of kind.Noscript n && is_at (of kind.Head) os
brings InText n os = of kind.Raw n
brings InTable n os = of kind.Table n
brings InCaption n os = of kind.Caption n
brings InColumns n os = of kind.Colgroup n
brings InSection n os = of kind.Section n
brings InRow n os = of kind.Tr n
brings InCell n os = of kind.Cell n
brings m n os = false

pub brought_by : (n : List ℕ) (os : List OpenElement) (k : Kind) (m : Mode) → map (λ l. named_mode l os)
    (kind_names k) ≡ map (λ l. Some m) (kind_names k) → of k n ≡ true → named_mode n os ≡ Some m
brought_by n os k m same h = agree_of (λ l. named_mode l os) (λ l. Some m) k n same h

pub brought : (m : Mode) (n : List ℕ) (os : List OpenElement) → brings m n os ≡ true →
    named_mode n os ≡ Some m
unfolding names
brought InHead n os h = brought_by n os kind.Head InHead refl h
brought InHeadNoscript n os h =
    let both = and_parts _ _ h in
    let in_head = λ (b : Bool). if b then Some InHeadNoscript else None in
    agree_of (λ l. named_mode l os) (λ l. in_head (is_at (of kind.Head) os)) kind.Noscript n refl
    both.0 ∙ ap in_head both.1
brought InText n os h = brought_by n os kind.Raw InText refl h
brought InTable n os h = brought_by n os kind.Table InTable refl h
brought InCaption n os h = brought_by n os kind.Caption InCaption refl h
brought InColumns n os h = brought_by n os kind.Colgroup InColumns refl h
brought InSection n os h = brought_by n os kind.Section InSection refl h
brought InRow n os h = brought_by n os kind.Tr InRow refl h
brought InCell n os h = brought_by n os kind.Cell InCell refl h
brought _ n os h = absurd (false≢true h)

-- which the open elements tell
pub brings_told : (m : Mode) (n : List ℕ) (os : List OpenElement) → brings m n os ≡ true →
    is_told m ≡ true
brings_told InTemplate n os h = absurd (false≢true h)
brings_told m n os h = refl

-- an element that brings none is none of text alone
pub none_raw : (n : List ℕ) (os : List OpenElement) → named_mode n os ≡ None →
    of kind.Raw n ≡ false
none_raw n os e = false_from_ne_true _ (λ h. none-some InText (sym e ∙ brought InText n os h))

-- where such an element is the current one
pub own_mode : (o : OpenElement) (os : List OpenElement) (m : Mode) → is_html o.space ≡ true →
    brings m o.head.name os ≡ true → mode (o ∷ os) ≡ m
own_mode o os m html h = rw (html, brought m o.head.name os h) refl

-- where a `template` is
pub template_mode : (o : OpenElement) (os : List OpenElement) → is_html o.space ≡ true →
    of kind.Template o.head.name ≡ true → mode (o ∷ os) ≡ InTemplate
unfolding names
template_mode o os html h =
    rw (html, brought_by o.head.name os kind.Template InTemplate refl h) refl

-- an element that brings none stands in the mode around it, but never before the head
pub mode_around : (o q : OpenElement) (qs : List OpenElement) →
    (if is_html o.space then named_mode o.head.name (q ∷ qs) else None) ≡ None →
    mode (o ∷ q ∷ qs) ≡ mode_inside (mode (q ∷ qs))
mode_around o q qs h = rw (h, eqb-suc-zero (length qs)) refl

-- the mode of a place but a body
abbrev pub mode_in : Place → Option Mode
mode_in place.Page = None
mode_in place.Head = Some InHead
mode_in place.HeadNoscript = Some InHeadNoscript
mode_in place.Table = Some InTable
mode_in place.Section = Some InSection
mode_in place.Row = Some InRow
mode_in place.Columns = Some InColumns
mode_in place.Body = None

-- which the open elements tell
abbrev pub tells : Option Mode → Bool
tells None = true
tells (Some m) = is_told m

pub told_in : (l : Place) (m : Mode) → mode_in l ≡ Some m → is_told m ≡ true
told_in l m e = sym (ap tells e) ∙ told l where
  told : (l : Place) → tells (mode_in l) ≡ true
  told place.Page = refl
  told l = refl

-- the test that an element passes in which that place is, unless it is a body
abbrev pub place_test : Place → (is_in_head : Bool) → (name : List ℕ) → Bool
place_test place.Page b n = of kind.Html n
place_test place.Head b n = of kind.Head n
place_test place.HeadNoscript b n = of kind.Noscript n && b
place_test place.Table b n = of kind.Table n
place_test place.Section b n = of kind.Section n
place_test place.Row b n = of kind.Tr n
place_test place.Columns b n = of kind.Colgroup n
place_test place.Body b n = true

pub placed : (b : Bool) (n : List ℕ) → place_test (place_in b n) b n ≡ true
placed b n = first (of kind.Html n) place.Page _ (λ e. e)
    (first (of kind.Head n) place.Head _ (λ e. e)
    (first (of kind.Noscript n && b) place.HeadNoscript _ (λ e. e)
    (first (of kind.Table n) place.Table _ (λ e. e)
    (first (of kind.Section n) place.Section _ (λ e. e)
    (first (of kind.Tr n) place.Row _ (λ e. e)
    (first (of kind.Colgroup n) place.Columns place.Body (λ e. e) refl)))))) where
      first : (x : Bool) (p q : Place) → (x ≡ true → place_test p b n ≡ true) →
          place_test q b n ≡ true → place_test (if x then p else q) b n ≡ true
      first true p q h k = h refl
      first false p q h k = k

-- an element brings the mode of the place in it
pub place_mode : (n : List ℕ) (os : List OpenElement) (m : Mode) →
    mode_in (place_in (is_at (of kind.Head) os) n) ≡ Some m → named_mode n os ≡ Some m
place_mode n os m e =
    by_place (place_in (is_at (of kind.Head) os) n) (placed (is_at (of kind.Head) os) n) e where
      by_place : (p : Place) → place_test p (is_at (of kind.Head) os) n ≡ true →
          mode_in p ≡ Some m → named_mode n os ≡ Some m
      by_place place.Page h e = absurd (none-some m e)
      by_place place.Head h e = brought InHead n os h ∙ e
      by_place place.HeadNoscript h e = brought InHeadNoscript n os h ∙ e
      by_place place.Table h e = brought InTable n os h ∙ e
      by_place place.Section h e = brought InSection n os h ∙ e
      by_place place.Row h e = brought InRow n os h ∙ e
      by_place place.Columns h e = brought InColumns n os h ∙ e
      by_place place.Body h e = absurd (none-some m e)
