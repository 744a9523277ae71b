-- Where the current node is a table, a section or a row, and where it is none of them.
use Rattle.std.proofs.Common.{◌≡◌, ℕ, Bool, true, false, not, ◌||◌, eqb, List, [], ◌∷◌, length, refl, sym, ap, subst, ◌∙◌, Some}
use Rattle.std.proofs.lemmas.{Bool.{and_from, and_left, and_parts, and_right, both_ways, false_from_ne_true, false≢true, or_from, or_left, or_right}, Option.{none-some}}
use Rattle.html_page_nesting.specs.{Ancestors.{Ancestor, is_in, place_of}, declared.reading.Place.{Place}}
use Rattle.html_page_nesting.specs.declared.reading.Place.TheVariants as place
use Rattle.html_page_names.specs.PageNames.{of}
use Rattle.html_page_names.specs.declared.kind.Kind.TheVariants as kind
use Rattle.html_page_stack.specs.OpenElements.{OpenElement, at, holds_html_in, holds_table_text, is_at, is_html, is_table_context, mode}
use Rattle.html_page_stack.specs.{Pages.{Page, StartTag, Start, Char, Taken, body_destination, with_char}, declared.modes.Destination.TheVariants.{Parent}}
use Rattle.html_page_stack.specs.declared.modes.{Mode.{Mode}, Space.{Space}}
use Rattle.html_page_stack.specs.declared.modes.Mode.TheVariants.{InHead, InHeadNoscript, InTable, InColumns, InSection, InRow, InTemplate}
use Rattle.html_page_stack.specs.declared.modes.Space.TheVariants as spaces
use Rattle.html_page_tree.specs.{PageBodies.{is_space}, PageTrees.{cleared_to, in_table, is_foreign_token, text_ended}}
use Rattle.typst_html_nesting_laws.proofs.{Alike.{mode_is, of_is, placed_html}, Branches.{of_two, pick, skip}}
use Rattle.typst_html_nesting_laws.proofs.{ClosedBefore.{while_not}, Modes.{mode_in, own_mode, place_test, placed, template_mode}, Turns.{read_mode}, Ways.{AreAlike, is_body_mode}}

-- the modes that they bring, and that of a `template`
abbrev pub is_table_mode : Mode → Bool
is_table_mode InTable = true
is_table_mode InSection = true
is_table_mode InRow = true
is_table_mode InTemplate = true
is_table_mode m = false

-- in another mode the current node is none of them
abbrev is_read_in_table : Mode → Bool
is_read_in_table m = is_table_mode (read_mode m)

pub outside_tables : (os : List OpenElement) → is_read_in_table (mode os) ≡ false →
    at is_table_context os ≡ false
outside_tables [] h = refl
outside_tables (o ∷ os) h = false_from_ne_true _ (λ e.
    let both = and_parts (is_html o.space) _ e in
    of_two both.1 (λ t. both_ways _ h (ap is_read_in_table (own_mode o os InTable both.0 t)))
    (λ r. of_two r (λ s. both_ways _ h (ap is_read_in_table (own_mode o os InSection both.0 s)))
    (λ s. both_ways _ h (ap is_read_in_table (own_mode o os InRow both.0 s)))))

none_read : (m : Mode) → is_table_mode m ≡ false → is_read_in_table m ≡ false
none_read InTemplate h = absurd (false≢true (sym h))
none_read m h = h

-- and there a text is not judged as a whole
pub outside_texts : (os : List OpenElement) → is_table_mode (mode os) ≡ false →
    at holds_table_text os ≡ false
outside_texts [] h = refl
outside_texts (o ∷ os) h = or_from _ _ (outside_tables (o ∷ os) (none_read _ h))
    (false_from_ne_true _ (λ e. let both = and_parts (is_html o.space) _ e in
    both_ways _ h (ap is_table_mode (template_mode o os both.0 both.1))))

-- so in a body
body_is_none : (m : Mode) → is_body_mode m ≡ true → is_table_mode m ≡ false
body_is_none InTable h = sym h
body_is_none InSection h = sym h
body_is_none InRow h = sym h
body_is_none InTemplate h = sym h
body_is_none m h = refl

pub outside_in_body : (os : List OpenElement) → is_body_mode (read_mode (mode os)) ≡ true →
    at is_table_context os ≡ false
outside_in_body os h = outside_tables os (body_is_none (read_mode (mode os)) h)

-- and where a start tag is read by the rules for SVG and MathML
pub outside_foreign : (tag : StartTag) (os : List OpenElement) →
    is_foreign_token (Start tag) os ≡ true → at is_table_context os ≡ false
outside_foreign tag [] h = refl
outside_foreign tag (o ∷ os) h = and_left (is_html o.space) _ (by_space o.space _ _ h) where
  by_space : (s : Space) (text svg : Bool) → not (holds_html_in s o || text || svg) ≡ true →
      is_html s ≡ false
  by_space spaces.Html text svg h = sym h
  by_space s text svg h = refl

-- there the rules of a body insert into the current node
pub parent_there : (os : List OpenElement) → at is_table_context os ≡ false →
    body_destination Parent os ≡ Parent
parent_there os h = skip _ h refl

-- and a text goes on
pub text_kept : (p : Page) → at holds_table_text p.stack ≡ false → text_ended p ≡ p
text_kept p h = skip _ (and_right _ _ h) refl

-- in the current node itself, nothing is closed up to it
pub none_cleared : (test : List ℕ → Bool) (p : Page) → is_at test p.stack ≡ true →
    cleared_to test p ≡ p
none_cleared test p h =
    let wider = λ (n : List ℕ). test n || of kind.Template n || of kind.Html n in
    while_not (λ os. not (is_at wider os)) (length p.stack) p (ap not (at_wider p.stack h)) where
      at_wider : (os : List OpenElement) → is_at test os ≡ true →
          is_at (λ n. test n || of kind.Template n || of kind.Html n) os ≡ true
      at_wider [] t = t
      at_wider (o ∷ os) t = let both = and_parts (is_html o.space) _ t in
          and_from _ _ both.0 (or_left _ _ (or_left _ _ both.1))

-- white space stands in them
at_texts : (os : List OpenElement) → at is_table_context os ≡ true → at holds_table_text os ≡ true
at_texts [] h = h
at_texts (o ∷ os) h = or_left _ _ h

pub white_in_table : (c : ℕ) (p : Page) → is_space c ≡ true → eqb c 0 ≡ false →
    at is_table_context p.stack ≡ true → in_table (Char c) p ≡ Taken (with_char c p)
white_in_table c p w some there =
    pick _ (at_texts p.stack there) (ap Taken (skip _ some (pick _ (or_right p.moved _ w) refl)))

pub inside_tables : (test : List ℕ → Bool) (os : List OpenElement) → ((n : List ℕ) →
    test n ≡ true → (of kind.Table n || (of kind.Section n || of kind.Tr n)) ≡ true) →
    is_at test os ≡ true → at is_table_context os ≡ true
inside_tables test [] t h = absurd (false≢true h)
inside_tables test (o ∷ os) t h =
    let both = and_parts (is_html o.space) _ h in and_from _ _ both.0 (t o.head.name both.1)

-- the current node of a place
abbrev pub IsAtPlace : Place → List OpenElement → Type 0
IsAtPlace place.Page os = Unit {0}
IsAtPlace place.Body os = Unit {0}
IsAtPlace place.Table os = is_at (of kind.Table) os ≡ true
IsAtPlace place.Section os = is_at (of kind.Section) os ≡ true
IsAtPlace place.Row os = is_at (of kind.Tr) os ≡ true
IsAtPlace p os = at is_table_context os ≡ false

named_there : (l : Place) (m : Mode) (test : List ℕ → Bool) → mode_in l ≡ Some m →
    ((b : Bool) (n : List ℕ) → place_test l b n ≡ test n) → (above : List Ancestor)
    (os : List OpenElement) → AreAlike above os → place_of above ≡ l → is_at test os ≡ true
named_there l m test i t [] os s e = absurd (none-some m (ap mode_in e ∙ i))
named_there l m test i t (a ∷ above) [] s e = absurd s
named_there l m test i t (a ∷ above) (o ∷ os) s e =
    let html = placed_html m a above (ap mode_in e ∙ i) in
    let b = is_in (of kind.Head) above in
    of_is test a o s.0 ∙ and_from _ _ html (sym (t b a.head.name)
    ∙ subst (λ p. place_test p b a.head.name ≡ true) (rw html at e) (placed b a.head.name))

unnamed_there : (m : Mode) (above : List Ancestor) (os : List OpenElement) → AreAlike above os →
    mode_in (place_of above) ≡ Some m → is_read_in_table m ≡ false →
    at is_table_context os ≡ false
unnamed_there m above os s e h =
    outside_tables os (ap is_read_in_table (mode_is m above os s e) ∙ h)

pub at_place : (l : Place) (above : List Ancestor) (os : List OpenElement) → AreAlike above os →
    place_of above ≡ l → IsAtPlace l os
at_place place.Page above os s e = tt
at_place place.Body above os s e = tt
at_place place.Table above os s e =
    named_there place.Table InTable (of kind.Table) refl (λ b n. refl) above os s e
at_place place.Section above os s e =
    named_there place.Section InSection (of kind.Section) refl (λ b n. refl) above os s e
at_place place.Row above os s e =
    named_there place.Row InRow (of kind.Tr) refl (λ b n. refl) above os s e
at_place place.Head above os s e = unnamed_there InHead above os s (ap mode_in e) refl
at_place place.HeadNoscript above os s e =
    unnamed_there InHeadNoscript above os s (ap mode_in e) refl
at_place place.Columns above os s e = unnamed_there InColumns above os s (ap mode_in e) refl
