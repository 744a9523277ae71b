-- Texts that are added to the current node, and nothing else is done.
use Rattle.std.{proofs.Common.{◌≡◌, ℕ, Bool, true, false, eqb, List, [], ◌∷◌, refl, sym, ap, ◌∙◌}, specs.Prelude.{Some}}
use Rattle.std.proofs.lemmas.Bool.{false≢true, or_left, or_right}
use Rattle.html_page_nesting.specs.{Ancestors.{Ancestor, place_of}, WrittenTexts.{is_white_char}, declared.reading.Place.{Place}}
use Rattle.html_page_nesting.specs.declared.reading.Place.TheVariants as place
use Rattle.html_page_names.specs.PageNames.{of}
use Rattle.html_page_names.specs.declared.kind.Kind.TheVariants as kind
use Rattle.html_page_stack.specs.{Formats.{ends_closed}, OpenElements.{OpenElement, is_html, mode}, Pages.{Page, Char, Taken, with_char}}
use Rattle.html_page_stack.specs.declared.modes.Mode.{Mode, TheVariants.{InBody, InText, InCaption, InCell, InTemplate}}
use Rattle.html_page_stack.specs.declared.modes.FramesetRule.TheVariants as frameset
use Rattle.html_page_stack.specs.declared.modes.Space.TheVariants as spaces
use Rattle.html_page_tree.specs.{PageBodies.{barred_by_char, char_in_body, is_space}, PageTrees.{by_mode, is_foreign_token, page_mode, turn}}
use Rattle.typst_html_nesting_laws.proofs.{Alike.{html_space, mode_is, placed_html}, Branches.{either, skip}, ListedFormats.{none_closed}, Modes.{mode_in, own_mode, told_in}}
use Rattle.typst_html_nesting_laws.proofs.{Readers.{Takes, texted}, Tables.{IsAtPlace, at_place, inside_tables, white_in_table}, Templates.{mode_passes}, Turns.{html_token, mode_taken, read_mode, turn_taken}}
use Rattle.typst_html_nesting_laws.proofs.Ways.{AreAlike, IsCalm, IsSteady, is_body_mode, is_page_place}

-- the modes that take any text
abbrev is_text_mode : Mode → Bool
is_text_mode InText = true
is_text_mode m = is_body_mode (read_mode m)

-- a character, where no formatting element is made again
module _ (c : ℕ) (q : Page) (some : eqb c 0 ≡ false) (barred : q.framesets ≡ frameset.Ignored)
    (kept : ends_closed q.stack q.formats ≡ false) where
  -- no frameset may come any more
  barred_still : barred_by_char c q ≡ q
  barred_still = either (is_space c) (λ e. refl)
      (λ e. ap (λ r. record q { framesets = r }) (sym barred))

  in_body_taken : char_in_body c q ≡ with_char c q
  in_body_taken = skip _ some (ap (λ r. with_char c (barred_by_char c r)) (skip _ kept refl)
      ∙ ap (with_char c) barred_still)

  mode_text : (m : Mode) → is_text_mode m ≡ true → by_mode m (Char c) q ≡ Taken (with_char c q)
  mode_text InText h = refl
  mode_text InBody h = ap Taken in_body_taken
  mode_text InCaption h = ap Taken in_body_taken
  mode_text InCell h = ap Taken in_body_taken
  mode_text InTemplate h = ap Taken in_body_taken
  mode_text _ h = absurd (false≢true h)

  turn_text : is_text_mode (page_mode q) ≡ true → turn (Char c) q ≡ Taken (with_char c q)
  turn_text h = either (is_foreign_token (Char c) q.stack)
      (λ e. ap Taken (rw some (ap (with_char c) barred_still))) (λ e. mode_text (page_mode q) h)

-- in such a mode each character is taken
all_taken : (above : List Ancestor) (p : Page) → IsCalm above p →
    is_text_mode (mode p.stack) ≡ true → Takes (λ c. true) p
all_taken above p calm h c text start passes some =
    let q : Page = texted text start p in
    turn_taken (Char c) q (with_char c q) refl calm.tables
    (turn_text c q some calm.framesets (none_closed p.stack p.formats calm.ordered)
    (mode_passes is_text_mode refl refl q calm.framesets calm.modes h))

body_text : (m : Mode) → is_body_mode (read_mode m) ≡ true → is_text_mode m ≡ true
body_text InText h = refl
body_text m h = h

-- in a body
pub body_takes : (above : List Ancestor) (p : Page) → IsCalm above p → IsSteady above p.stack →
    place_of above ≡ place.Body → Takes (λ c. true) p
body_takes above p calm steady e = all_taken above p calm (body_text (mode p.stack) (steady e))

-- in an element of text alone
pub raw_takes : (above : List Ancestor) (p : Page) (o : OpenElement) (os : List OpenElement) →
    IsCalm above p → p.stack ≡ o ∷ os → o.space ≡ spaces.Html → of kind.Raw o.head.name ≡ true →
    Takes (λ c. true) p
raw_takes above p o os calm e html raw = all_taken above p calm
    (ap is_text_mode (ap mode e ∙ own_mode o os InText (ap is_html html) raw))

-- a place whose mode takes white space
record IsWhite (p : Place) : Type 0 where
  pub mode : Mode
  pub is : mode_in p ≡ Some mode
  pub read : (c : ℕ) (q : Page) → is_white_char c ≡ true → eqb c 0 ≡ false →
      IsAtPlace p q.stack → by_mode mode (Char c) q ≡ Taken (with_char c q)

white_place : (p : Place) → is_page_place p ≡ false → (p ≡ place.Body → ⊥) → IsWhite p
white_place place.Page page body = absurd (false≢true (sym page))
white_place place.Body page body = absurd (body refl)
white_place place.Table page body = record {
  mode = _;
  is = refl;
  read = λ c q w some there. white_in_table c q w some
      (inside_tables (of kind.Table) q.stack (λ n h. or_left _ _ h) there);
}
white_place place.Section page body = record {
  mode = _;
  is = refl;
  read = λ c q w some there. white_in_table c q w some (inside_tables (of kind.Section) q.stack
      (λ n h. or_right (of kind.Table n) _ (or_left _ _ h)) there);
}
white_place place.Row page body = record {
  mode = _;
  is = refl;
  read = λ c q w some there. white_in_table c q w some (inside_tables (of kind.Tr) q.stack
      (λ n h. or_right (of kind.Table n) _ (or_right (of kind.Section n) _ h)) there);
}
white_place p page body = record { mode = _; is = refl; read = λ c q w some there. rw w refl }

-- it is an element of HTML
white_html : (m : Mode) (above : List Ancestor) (os : List OpenElement) → AreAlike above os →
    mode_in (place_of above) ≡ Some m → (c : ℕ) → is_foreign_token (Char c) os ≡ false
white_html m [] [] alike e c = refl
white_html m (a ∷ above) (o ∷ os) alike e c = html_token (Char c) o os
    (alike.0.space ∙ html_space _ (placed_html m a above e))
white_html m above os alike e c = absurd alike

-- where no text may stand
pub white_takes : (above : List Ancestor) (p : Page) → IsCalm above p → is_page_place
    (place_of above) ≡ false → (place_of above ≡ place.Body → ⊥) → Takes is_white_char p
white_takes above p calm page body c text start passes some =
    let w = white_place (place_of above) page body in
    let q : Page = texted text start p in
    mode_taken (Char c) q w.mode (with_char c q) refl calm.tables calm.framesets
    (told_in (place_of above) w.mode w.is) (white_html w.mode above p.stack calm.alike w.is c)
    (mode_is w.mode above p.stack calm.alike w.is) (w.read c q passes some
    (at_place (place_of above) above p.stack calm.alike refl))
