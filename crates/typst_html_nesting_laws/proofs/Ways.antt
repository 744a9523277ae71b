-- The way from the root to a node, as its list of ancestors and as the stack of open elements.
use Rattle.std.proofs.Common.{◌≡◌, ℕ, Bool, true, false, not, ◌&&◌, ◌||◌, List, [], ◌∷◌, Some, None}
use Rattle.std.specs.Prelude.{if◌then◌else◌, Option}
use Rattle.html_names_core.specs.Kinds.{is_foreign_self_closing, is_void}
use Rattle.html_dom_tree.specs.Tree.{Head, none}
use Rattle.html_page_nesting.specs.{Ancestors.{Ancestor, place_of, reading_of, space_of}, declared.reading.{Place.{Place}, Space.{Space}}}
use Rattle.html_page_nesting.specs.declared.reading.Place.TheVariants as place
use Rattle.html_page_nesting.specs.declared.reading.Space.TheVariants as nest
use Rattle.html_page_names.specs.PageNames.{of}
use Rattle.html_page_names.specs.declared.kind.Kind.TheVariants as kind
use Rattle.html_page_stack.specs.{OpenElements.{OpenElement, has, is_of, mode}, Pages.{Page, page_head, settled, with_element}}
use Rattle.html_page_stack.specs.declared.modes.Destination.TheVariants.{Parent}
use Rattle.html_page_stack.specs.declared.modes.{Mode.{Mode, TheVariants.{InBody, InCaption, InCell}}, Space.Space as OpenSpace}
use Rattle.html_page_stack.specs.declared.modes.FramesetRule.TheVariants as frameset
use Rattle.html_page_stack.specs.declared.modes.Space.TheVariants as spaces
use Rattle.html_page_stack.specs.declared.modes.TableRule.TheVariants as rule
use Rattle.typst_html_nesting_laws.proofs.{ListedFormats.{IsInOrder}, Templates.{are_modes, modes_in}, Turns.{read_mode}}

-- a namespace, as the reader names it
abbrev pub open_space : Space → OpenSpace
open_space nest.Html = spaces.Html
open_space nest.Svg = spaces.Svg
open_space nest.MathMl = spaces.MathMl

-- an ancestor, and the open element that it is
pub record IsAlike (a : Ancestor) (o : OpenElement) : Type 0 where
  pub name : o.head.name ≡ a.head.name
  pub attrs : o.head.attrs ≡ a.head.attrs
  pub space : o.space ≡ open_space a.space

abbrev pub AreAlike : List Ancestor → List OpenElement → Type 0
AreAlike [] [] = Unit {0}
AreAlike (a ∷ above) (o ∷ os) = IsAlike a o × AreAlike above os
AreAlike above os = ⊥

-- the span of the innermost open form in no `template`
abbrev pub form_of : List OpenElement → Option ℕ
form_of [] = None
form_of (o ∷ os) = if not (has (of kind.Template) os) && is_of (of kind.Form) o
    then Some o.head.span else form_of os

-- the list of active formatting elements, the modes of templates and the form are those of these
-- open elements, no text is moved, and no frameset is or was there
pub record AreBegun (os : List OpenElement) (p : Page) : Type 0 where
  pub ordered : IsInOrder os p.formats
  pub modes : are_modes os p.templates ≡ true
  pub form : p.form ≡ form_of os
  pub moved : p.moved ≡ false
  pub framesets : p.framesets ≡ frameset.Ignored

-- a page in which these elements are open, and nothing else is out of order
pub record IsCalm (above : List Ancestor) (p : Page) : Type 0 where
  pub alike : AreAlike above p.stack
  pub ordered : IsInOrder p.stack p.formats
  pub modes : are_modes p.stack p.templates ≡ true
  pub form : p.form ≡ form_of p.stack
  pub moved : p.moved ≡ false
  pub framesets : p.framesets ≡ frameset.Ignored
  pub unmade : p.unmade ≡ []
  pub tables : p.tables ≡ rule.ClosesP

-- the modes in which elements and texts of a body stand
abbrev pub is_body_mode : Mode → Bool
is_body_mode InBody = true
is_body_mode InCaption = true
is_body_mode InCell = true
is_body_mode m = false

-- where the place is that of a body, elements are read in a mode of one
abbrev pub IsSteady : List Ancestor → List OpenElement → Type 0
IsSteady above os = place_of above ≡ place.Body → is_body_mode (read_mode (mode os)) ≡ true

abbrev pub is_page_place : Place → Bool
is_page_place place.Page = true
is_page_place p = false

-- an element that is its start tag alone
abbrev pub ends_at_once : Head → Bool
ends_at_once h = is_foreign_self_closing h.name || is_void h.name

-- an element, once its start tag is read
abbrev pub begun_element : Head → (above : List Ancestor) → (start : ℕ) → OpenElement
begun_element h above start = record {
  head = page_head h.name h.attrs start;
  space = open_space (space_of (reading_of above) h.name);
  destination = Parent;
  children = none;
  behind = none;
}

abbrev pub begun : Head → (above : List Ancestor) → Page → Page
begun h above p = record (with_element (begun_element h above p.start) (settled p)) {
  templates = modes_in (begun_element h above p.start) p.templates;
}
