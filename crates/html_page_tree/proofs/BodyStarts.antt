-- Such a start tag is read by the rules of a body.
use Rattle.std.proofs.Common.{◌≡◌, Bool, true, false, not, ◌&&◌, ◌||◌, List, [], ◌∷◌, refl, ap, ◌∙◌}
use Rattle.std.{proofs.lemmas.Bool.{and_parts, false≢true, not-true}, specs.Prelude.{if◌then◌else◌}}
use Rattle.html_page_names.specs.PageNames.{of}
use Rattle.html_page_names.specs.declared.kind.Kind.TheVariants as kind
use Rattle.html_page_stack.specs.{OpenElements.{OpenElement, holds_html_in, holds_text_in, is_html, is_in_foreign, mode}, Pages.{Page, Start, StartTag}}
use Rattle.html_page_stack.specs.declared.modes.{Mode.{Mode}, Space.{Space}, Mode.TheVariants.{InBody, InCell}}
use Rattle.html_page_stack.specs.declared.modes.Space.TheVariants.{Html, Svg, MathMl, Removed}
use Rattle.html_page_tree.specs.{BodyStarts.{begins_in, begins_in_body}, PageBodies.{in_body_start}}
use Rattle.html_page_tree.specs.PageTrees.{by_mode, holds_svg_in, in_foreign, is_foreign_token, mode_within, page_mode, turn}

stands : (s : Space) (o : OpenElement) (b c : Bool) → not (not (is_html s)) ≡ true →
    not (holds_html_in s o || (holds_text_in s o && b) || (holds_svg_in s o && c)) ≡ false
stands Html o b c h = refl
stands Svg o b c h = absurd (false≢true h)
stands MathMl o b c h = absurd (false≢true h)
stands Removed o b c h = absurd (false≢true h)

no_foreign : (t : StartTag) (os : List OpenElement) → not (is_in_foreign os) ≡ true →
    is_foreign_token (Start t) os ≡ false
no_foreign t [] h = refl
no_foreign t (o ∷ os) h = stands o.space o _ _ h

in_mode : (m : Mode) (t : StartTag) (p : Page) → begins_in m t.name ≡ true →
    by_mode (mode_within m p.templates p.framesets) (Start t) p ≡ in_body_start t p
in_mode InBody t p h = refl
in_mode InCell t p h = rw (not-true (of kind.TablePart t.name) h) refl
in_mode _ t p h = absurd (false≢true h)

pub start_turn : (t : StartTag) (p : Page) → begins_in_body t.name p ≡ true →
    turn (Start t) p ≡ in_body_start t p
start_turn t p h =
    let both = and_parts (not (is_in_foreign p.stack)) _ h in
    ap (λ b. if b then in_foreign (Start t) p else by_mode (page_mode p) (Start t) p)
    (no_foreign t p.stack both.0)
    ∙ in_mode (mode p.stack) t p both.1
