-- The start tag of an element that stays in SVG or MathML opens it, and does nothing else.
use Rattle.std.proofs.{Common.{◌≡◌, ℕ, ◌<◌, false, ◌||◌, List, length, inl, inr, refl, sym, ap, ◌∙◌}, Math.Bool.{or-false}}
use Rattle.std.specs.Prelude.{if◌then◌else◌}
use Rattle.std.proofs.lemmas.Bool.{and_cases, and_left, and_right, or_from, or_parts}
use Rattle.html_names_core.specs.Kinds.{is_foreign_self_closing}
use Rattle.html_dom_tree.specs.Tree.{Head, NodesView}
use Rattle.html_page_nesting.specs.{Ancestors.{Ancestor, begun_space, foreign_space, is_read_as_html, reading_of, space_of}, WrittenTags.{capital_attrs, capital_tags}}
use Rattle.html_page_nesting.specs.declared.reading.{Reading.{Reading}, Space.{Space, TheVariants.{Html}}}
use Rattle.html_page_nesting.specs.declared.reading.Reading.TheVariants as reading
use Rattle.html_page_nesting.specs.NestingRules as rules
use Rattle.html_page_names.specs.{ForeignNames.{is_font_attr, lowered}, PageNames.{of}}
use Rattle.html_page_names.specs.declared.kind.Kind.TheVariants as kind
use Rattle.html_page_stack.specs.{OpenElements.{at, is_html, is_table_context}, Pages.{Page, Start, Taken}}
use Rattle.html_page_tree.specs.{PageBodies.{entered}, PageTrees.{breaks_out, in_foreign}}
use Rattle.typst_html_nesting_laws.proofs.{Alike.{space_is}, Branches.{skip}, Capitals.{attrs_fail, fails_small}, KeptTags.{begun_plain, entered_back}}
use Rattle.typst_html_nesting_laws.proofs.{KindFacts.{AllFail, names}, Opened.{one_of}, Readers.{written_tag}}
use Rattle.typst_html_nesting_laws.proofs.{Rules.{StaysForeign, TagFits}, Ways.{IsCalm, begun, ends_at_once, open_space}}

-- no name with capitals is in small letters one that closes SVG and MathML
capitals_stay : (s : Space) → AllFail (λ m. of kind.Breakout (lowered m)) (capital_tags s)
    × AllFail (λ m. of kind.Font (lowered m)) (capital_tags s)
    × AllFail (λ m. is_font_attr (lowered m)) (capital_attrs s)
unfolding names is_font_attr
capitals_stay Html = (refl, refl, refl)
capitals_stay s = (refl, refl, refl)

stays_inside : (s : Space) (h : Head) → TagFits s h → rules.breaks_out h ≡ false →
    breaks_out (written_tag h) ≡ false
stays_inside s h kept e =
    let both = or_parts _ _ e in
    let stay = capitals_stay s in
    or_from _ _ (fails_small (of kind.Breakout) (capital_tags s) h.name kept.case stay.0 both.0)
    (elim (and_cases _ _ both.1) [
      | inl f ↦ and_left _ _ (fails_small (of kind.Font) (capital_tags s) h.name kept.case stay.1 f)
      | inr f ↦ and_right _ _
          (attrs_fail (capital_attrs s) is_font_attr h.attrs kept.attrs stay.2 f)
    ])

-- it is no element of HTML
not_html : (r : Reading) (n : List ℕ) → is_read_as_html r n ≡ false →
    is_html (open_space (space_of r n)) ≡ false
not_html r n e = ap (λ b. is_html (open_space (if b then begun_space n else foreign_space r))) e
    ∙ foreign r where
      foreign : (r : Reading) → is_html (open_space (foreign_space r)) ≡ false
      foreign reading.AsSvg = refl
      foreign r = refl

pub foreign_taken : (above : List Ancestor) (h : Head) (kids : NodesView) (p : Page) →
    IsCalm above p → TagFits (space_of (reading_of above) h.name) h → length p.stack < p.limit →
    at is_table_context p.stack ≡ false → is_read_as_html (reading_of above) h.name ≡ false →
    StaysForeign h kids →
    in_foreign (Start (written_tag h)) p ≡ Taken (one_of (ends_at_once h) (begun h above p))
foreign_taken above h kids p calm kept fits outside foreign stays =
    let s = space_of (reading_of above) h.name in
    let own = is_foreign_self_closing h.name in
    skip _ (stays_inside s h kept stays.inside)
    (ap (λ x. Taken (entered x (written_tag h) p))
    (space_is h.name above p.stack calm.alike foreign)
    ∙ (ap Taken (entered_back h p fits outside s kept ∙ ap (one_of own)
    (begun_plain h above p (and_left _ _ (not_html (reading_of above) h.name foreign))))
    ∙ ap (λ b. Taken (one_of b (begun h above p)))
    (sym (ap (λ b. own || b) stays.filled ∙ or-false own))))
