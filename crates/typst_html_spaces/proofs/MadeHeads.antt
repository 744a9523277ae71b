-- Elements that conversion makes: what their css can be, and what becomes of a lone one that stands
-- for its block.
use Rattle.std.proofs.Common.{◌≡◌, ℕ, Bool, true, false, not, ◌||◌, List, [], ◌∷◌, Option, Some, None, ◌⊎◌, inl, inr, refl, ap, ◌∙◌, sym, codes, bytes_eq}
use Rattle.std.proofs.lemmas.Bool.{both_ways, false_from_ne_true, false≢true, and_parts, or_cases, or_left, or_right, not-true}
use Rattle.std.specs.List.{list_all}
use lib.Utf8.{encode}
use Rattle.html_names_core.{proofs.Basics.{bytes_eq-same}, specs.Displays.{default_display}}
use Rattle.html_names_core.specs.Kinds.{is_replaced, replaced_names, shows_border}
use Rattle.html_names_core.specs.{Names.{stands_in}, Texts.{TextPair}, declared.property.Display.{Display}}
use Rattle.html_names_core.specs.declared.property.Display.TheVariants as display
use Rattle.html_values_css.specs.Properties.{with_property, without}
use Rattle.html_dom_tree.proofs.Folds.{first-append}
use Rattle.html_dom_tree.specs.{Attributes.{first}, Styled.{styled_attrs}, Tree.{Head, element_node, NodesView}}
use Rattle.html_dom_shown.specs.Collapsing.{preserves, has_border}
use Rattle.html_flow_convert.specs.BareSpaces.{is_border_element}
use Rattle.html_flow_convert.specs.LoneNode.{DisplayChangeView, removed, set_to, css_with_display, change_by_display, block_change}
use Rattle.typst_html_spaces.specs.PlainFlow.{is_inline, is_plain_name, unplain_names}

-- the css of what conversion makes
pub data MadeCss : Type 0 where
  plain : MadeCss
  block : MadeCss
  wrap : MadeCss
  block_wrap : MadeCss

abbrev pub made_css : MadeCss → List TextPair
made_css plain = []
made_css block = (codes "display", codes "block") ∷ []
made_css wrap = (codes "white-space", codes "pre-wrap") ∷ []
made_css block_wrap =
    (codes "display", codes "block") ∷ (codes "white-space", codes "pre-wrap") ∷ []

abbrev pub made_style : MadeCss → Option (List ℕ)
made_style plain = None
made_style block = Some (codes "display: block")
made_style wrap = Some (codes "white-space: pre-wrap")
made_style block_wrap = Some (codes "display: block; white-space: pre-wrap")

abbrev pub is_wrap : MadeCss → Bool
is_wrap wrap = true
is_wrap block_wrap = true
is_wrap c = false

pub made_style_is : (c : MadeCss) (attrs : List TextPair) → first attrs (codes "style") ≡ None →
    first (styled_attrs (made_css c) attrs) (codes "style") ≡ made_style c
made_style_is plain attrs e = e
made_style_is c attrs e = rw (e, first-append, e) refl

-- an element as conversion makes it in plain flow
pub record MadeHead (h : Head) : Type 0 where
  pub kind : MadeCss
  pub css_is : h.css ≡ made_css kind
  pub no_style : first h.attrs (codes "style") ≡ None
  pub named : is_plain_name h.name ≡ true
  pub in_line : is_wrap kind ≡ true → shows_border (default_display h.name) ≡ false

pub head_style_is : (h : Head) (m : MadeHead h) →
    first (styled_attrs h.css h.attrs) (codes "style") ≡ made_style m.kind
head_style_is h m = ap (λ c. first (styled_attrs c h.attrs) (codes "style")) m.css_is
    ∙ made_style_is m.kind h.attrs m.no_style

-- `display` in css

with_block : MadeCss → MadeCss
with_block plain = block
with_block block = block
with_block wrap = block_wrap
with_block block_wrap = block_wrap

without_block : MadeCss → MadeCss
without_block plain = plain
without_block block = plain
without_block wrap = wrap
without_block block_wrap = wrap

block_css : (c : MadeCss) →
    with_property (made_css c) (codes "display") (codes "block") ≡ made_css (with_block c)
unfolding with_block lib.Utf8.encode
block_css plain = refl
block_css c = refl

removed_css : (c : MadeCss) → without (made_css c) (codes "display") ≡ made_css (without_block c)
unfolding without_block lib.Utf8.encode
removed_css plain = refl
removed_css c = refl

block_wraps : (c : MadeCss) → is_wrap (with_block c) ≡ is_wrap c
unfolding with_block
block_wraps plain = refl
block_wraps c = refl

removed_wraps : (c : MadeCss) → is_wrap (without_block c) ≡ is_wrap c
unfolding without_block
removed_wraps plain = refl
removed_wraps c = refl

-- names

-- shown neither as a line nor as a block
abbrev pub is_away : Option Display → Bool
is_away (Some display.None) = true
is_away (Some display.Contents) = true
is_away (Some display.TableColumn) = true
is_away (Some display.TableColumnGroup) = true
is_away _ = false

is_there : (d : Option Display) → (is_inline d || shows_border d) ≡ true → is_away d ≡ false
is_there (Some display.None) e = absurd (false≢true e)
is_there (Some display.Contents) e = absurd (false≢true e)
is_there (Some display.TableColumn) e = absurd (false≢true e)
is_there (Some display.TableColumnGroup) e = absurd (false≢true e)
is_there _ e = refl

-- what each name of a list passes
pub listed_pass : (p : List ℕ → Bool) (names : List (List ℕ)) (name : List ℕ) →
    list_all p names ≡ true → stands_in names name ≡ true → p name ≡ true
unfolding stands_in
listed_pass p [] name a e = absurd (false≢true e)
listed_pass p (n ∷ ns) name a e =
    let both = and_parts (p n) (list_all p ns) a in
    elim (or_cases _ _ e) [
      | inl t ↦ rw (← bytes_eq-same n name t) both.0
      | inr t ↦ listed_pass p ns name both.1 t
    ]

-- what each fails
pub listed_fail : (p : List ℕ → Bool) (names : List (List ℕ)) (name : List ℕ) →
    list_all (λ n. not (p n)) names ≡ true → stands_in names name ≡ true → p name ≡ false
listed_fail p names name a e = not-true _ (listed_pass (λ n. not (p n)) names name a e)

replaced_is_there : (name : List ℕ) → is_replaced name ≡ true →
    is_away (default_display name) ≡ false
unfolding is_replaced default_display stands_in
replaced_is_there name e =
    listed_fail (λ n. is_away (default_display n)) replaced_names name refl e

pub plain_is_there : (name : List ℕ) → is_plain_name name ≡ true →
    is_away (default_display name) ≡ false
unfolding is_plain_name
plain_is_there name e =
    let line = is_inline (default_display name) in
    let border = shows_border (default_display name) in
    let shown = and_parts (is_replaced name || line || border) (not (stands_in unplain_names name)) e in
    elim (or_cases (is_replaced name || line) border shown.0) [
      | inl f ↦ elim (or_cases (is_replaced name) line f) [
        | inl g ↦ replaced_is_there name g
        | inr g ↦ is_there (default_display name) (or_left line border g)
      ]
      | inr f ↦ is_there (default_display name) (or_right line border f)
    ]

-- a plain name is none that is not plain
pub not_named : (own name : List ℕ) → is_plain_name own ≡ false → is_plain_name name ≡ true →
    bytes_eq name own ≡ false
not_named own name f e = false_from_ne_true _
    (λ t. both_ways _ (ap is_plain_name (bytes_eq-same _ _ t) ∙ f) e)

math_is_not_plain : is_plain_name (codes "math") ≡ false
unfolding is_plain_name is_replaced default_display stands_in
math_is_not_plain = refl

pub plain_is_no_math : (name : List ℕ) → is_plain_name name ≡ true →
    bytes_eq name (codes "math") ≡ false
plain_is_no_math name e = not_named (codes "math") name math_is_not_plain e

change_cases : (d : Option Display) (c : DisplayChangeView) → change_by_display d ≡ Some c →
    (c ≡ set_to (codes "block")) ⊎ ((c ≡ removed) × ((shows_border d ≡ true) ⊎ (is_away d ≡ true)))
change_cases None c e = inl (cc)
change_cases (Some display.None) c e = inr (cc, inr refl)
change_cases (Some display.Contents) c e = inr (cc, inr refl)
change_cases (Some display.Block) c e = inr (cc, inl refl)
change_cases (Some display.Table) c e = inr (cc, inl refl)
change_cases (Some display.ListItem) c e = inr (cc, inl refl)
change_cases (Some display.Inline) c e = inl (cc)
change_cases (Some display.InlineBlock) c e = inl (cc)
change_cases _ c e = cc

-- a lone element that stands for its block

style_border : (name : List ℕ) (attrs : List TextPair) (c : MadeCss) →
    first attrs (codes "style") ≡ made_style (with_block c) → has_border name attrs ≡ true
unfolding has_border with_block
style_border name attrs plain e = rw e (or_right _ _ refl)
style_border name attrs c e = rw e (or_right _ _ refl)

name_border : (name : List ℕ) (attrs : List TextPair) → shows_border (default_display name) ≡ true →
    has_border name attrs ≡ true
unfolding has_border
name_border name attrs e = rw e refl

pub wrap_preserves : (name : List ℕ) (attrs : List TextPair) (c : MadeCss) →
    first attrs (codes "style") ≡ made_style c →
    preserves name attrs ≡ (bytes_eq name (codes "pre") || is_wrap c)
unfolding preserves
wrap_preserves name attrs plain e = rw e refl
wrap_preserves name attrs c e = rw e refl

css_border : (h : Head) (c : MadeCss) (css : List TextPair) → css ≡ made_css (with_block c) →
    is_border_element (record h { css = css }) ≡ true
unfolding is_border_element with_block
css_border h plain css e = rw e refl
css_border h c css e = rw e refl

pub name_is_border : (h : Head) → shows_border (default_display h.name) ≡ true → is_border_element h ≡ true
unfolding is_border_element
name_is_border h e = or_right _ _ (or_right _ _ e)

-- the element with its new css
pub record StandsForBlock (h : Head) (css : List TextPair) : Type 0 where
  pub made : MadeHead (record h { css = css })
  pub borders : has_border h.name (styled_attrs css h.attrs) ≡ true
  pub preserved : preserves h.name (styled_attrs css h.attrs)
      ≡ preserves h.name (styled_attrs h.css h.attrs)
  pub is_one : is_border_element (record h { css = css }) ≡ true

stands_as : (h : Head) (m : MadeHead h) (css : List TextPair) (k : MadeCss) → css ≡ made_css k →
    is_wrap k ≡ is_wrap m.kind →
    (first (styled_attrs css h.attrs) (codes "style") ≡ made_style k →
    has_border h.name (styled_attrs css h.attrs) ≡ true) →
    is_border_element (record h { css = css }) ≡ true → StandsForBlock h css
stands_as h m css k c w borders one =
    let style = ap (λ l. first (styled_attrs l h.attrs) (codes "style")) c
    ∙ made_style_is k h.attrs m.no_style in
    record {
      made = record {
        kind = k;
        css_is = c;
        no_style = m.no_style;
        named = m.named;
        in_line = λ e. m.in_line (sym w ∙ e);
      };
      borders = borders style;
      preserved = wrap_preserves h.name (styled_attrs css h.attrs) k style
          ∙ (ap (λ b. bytes_eq h.name (codes "pre") || b) w
          ∙ sym (wrap_preserves h.name (styled_attrs h.css h.attrs) m.kind (head_style_is h m)));
      is_one = one;
    }

set_block : (h : Head) (m : MadeHead h) (css : List TextPair) →
    with_property h.css (codes "display") (codes "block") ≡ css → StandsForBlock h css
set_block h m css e =
    let c : css ≡ made_css (with_block m.kind) = sym e
    ∙ (ap (λ l. with_property l (codes "display") (codes "block")) m.css_is ∙ block_css m.kind) in
    stands_as h m css (with_block m.kind) c (block_wraps m.kind)
    (style_border h.name (styled_attrs css h.attrs) m.kind) (css_border h m.kind css c)

drop_block : (h : Head) (m : MadeHead h) (css : List TextPair) →
    without h.css (codes "display") ≡ css → shows_border (default_display h.name) ≡ true →
    StandsForBlock h css
drop_block h m css e s =
    let c : css ≡ made_css (without_block m.kind) = sym e
    ∙ (ap (λ l. without l (codes "display")) m.css_is ∙ removed_css m.kind) in
    stands_as h m css (without_block m.kind) c (removed_wraps m.kind)
    (λ f. name_border h.name (styled_attrs css h.attrs) s)
    (name_is_border (record h { css = css }) s)

pub stands_for_block : (h : Head) (ns : NodesView) (c : DisplayChangeView) → MadeHead h →
    block_change (element_node h ns) ≡ Some c → StandsForBlock h (css_with_display c h.css)
stands_for_block h ns c m e =
    let f : change_by_display (default_display h.name) ≡ Some c =
    rw (plain_is_no_math h.name m.named) at e in
    elim (change_cases (default_display h.name) c f) [
      | inl g ↦ rw g (set_block h m (css_with_display (set_to (codes "block")) h.css) refl)
      | inr g ↦ elim (g.1) [
        | inl s ↦ rw g.0 (drop_block h m (css_with_display removed h.css) refl s)
        | inr s ↦ absurd (false≢true (sym (plain_is_there h.name m.named) ∙ s))
      ]
    ]
