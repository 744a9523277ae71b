-- What holds of an element in plain flow.
use Rattle.std.proofs.{Common.{◌≡◌, ℕ, true, false, List, [], ◌∷◌, Some, None, inl, inr, refl, codes}, Math.Bool.{or-false}}
use Rattle.std.proofs.lemmas.Bool.{cases_Bool, false≢true, and_parts, not-true}
use Rattle.html_names_core.{proofs.Basics.{none_from_not_some}, specs.Displays.{default_display}}
use Rattle.html_names_core.specs.{Kinds.{is_replaced, replaced_names, is_line_break, shows_border}, Names.{stands_in}, Texts.{TextPair}}
use Rattle.html_dom_tree.{proofs.Folds.{first-append}, specs.Attributes.{first}}
use Rattle.html_dom_shown.specs.Collapsing.{has_border}
use Rattle.html_flow_convert.specs.{Converted.{RoleText, passes_role, role_pairs, element_head}, Items.{ElemHead}}
use Rattle.typst_html_spaces.{proofs.MadeHeads.{plain, MadeHead, listed_fail}, specs.PlainFlow.{is_plain_name, has_no_css, is_plain_head}}

no_css : (css : List TextPair) → has_no_css css ≡ true → css ≡ []
no_css [] e = refl
no_css (p ∷ ps) e = absurd (false≢true e)

-- a plain name, no css, and no attribute `style`
pub record PlainHead (h : ElemHead) : Type 0 where
  pub named : is_plain_name h.name ≡ true
  pub no_css : h.css ≡ []
  pub no_style : first h.attrs (codes "style") ≡ None

pub plain_head : (h : ElemHead) → is_plain_head h ≡ true → PlainHead h
plain_head h e =
    let both = and_parts _ _ e in
    let front = and_parts _ _ both.0 in
    record {
      named = front.0;
      no_css = no_css h.css front.1;
      no_style = none_from_not_some (first h.attrs (codes "style")) (not-true _ both.1);
    }

-- with a role it is made as plain flow makes it

role_no_style : (role : RoleText) → first (role_pairs role) (codes "style") ≡ None
role_no_style None = refl
role_no_style (Some text) = refl

element_no_style : (role : RoleText) (h : ElemHead) → first h.attrs (codes "style") ≡ None →
    first (element_head role h).attrs (codes "style") ≡ None
element_no_style role h e =
    elim (cases_Bool (passes_role h.name)) [
      | inl t ↦ rw t e
      | inr t ↦ rw (t, first-append h.attrs (role_pairs role) (codes "style"), e) (role_no_style role)
    ]

pub element_made : (role : RoleText) (h : ElemHead) → PlainHead h → MadeHead (element_head role h)
element_made role h p = record {
  kind = plain;
  css_is = p.no_css;
  no_style = element_no_style role h p.no_style;
  named = p.named;
  in_line = λ e. absurd (false≢true e);
}

pub plain_border : (name : List ℕ) (attrs : List TextPair) → first attrs (codes "style") ≡ None →
    has_border name attrs ≡ shows_border (default_display name)
unfolding has_border
plain_border name attrs e = rw e (or-false (shows_border (default_display name)))

-- replaced elements have no border, and are no line breaks

pub replaced_no_border : (name : List ℕ) → is_replaced name ≡ true →
    shows_border (default_display name) ≡ false
unfolding is_replaced default_display stands_in
replaced_no_border name e =
    listed_fail (λ n. shows_border (default_display n)) replaced_names name refl e

pub replaced_no_break : (name : List ℕ) → is_replaced name ≡ true → is_line_break name ≡ false
unfolding is_replaced stands_in
replaced_no_break name e = listed_fail is_line_break replaced_names name refl e
