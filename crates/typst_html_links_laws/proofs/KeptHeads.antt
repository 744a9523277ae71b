-- Changes of attributes that bring no `href`: others behind them, a changed value, a `style`, a role.
use Rattle.std.proofs.Common.{◌≡◌, ℕ, Bool, true, false, List, [], ◌∷◌, ◌++◌, ◌&&◌, Option, Some, None, inl, inr, codes, bytes_eq, refl, ap, ◌∙◌}
use Rattle.std.{proofs.lemmas.Bool.{cases_Bool}, specs.Prelude.{if◌then◌else◌, is_some}}
use Rattle.html_values_css.specs.Properties.{inline_text}
use Rattle.html_dom_tree.proofs.Folds.{first-append}
use Rattle.html_dom_tree.specs.{Attributes.{first, has_name, or_else, with_value}, Styled.{attrs_with_style, head_with_style, styled_attrs}}
use Rattle.html_dom_tree.specs.Tree.{TextPair, Head}
use Rattle.html_page_findings.specs.Hyperlinks.{is_hyperlink, HeadIsNoHyperlink, may_link}
use Rattle.html_flow_convert.specs.{Converted.{RoleText, passes_role, role_pairs, element_head}, Items.{ElemHead}}

more_behind : (attrs more : List TextPair) (name : List ℕ) → has_name more name ≡ false →
    has_name (attrs ++ more) name ≡ has_name attrs name
more_behind attrs more name lacks =
    ap is_some (first-append attrs more name) ∙ by (first attrs name)
  where
    by : (o : Option (List ℕ)) → is_some (or_else o (first more name)) ≡ is_some o
    by None = lacks
    by (Some value) = refl

new_value : (attrs : List TextPair) (changed value name : List ℕ) →
    has_name (with_value attrs changed value) name ≡ has_name attrs name
new_value [] changed value name = refl
new_value (p ∷ ps) changed value name = elim (cases_Bool (bytes_eq p.0 changed)) [
  | inl c ↦ elim (cases_Bool (bytes_eq p.0 name)) [ inl n ↦ rw (c, n) refl | inr n ↦ rw (c, n) refl ]
  | inr c ↦ elim (cases_Bool (bytes_eq p.0 name)) [
    | inl n ↦ rw (c, n) refl
    | inr n ↦ rw (c, n) (new_value ps changed value name)
  ]
]

new_style : (css attrs : List TextPair) →
    has_name (styled_attrs css attrs) (codes "href") ≡ has_name attrs (codes "href")
new_style [] attrs = refl
new_style (p ∷ ps) attrs = by (first attrs (codes "style"))
  where
    by : (old : Option (List ℕ)) →
        has_name (attrs_with_style (inline_text (p ∷ ps)) attrs old) (codes "href")
        ≡ has_name attrs (codes "href")
    by None = more_behind attrs ((codes "style", inline_text (p ∷ ps)) ∷ []) (codes "href") refl
    by (Some value) = new_value attrs (codes "style") _ (codes "href")

pub styled_head : (h : Head) → HeadIsNoHyperlink h → HeadIsNoHyperlink (head_with_style h)
styled_head h e = ap (λ b. may_link h.name && b) (new_style h.css h.attrs) ∙ e

pub head_with_role : (role : RoleText) (h : ElemHead) → is_hyperlink h.name h.attrs ≡ false →
    HeadIsNoHyperlink (element_head role h)
head_with_role role h e = by (passes_role h.name)
  where
    no_href : (r : RoleText) → has_name (role_pairs r) (codes "href") ≡ false
    no_href None = refl
    no_href (Some text) = refl

    by : (passes : Bool) →
        is_hyperlink h.name (if passes then h.attrs else h.attrs ++ role_pairs role) ≡ false
    by true = e
    by false = ap (λ b. may_link h.name && b)
        (more_behind h.attrs (role_pairs role) (codes "href") (no_href role)) ∙ e
