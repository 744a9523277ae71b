-- What the names of raw elements and of those that drop a line feed are.
use Rattle.std.proofs.{Common.{◌≡◌, ℕ, Bool, true, false, ◌&&◌, inl, inr, List, codes, bytes_eq, sym, subst, refl}, lemmas.Bool.{cases_Bool, false≢true}}
use Rattle.html_names_core.proofs.Basics.{bytes_eq-same}
use Rattle.html_names_core.specs.{Displays.{default_display}, Kinds.{is_raw, is_mathml, is_token}, Names.{stands_in}}
use Rattle.html_dom_tree.specs.Tree.{Head, NodesView}
use Rattle.typst_html_encode.specs.{Layout.{allows_pretty_inside, is_pretty_inside}, Reader.{drops_feed}}

module _ (P : List ℕ → Type 0) where
  pub of_raw : (name : List ℕ) → P (codes "script") → P (codes "style") → is_raw name ≡ true →
      P name
  unfolding is_raw stands_in
  of_raw name x y h = elim (cases_Bool (bytes_eq (codes "script") name)) [
    | inl p ↦ subst P (bytes_eq-same (codes "script") name p) x
    | inr p ↦ elim (cases_Bool (bytes_eq (codes "style") name)) [
      | inl q ↦ subst P (bytes_eq-same (codes "style") name q) y
      | inr q ↦ absurd (false≢true (rw (p, q) at h))
    ]
  ]

-- raw elements keep a first line feed
pub raw_is : (name : List ℕ) → is_raw name ≡ true → drops_feed name ≡ false
unfolding drops_feed
raw_is name h = of_raw (λ n. drops_feed n ≡ false) name refl refl h

-- nothing is written pretty where a line feed is dropped
shuts : (name : List ℕ) → drops_feed name ≡ true → allows_pretty_inside name ≡ false
unfolding drops_feed allows_pretty_inside is_mathml is_token default_display stands_in
shuts name h = elim (cases_Bool (bytes_eq name (codes "pre"))) [
  | inl p ↦ subst (λ n. allows_pretty_inside n ≡ false)
      (sym (bytes_eq-same name (codes "pre") p)) refl
  | inr p ↦ elim (cases_Bool (bytes_eq name (codes "textarea"))) [
    | inl q ↦ subst (λ n. allows_pretty_inside n ≡ false)
        (sym (bytes_eq-same name (codes "textarea") q)) refl
    | inr q ↦ absurd (false≢true (rw (p, q) at h))
  ]
]

pub stays_shut : (pretty : Bool) (h : Head) (ns : NodesView) → drops_feed h.name ≡ true →
    (pretty && is_pretty_inside h ns) ≡ false
unfolding is_pretty_inside
stays_shut false h ns d = refl
stays_shut true h ns d = rw (shuts h.name d) refl
