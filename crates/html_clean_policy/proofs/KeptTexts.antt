-- A value that stays, cleaned once more.
use Rattle.std.proofs.Common.{◌≡◌, ℕ, Bool, true, false, List, [], ◌∷◌, ◌⊎◌, inl, inr, Option, Some, None, ap, refl, subst, sym, ◌∙◌}
use Rattle.std.specs.Prelude.{codes, if◌then◌else◌, option_map}
use Rattle.html_names_core.specs.{Characters.{all}, Names.{stands_in}, Texts.{TextPair}}
use Rattle.html_clean_values.specs.{Prefixes.{prefixed_href, prefixed_name, prefixed_words}, Replaced.{is_plain_char, replaced}}
use Rattle.html_clean_values.specs.Urls.{url_is_allowed}
use Rattle.html_clean_values.proofs.{PrefixLaws.{prefixed_href_is_allowed}, Replacing.{plain_stays, replaced_is_plain}}
use Rattle.html_clean_styles.specs.Styles.{clean_style}
use Rattle.html_clean_policy.specs.AttrUses.{holds_link, holds_name, holds_names, holds_srcset, holds_style, holds_url, holds_urls, use_of}
use Rattle.html_clean_policy.specs.AttrNames.{may_stay}
use Rattle.html_clean_policy.specs.KeptAttrs.{adapted, kept_pair, kept_text, kept_value, unless_empty, unless_gone, urls_stay}
use Rattle.html_clean_policy.specs.Policies.{PolicyView}
use Rattle.html_clean_policy.specs.declared.attr_use.AttrUse.{AttrUse}
use Rattle.html_clean_policy.specs.declared.attr_use.AttrUse.TheVariants as as_

abbrev pub is_written : List ℕ → Bool
is_written = all is_plain_char

-- what is known of the texts that a policy makes
pub record TextLaws (p : PolicyView) : Type 0 where
  pub style_again : (t : List ℕ) →
      clean_style p.properties (clean_style p.properties t) ≡ clean_style p.properties t
  pub href_again : (t : List ℕ) →
      prefixed_href p.prefix (prefixed_href p.prefix t) ≡ prefixed_href p.prefix t
  pub name_again : (t : List ℕ) →
      prefixed_name p.prefix (prefixed_name p.prefix t) ≡ prefixed_name p.prefix t
  pub words_again : (t : List ℕ) →
      prefixed_words p.prefix (prefixed_words p.prefix t) ≡ prefixed_words p.prefix t
  pub style_written : (t : List ℕ) → is_written (clean_style p.properties t) ≡ true
  pub href_written : (t : List ℕ) → is_written t ≡ true →
      is_written (prefixed_href p.prefix t) ≡ true
  pub name_written : (t : List ℕ) → is_written t ≡ true →
      is_written (prefixed_name p.prefix t) ≡ true
  pub words_written : (t : List ℕ) → is_written t ≡ true →
      is_written (prefixed_words p.prefix t) ≡ true

-- choices

if_parts : {A : Type 0} (b : Bool) (x w : A) → (if b then Some x else None) ≡ Some w →
    (b ≡ true) × (x ≡ w)
if_parts true x w e = (refl, cc)
if_parts false x w e = cc

if_from : {A : Type 0} (b : Bool) (x w : A) → b ≡ true → x ≡ w →
    (if b then Some x else None) ≡ Some w
if_from b x w is same = ap (λ v. if v then Some x else None) is ∙ ap Some same

some_same : {A : Type 0} (x w : A) → Some x ≡ Some w → x ≡ w
some_same x w e = cc

unless_is : (x w : List ℕ) → unless_empty x ≡ Some w → x ≡ w
unless_is [] w e = cc
unless_is (c ∷ cs) w e = cc

-- values

text_again : (p : PolicyView) → TextLaws p → (of : AttrUse) (t w : List ℕ) →
    kept_text p of t ≡ Some w → kept_text p of w ≡ Some w
unfolding kept_text urls_stay adapted unless_gone
text_again p laws as_.Text t w e = refl
text_again p laws as_.Style t w e =
    let ps = p.properties in
    let is : clean_style ps t ≡ w = unless_is (clean_style ps t) w e in
    ap (λ x. unless_empty (clean_style ps x)) (sym is)
    ∙ (ap unless_empty (laws.style_again t) ∙ e)
text_again p laws as_.Link t w e =
    let both = if_parts (url_is_allowed p.schemes p.relative t) (prefixed_href p.prefix t) w e in
    if_from _ _ w
    (ap (url_is_allowed p.schemes p.relative) (sym both.1)
    ∙ (prefixed_href_is_allowed p.schemes p.relative p.prefix t ∙ both.0))
    (ap (prefixed_href p.prefix) (sym both.1) ∙ (laws.href_again t ∙ both.1))
text_again p laws as_.Url t w e =
    subst (λ x. kept_text p as_.Url x ≡ Some w) (if_parts _ t w e).1 e
text_again p laws as_.Urls t w e =
    subst (λ x. kept_text p as_.Urls x ≡ Some w) (if_parts _ t w e).1 e
text_again p laws as_.Srcset t w e =
    subst (λ x. kept_text p as_.Srcset x ≡ Some w) (if_parts _ t w e).1 e
text_again p laws as_.Name t w e =
    let is = some_same (prefixed_name p.prefix t) w e in
    ap (λ x. Some (prefixed_name p.prefix x)) (sym is)
    ∙ (ap Some (laws.name_again t) ∙ e)
text_again p laws as_.Names t w e =
    let is = some_same (prefixed_words p.prefix t) w e in
    ap (λ x. Some (prefixed_words p.prefix x)) (sym is)
    ∙ (ap Some (laws.words_again t) ∙ e)

text_written : (p : PolicyView) → TextLaws p → (of : AttrUse) (t w : List ℕ) →
    kept_text p of t ≡ Some w → is_written t ≡ true → is_written w ≡ true
unfolding kept_text urls_stay adapted unless_gone
text_written p laws as_.Text t w e is = ap is_written (sym (some_same t w e)) ∙ is
text_written p laws as_.Style t w e is =
    ap is_written (sym (unless_is (clean_style p.properties t) w e)) ∙ laws.style_written t
text_written p laws as_.Link t w e is =
    ap is_written (sym (if_parts _ (prefixed_href p.prefix t) w e).1) ∙ laws.href_written t is
text_written p laws as_.Url t w e is = ap is_written (sym (if_parts _ t w e).1) ∙ is
text_written p laws as_.Urls t w e is = ap is_written (sym (if_parts _ t w e).1) ∙ is
text_written p laws as_.Srcset t w e is = ap is_written (sym (if_parts _ t w e).1) ∙ is
text_written p laws as_.Name t w e is =
    ap is_written (sym (some_same (prefixed_name p.prefix t) w e)) ∙ laws.name_written t is
text_written p laws as_.Names t w e is =
    ap is_written (sym (some_same (prefixed_words p.prefix t) w e)) ∙ laws.words_written t is

text_allowed : (p : PolicyView) (of : AttrUse) (t w : List ℕ) → kept_text p of t ≡ Some w →
    urls_stay p of w ≡ true
unfolding kept_text urls_stay adapted unless_gone
text_allowed p as_.Text t w e = refl
text_allowed p as_.Style t w e = refl
text_allowed p as_.Link t w e =
    let both = if_parts (url_is_allowed p.schemes p.relative t) (prefixed_href p.prefix t) w e in
    ap (url_is_allowed p.schemes p.relative) (sym both.1)
    ∙ (prefixed_href_is_allowed p.schemes p.relative p.prefix t ∙ both.0)
text_allowed p as_.Url t w e =
    let both = if_parts _ t w e in subst (λ x. urls_stay p as_.Url x ≡ true) both.1 both.0
text_allowed p as_.Urls t w e =
    let both = if_parts _ t w e in subst (λ x. urls_stay p as_.Urls x ≡ true) both.1 both.0
text_allowed p as_.Srcset t w e =
    let both = if_parts _ t w e in subst (λ x. urls_stay p as_.Srcset x ≡ true) both.1 both.0
text_allowed p as_.Name t w e = refl
text_allowed p as_.Names t w e = refl

-- pairs

pub record Kept (p : PolicyView) (element : List ℕ) (pair kept : TextPair) : Type 0 where
  pub name : kept.0 ≡ pair.0
  pub may : may_stay p element pair.0 ≡ true
  pub text : kept_text p (use_of pair.0) (replaced pair.1) ≡ Some kept.1

may_parts : (b : Bool) (o : Option (List ℕ)) (w : List ℕ) →
    (if b then o else None) ≡ Some w → (b ≡ true) × (o ≡ Some w)
may_parts true o w e = (refl, e)
may_parts false o w e = cc

pair_parts : (name : List ℕ) (o : Option (List ℕ)) (kept : TextPair) →
    option_map (λ value. (name, value)) o ≡ Some kept → (kept.0 ≡ name) × (o ≡ Some kept.1)
pair_parts name None kept e = cc
pair_parts name (Some value) kept e =
    let same = some_same (name, value) kept e in
    (ap (λ q. q.0) (sym same), ap (λ q. Some q.1) same)

pub kept_parts : (p : PolicyView) (element : List ℕ) (pair kept : TextPair) →
    kept_pair p element pair ≡ Some kept → Kept p element pair kept
unfolding kept_value
kept_parts p element pair kept e =
    let named = pair_parts pair.0 (kept_value p element pair.0 pair.1) kept e in
    let both = may_parts (may_stay p element pair.0)
    (kept_text p (use_of pair.0) (replaced pair.1)) kept.1 named.1 in
    record { name = named.0; may = both.0; text = both.1 }

kept_from : (p : PolicyView) (element name value w : List ℕ) → may_stay p element name ≡ true →
    kept_text p (use_of name) (replaced value) ≡ Some w →
    kept_pair p element (name, value) ≡ Some (name, w)
unfolding kept_value
kept_from p element name value w may text =
    ap (λ b. option_map (λ v. (name, v))
    (if b then kept_text p (use_of name) (replaced value) else None)) may
    ∙ ap (option_map (λ v. (name, v))) text

module _ (p : PolicyView) (laws : TextLaws p) (element : List ℕ) where
  pub kept_written : (pair kept : TextPair) → kept_pair p element pair ≡ Some kept →
      is_written kept.1 ≡ true
  kept_written pair kept e =
      text_written p laws (use_of pair.0) (replaced pair.1) kept.1
      (kept_parts p element pair kept e).text (replaced_is_plain pair.1)

  pub kept_again : (pair kept : TextPair) → kept_pair p element pair ≡ Some kept →
      kept_pair p element kept ≡ Some kept
  kept_again pair kept e =
      let parts = kept_parts p element pair kept e in
      let again : kept_text p (use_of pair.0) kept.1 ≡ Some kept.1 =
      text_again p laws (use_of pair.0) (replaced pair.1) kept.1 parts.text in
      let same : replaced kept.1 ≡ kept.1 = plain_stays kept.1 (kept_written pair kept e) in
      kept_from p element kept.0 kept.1 kept.1
      (ap (may_stay p element) parts.name ∙ parts.may)
      (ap (λ n. kept_text p (use_of n) (replaced kept.1)) parts.name
      ∙ (ap (kept_text p (use_of pair.0)) same ∙ again))

pub kept_allowed : (p : PolicyView) (element : List ℕ) (pair kept : TextPair) →
    kept_pair p element pair ≡ Some kept → urls_stay p (use_of kept.0) kept.1 ≡ true
kept_allowed p element pair kept e =
    let parts = kept_parts p element pair kept e in
    ap (λ n. urls_stay p (use_of n) kept.1) parts.name
    ∙ text_allowed p (use_of pair.0) (replaced pair.1) kept.1 parts.text

-- a `rel` stays as it is, or goes

rel_use : use_of (codes "rel") ≡ as_.Text
unfolding use_of holds_style holds_link holds_url holds_urls holds_srcset holds_name holds_names stands_in
rel_use = refl

kept_as_it_is : (p : PolicyView) (text : List ℕ) → kept_text p as_.Text text ≡ Some text
unfolding kept_text urls_stay adapted unless_gone
kept_as_it_is p text = refl

text_stays : (p : PolicyView) (text : List ℕ) → urls_stay p as_.Text text ≡ true
unfolding urls_stay
text_stays p text = refl

pub rel_allowed : (p : PolicyView) (rel : List ℕ) →
    urls_stay p (use_of (codes "rel")) rel ≡ true
rel_allowed p rel = ap (λ u. urls_stay p u rel) rel_use ∙ text_stays p rel

abbrev with_rel_name : List ℕ → TextPair
with_rel_name value = (codes "rel", value)

pub rel_stays : (p : PolicyView) (element rel : List ℕ) → is_written rel ≡ true →
    (kept_pair p element (codes "rel", rel) ≡ None)
    ⊎ (kept_pair p element (codes "rel", rel) ≡ Some (codes "rel", rel))
unfolding kept_value
rel_stays p element rel is =
    by (may_stay p element (codes "rel")) (kept_text p (use_of (codes "rel")) (replaced rel))
    (ap (λ u. kept_text p u (replaced rel)) rel_use
    ∙ (kept_as_it_is p (replaced rel) ∙ ap Some (plain_stays rel is)))
  where
    by : (b : Bool) (o : Option (List ℕ)) → o ≡ Some rel →
        (option_map with_rel_name (if b then o else None) ≡ None)
        ⊎ (option_map with_rel_name (if b then o else None) ≡ Some (with_rel_name rel))
    by true o e = inr (ap (option_map with_rel_name) e)
    by false o e = inl refl
