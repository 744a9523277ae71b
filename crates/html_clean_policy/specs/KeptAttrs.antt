-- Which attributes of an element stay, and with what values.
use Rattle.std.specs.List.{filter_map}
use Rattle.std.specs.Prelude.{ℕ, Bool, true, List, [], ◌∷◌, if◌then◌else◌, Option, Some, None, option_map}
use Rattle.html_names_core.specs.Texts.{TextPair}
use Rattle.html_clean_values.specs.{Prefixes.{prefixed_href, prefixed_name, prefixed_words}, Replaced.{replaced}}
use Rattle.html_clean_values.specs.Urls.{srcset_is_allowed, url_is_allowed, urls_are_allowed}
use Rattle.html_clean_styles.specs.Styles.{clean_style}
use Rattle.html_clean_policy.specs.{AttrNames.{may_stay}, AttrUses.{use_of}, LinkRels.{cut_pairs}, Policies.{PolicyView}}
use Rattle.html_clean_policy.specs.declared.attr_use.AttrUse.{AttrUse}
use Rattle.html_clean_policy.specs.declared.attr_use.AttrUse.TheVariants as as_

-- whether the URLs of a value are allowed, if it has any
unfoldable pub urls_stay : PolicyView → AttrUse → (text : List ℕ) → Bool
urls_stay p as_.Text text = true
urls_stay p as_.Style text = true
urls_stay p as_.Link text = url_is_allowed p.schemes p.relative text
urls_stay p as_.Url text = url_is_allowed p.schemes p.relative text
urls_stay p as_.Urls text = urls_are_allowed p.schemes p.relative text
urls_stay p as_.Srcset text = srcset_is_allowed p.schemes p.relative text
urls_stay p as_.Name text = true
urls_stay p as_.Names text = true

-- the value as it stays
unfoldable pub adapted : PolicyView → AttrUse → (text : List ℕ) → List ℕ
adapted p as_.Text text = text
adapted p as_.Style text = clean_style p.properties text
adapted p as_.Link text = prefixed_href p.prefix text
adapted p as_.Url text = text
adapted p as_.Urls text = text
adapted p as_.Srcset text = text
adapted p as_.Name text = prefixed_name p.prefix text
adapted p as_.Names text = prefixed_words p.prefix text

abbrev pub unless_empty : List ℕ → Option (List ℕ)
unless_empty [] = None
unless_empty (c ∷ cs) = Some (c ∷ cs)

-- a `style` of which nothing stays goes
unfoldable pub unless_gone : AttrUse → (text : List ℕ) → Option (List ℕ)
unless_gone as_.Text text = Some text
unless_gone as_.Style text = unless_empty text
unless_gone as_.Link text = Some text
unless_gone as_.Url text = Some text
unless_gone as_.Urls text = Some text
unless_gone as_.Srcset text = Some text
unless_gone as_.Name text = Some text
unless_gone as_.Names text = Some text

-- the value that stays, if one does, for a text that can be written
unfoldable pub kept_text : PolicyView → AttrUse → (text : List ℕ) → Option (List ℕ)
kept_text p of text = if urls_stay p of text then unless_gone of (adapted p of text) else None

unfoldable pub kept_value : PolicyView → (element name value : List ℕ) → Option (List ℕ)
kept_value p element name value =
    if may_stay p element name then kept_text p (use_of name) (replaced value) else None

abbrev pub kept_pair : PolicyView → (element : List ℕ) → TextPair → Option TextPair
kept_pair p element pair =
    option_map (λ value. (pair.0, value)) (kept_value p element pair.0 pair.1)

abbrev pub pairs_kept : PolicyView → (element : List ℕ) → List TextPair → List TextPair
pairs_kept p element = filter_map (kept_pair p element)

-- the attributes that stay, in their order: at most 256. Of a link with a target, where the policy
-- has a `rel`, this comes last
unfoldable pub attrs_kept : PolicyView → (element : List ℕ) → List TextPair → List TextPair
attrs_kept p element pairs = cut_pairs p.rel element (pairs_kept p element pairs)
