-- The `href` of a link holds printable ASCII alone, so it is a clean value, whatever name it leads to
-- and whatever places there are.
use Rattle.std.proofs.Common.{◌≡◌, ◌<◌, ℕ, Bool, true, false, ◌||◌, List, [], ◌∷◌, Option, None, Some, refl, subst, arith}
use Rattle.std.proofs.lemmas.{Bool.{agree_below_at}, Bool.Decides.{nat_tests}, List.Elements.{All-head, All-tail}}
use Rattle.std.specs.Prelude.{option_map}
use Rattle.html_names_core.specs.Characters.{all, is_text_char}
use Rattle.html_anchors.specs.Links.{Anchors, anchor_hrefs}
use Rattle.html_links.proofs.SpelledNames.{ArePlain, leading_is_plain}
use Rattle.html_links.specs.Spellings.{some_name, href_with, is_in_fragment_set, leading_href, leading_spelling}
use Rattle.typst_html_spaces.specs.CleanNodes.{IsCleanValue}

-- a character that a browser leaves as it is is a text character

within : (c : ℕ) → is_in_fragment_set c ≡ false → c < 127
within c e = grind (arith, nat_tests)

plain_is_text : (c : ℕ) → is_in_fragment_set c ≡ false → is_text_char c ≡ true
plain_is_text c e = rw e at (agree_below_at (λ k. is_in_fragment_set k || is_text_char k) (λ k. true)
    127 c refl (within c e))

plain_are_text : (cs : List ℕ) → ArePlain cs → all is_text_char cs ≡ true
plain_are_text [] each = refl
plain_are_text (c ∷ cs) each =
    rw (plain_is_text c (All-head (λ k. is_in_fragment_set k ≡ false) c cs each))
    (plain_are_text cs (All-tail (λ k. is_in_fragment_set k ≡ false) c cs each))

pub href_is_clean : (is_place : List ℕ → Bool) (anchor : Anchors) (location : ℕ) (href : List ℕ) →
    anchor_hrefs is_place anchor location ≡ Some href → IsCleanValue href
href_is_clean is_place anchor location href = by (some_name (anchor location))
  where
    spelled : (name : List ℕ) (spelling : Option (List ℕ)) →
        leading_spelling is_place name ≡ spelling → option_map href_with spelling ≡ Some href →
        IsCleanValue href
    spelled name None chosen is = cc
    spelled name (Some f) chosen is =
        let same : href_with f ≡ href = cc in
        subst IsCleanValue same (plain_are_text f (leading_is_plain is_place name f chosen))

    by : (name : Option (List ℕ)) → leading_href is_place name ≡ Some href → IsCleanValue href
    by None is = cc
    by (Some name) is = spelled name (leading_spelling is_place name) refl is
