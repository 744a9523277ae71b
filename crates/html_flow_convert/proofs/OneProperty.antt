-- Css of one property, in bytes and in characters.
use Rattle.std.proofs.Common.{◌≡◌, ℕ, List, [], ◌∷◌, chars, refl, ◌∙◌}
use Rattle.html_names_core.specs.Texts.{TextPair}
use Rattle.html_values_css.specs.Properties.{with_property}

pub one_property : (none css : List TextPair) (name value text : List ℕ) → none ≡ [] →
    chars name ≡ name → value ≡ text → chars text ≡ text →
    css ≡ with_property none (chars name) (chars value) → css ≡ (name, text) ∷ []
one_property none css name value text empty named kept own made =
    made ∙ rw (empty, named, kept, own) refl
