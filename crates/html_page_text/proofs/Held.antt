-- What is held back in the program.
use Rattle.std.proofs.Common.{◌≡◌, ℕ, Bool, [], refl, ap}
use Rattle.html_names_core.specs.declared.text_writer.TextWriter.{TextWriter}
use Rattle.html_dom_shown.specs.Collapsing.{ignorable, collapsible, char}
use Rattle.html_page_text.proofs.Gathering.{seen_of}
use Rattle.html_page_text.specs.{Gathering.{GatheredPage, with_piece, with_pieces, bare, support, released, step}, PageViews.{before_view}}
use Rattle.html_page_text.specs.declared.seen.{Before.{Before}, Before.TheVariants.{Bare, Support, Blank}}

pub none_released : (supported : Bool) (b : Before) → ((x : TextWriter) → b ≡ Blank x → ⊥) →
    released supported (before_view b) ≡ []
none_released supported Bare h = refl
none_released supported Support h = refl
none_released supported (Blank x) h = absurd (h x refl)

pub ignorable_seen : (p q : GatheredPage) (b : Before) (c : ℕ) →
    ((x : TextWriter) → b ≡ Blank x → ⊥) →
    q ≡ with_piece p (char c) →
    seen_of q (before_view b) ≡ step (seen_of p (before_view b)) (ignorable c)
unfolding with_pieces
ignorable_seen p q Bare c h e = ap (λ l. seen_of l bare) e
ignorable_seen p q Support c h e = ap (λ l. seen_of l support) e
ignorable_seen p q (Blank x) c h e = absurd (h x refl)

pub none_held : (p : GatheredPage) (b : Before) (c : ℕ) → (b ≡ Support → ⊥) →
    seen_of p (before_view b) ≡ step (seen_of p (before_view b)) (collapsible c)
unfolding with_pieces
none_held p Bare c h = refl
none_held p Support c h = absurd (h refl)
none_held p (Blank x) c h = refl
