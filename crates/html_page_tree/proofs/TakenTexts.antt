-- Where a page takes text, each character but U+0000 is added to the current node.
use Rattle.std.proofs.Common.{◌≡◌, ℕ, Bool, true, false, not, ◌&&◌, ◌||◌, ◌==◌, List, [], ◌∷◌, refl, ap, ◌∙◌}
use Rattle.std.proofs.lemmas.Bool.{and_parts, false≢true, not-true}
use Rattle.html_page_stack.specs.{Formats.{ends_closed}, OpenElements.{OpenElement}, Pages.{Page, Char, Taken, reconstructed, with_char}}
use Rattle.html_page_stack.specs.declared.modes.Mode.{Mode}
use Rattle.html_page_stack.specs.declared.modes.Mode.TheVariants.{InBody, InText, InCaption, InCell}
use Rattle.html_page_stack.specs.declared.modes.FramesetRule.{FramesetRule}
use Rattle.html_page_stack.specs.declared.modes.FramesetRule.TheVariants as frameset
use Rattle.html_page_tree.proofs.Branches.{either}
use Rattle.html_page_tree.specs.PageBodies.{barred_by_char, char_in_body, is_barred, is_space}
use Rattle.html_page_tree.specs.PageTrees.{by_mode, is_foreign_token, is_unseen, page_mode, processed, token_read, turn}
use Rattle.html_page_tree.specs.TakenTexts.{mode_takes_text, takes_text}

-- where no frameset may come any more, no character rules it out
barred_rule : (r : FramesetRule) → is_barred r ≡ true → frameset.Ignored ≡ r
barred_rule frameset.Ignored h = refl
barred_rule _ h = absurd (false≢true h)

barred_still : (c : ℕ) (p : Page) → is_barred p.framesets ≡ true → barred_by_char c p ≡ p
barred_still c p h = either (is_space c) _ _ p (λ e. refl)
    (λ e. ap (λ r. record p { framesets = r }) (barred_rule p.framesets h))

kept : (p : Page) → not (ends_closed p.stack p.formats) ≡ true → reconstructed p ≡ p
kept p h = rw (not-true (ends_closed p.stack p.formats) h) refl

body_text : (c : ℕ) (p : Page) → (c == 0) ≡ false → is_barred p.framesets ≡ true →
    not (ends_closed p.stack p.formats) ≡ true → char_in_body c p ≡ with_char c p
body_text c p some barred h = rw some (ap (with_char c)
    (ap (barred_by_char c) (kept p h) ∙ barred_still c p barred))

mode_text : (m : Mode) (c : ℕ) (p : Page) → (c == 0) ≡ false → is_barred p.framesets ≡ true →
    mode_takes_text m p ≡ true → by_mode m (Char c) p ≡ Taken (with_char c p)
mode_text InText c p some barred h = refl
mode_text InBody c p some barred h = ap Taken (body_text c p some barred h)
mode_text InCaption c p some barred h = ap Taken (body_text c p some barred h)
mode_text InCell c p some barred h = ap Taken (body_text c p some barred h)
mode_text _ c p some barred h = absurd (false≢true h)

foreign_text : (c : ℕ) (os : List OpenElement) →
    is_foreign_token (Char c) os ≡ is_foreign_token (Char 0) os
foreign_text c [] = refl
foreign_text c (o ∷ os) = refl

turn_text : (c : ℕ) (p : Page) (b : Bool) → (c == 0) ≡ false → is_barred p.framesets ≡ true →
    is_foreign_token (Char 0) p.stack ≡ b → (b || mode_takes_text (page_mode p) p) ≡ true →
    turn (Char c) p ≡ Taken (with_char c p)
turn_text c p true some barred e h = rw (foreign_text c p.stack ∙ e, some)
    (ap (λ q. Taken (with_char c q)) (barred_still c p barred))
turn_text c p false some barred e h = rw (foreign_text c p.stack ∙ e)
    (mode_text (page_mode p) c p some barred h)

pub text_taken : (c : ℕ) (p : Page) → (c == 0) ≡ false → takes_text p ≡ true →
    token_read (Char c) p ≡ with_char c p
unfolding takes_text processed token_read
text_taken c p some h =
    let both = and_parts (not (is_unseen p.tables) && is_barred p.framesets) _ h in
    let first = and_parts (not (is_unseen p.tables)) _ both.0 in
    let turned = turn_text c p (is_foreign_token (Char 0) p.stack) some first.1 refl both.1 in
    rw (first.0, turned) refl
