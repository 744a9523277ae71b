-- Processing a token again, and moving another block, once more and no more.
use Rattle.std.proofs.Common.{◌≡◌, ℕ, zero, suc, ◌+◌, ◌-◌, ◌<◌, ◌≤◌, List, ap, arith, false, refl, sym, true}
use Rattle.std.proofs.lemmas.Bool.{false≢true}
use Rattle.html_page_tree.specs.PageBodies.{agency, agency_run, behind_agency}
use Rattle.html_page_tree.specs.PageTrees.{behind_token, behind_turn, is_char, processed, templates_ended, text_ended, turn}
use Rattle.html_page_stack.specs.Pages.{Page, Token, Char, Start, End, Finish, template_closed}

pub processed_once : (n k : ℕ) (t : Token) (p : Page) → k < n →
    processed (n - k) t p ≡ behind_turn (processed (n - (k + 1))) (turn t p)
unfolding processed
processed_once n k t p h =
    ap (λ m. processed m t p) {x = n - k} {y = suc (n - (k + 1))} (omega (arith, h))

pub processed_out : (n k : ℕ) (t : Token) (p : Page) → n ≤ k →
    processed (n - k) t p ≡ p
unfolding processed
processed_out n k t p h = ap (λ m. processed m t p) {x = n - k} {y = zero} (omega (arith, h))

pub agency_once : (n k : ℕ) (name : List ℕ) (p : Page) → k < n → agency_run (n - k) name p
    ≡ behind_agency (agency_run (n - (k + 1)) name) (agency name p)
unfolding agency_run
agency_once n k name p h =
    ap (λ m. agency_run m name p) {x = n - k} {y = suc (n - (k + 1))} (omega (arith, h))

pub agency_out : (n k : ℕ) (name : List ℕ) (p : Page) → n ≤ k → agency_run (n - k) name p ≡ p
unfolding agency_run
agency_out n k name p h = ap (λ m. agency_run m name p) {x = n - k} {y = zero} (omega (arith, h))

-- what follows a character, and any other token

pub behind_char : (t : Token) (p : Page) → is_char t ≡ true → behind_token t p ≡ p
behind_char (Char c) p h = refl
behind_char (Start tag) p h = absurd (false≢true h)
behind_char (End name) p h = absurd (false≢true h)
behind_char Finish p h = absurd (false≢true h)

pub behind_other : (t : Token) (p : Page) → is_char t ≡ false → behind_token t p ≡ text_ended p
behind_other (Char c) p h = absurd (false≢true (sym h))
behind_other (Start tag) p h = refl
behind_other (End name) p h = refl
behind_other Finish p h = refl

-- closing one `template` more, and no more

pub ended_once : (n k : ℕ) (p : Page) → k < n →
    templates_ended (n - k) p ≡ templates_ended (n - (k + 1)) (template_closed p)
ended_once n k p h =
    ap (λ m. templates_ended m p) {x = n - k} {y = suc (n - (k + 1))} (omega (arith, h))

pub ended_out : (n k : ℕ) (p : Page) → n ≤ k → templates_ended (n - k) p ≡ p
ended_out n k p h = ap (λ m. templates_ended m p) {x = n - k} {y = zero} (omega (arith, h))
