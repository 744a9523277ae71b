-- Closing elements as long as the current node is such a node, once more and no more.
use Rattle.std.{proofs.Common.{◌≡◌, ℕ, zero, suc, ◌+◌, ◌-◌, ◌<◌, ◌≤◌, Bool, List, ap, arith, false}, specs.Prelude.{if◌then◌else◌}}
use Rattle.html_page_stack.specs.{OpenElements.{OpenElement}, Pages.{Page, closed, closed_while}}

pub while_once : (g : List OpenElement → Bool) (n k : ℕ) (p : Page) → k < n →
    closed_while g (n - k) p
    ≡ (if g p.stack then closed_while g (n - (k + 1)) (closed false p) else p)
while_once g n k p h = ap (λ m. closed_while g m p) {x = n - k} {y = suc (n - (k + 1))}
    (omega (arith, h))

pub while_done : (g : List OpenElement → Bool) (n k : ℕ) (p : Page) → n ≤ k →
    closed_while g (n - k) p ≡ p
while_done g n k p h = ap (λ m. closed_while g m p) {x = n - k} {y = zero} (omega (arith, h))
