-- Closing elements leaves no more of them open.
use Rattle.std.proofs.Common.{◌≡◌, ◌+◌, ◌<◌, ◌≤◌, ℕ, zero, suc, Bool, true, false, arith, List, [], ◌∷◌, length, refl, ap, ◌∙◌}
use Rattle.html_page_names.specs.PageNames.{of}
use Rattle.html_page_names.specs.declared.kind.Kind.TheVariants as kind
use Rattle.html_page_stack.specs.OpenElements.{OpenElement, at, before_table, is_before_table, is_of, is_removed, placed, uncovered_times, with_last_text, with_text, without_current}
use Rattle.html_page_stack.specs.declared.modes.TemplateMode.{TemplateMode, TheVariants.{Unset}}
use Rattle.html_page_stack.specs.declared.error.PageError.{PageError}
use Rattle.html_page_stack.specs.Pages.{Page, closed, closed_to, closed_while, implied_closed, noted, noted_if, settled}
use Rattle.html_page_tree_laws.proofs.Branches.{either_of, either_way}

before_table_length : (add : OpenElement → OpenElement) (os : List OpenElement) →
    length (before_table add os) ≡ length os
before_table_length add [] = refl
before_table_length add (o ∷ []) = refl
before_table_length add (o ∷ p ∷ ps) = either_way length (is_of (of kind.Table) o) refl
    (either_way length (is_of (of kind.Template) p) refl
    (ap suc (before_table_length add (p ∷ ps))))

text_length : (text : List ℕ) (os : List OpenElement) → length (with_last_text text os) ≡ length os
text_length text [] = refl
text_length text (o ∷ os) = refl

pub settled_length : (p : Page) → length (settled p).stack ≡ length p.stack
settled_length p = either_way length p.moved (before_table_length (with_text p.text) p.stack)
    (text_length p.text p.stack)

without_length : (os : List OpenElement) → length (without_current os) ≤ length os
without_length [] = omega arith
without_length (o ∷ []) = omega arith
without_length (o ∷ p ∷ ps) =
    let same : length (without_current (o ∷ p ∷ ps)) ≡ suc (length ps) =
    either_way length (is_before_table o) (before_table_length (placed o) (p ∷ ps)) refl in
    omega (arith, same)

uncovered_length : (n : ℕ) (os : List OpenElement) → length (uncovered_times n os) ≤ length os
uncovered_length zero os = omega arith
uncovered_length (suc n) os =
    either_of (λ qs. length qs ≤ length os) (at (λ o. is_removed o.space) os)
    (omega (arith, uncovered_length n (without_current os), without_length os)) (omega arith)

-- no more elements are open than in the other page, and the same modes of templates are set
pub record IsNoLonger (q p : Page) : Type 0 where
  pub stack : length q.stack ≤ length p.stack
  pub templates : q.templates ≡ p.templates

pub same_page : (p : Page) → IsNoLonger p p
same_page p = record { stack = omega arith; templates = refl }

pub still : {r q p : Page} → IsNoLonger r q → IsNoLonger q p → IsNoLonger r p
still h k = record {
  stack = omega (arith, h.stack, k.stack);
  templates = h.templates ∙ k.templates;
}

pub closed_still : (own : Bool) (p : Page) → IsNoLonger (closed own p) p
closed_still own p =
    let os = without_current (settled p).stack in
    record {
      stack = omega (
        arith,
        uncovered_length (length os) os,
        without_length (settled p).stack,
        settled_length p,
      );
      templates = refl;
    }

pub while_still : (g : List OpenElement → Bool) (n : ℕ) (p : Page) →
    IsNoLonger (closed_while g n p) p
while_still g zero p = same_page p
while_still g (suc n) p = either_of (λ q. IsNoLonger q p) (g p.stack)
    (still (while_still g n (closed false p)) (closed_still false p)) (same_page p)

pub noted_still : (e : PageError) (p : Page) → IsNoLonger (noted e p) p
noted_still e p = record { stack = omega arith; templates = refl }

pub noted_if_still : (b : Bool) (e : PageError) (p : Page) → IsNoLonger (noted_if b e p) p
noted_if_still true e p = noted_still e p
noted_if_still false e p = same_page p

pub implied_still : (but : List ℕ → Bool) (p : Page) → IsNoLonger (implied_closed but p) p
implied_still but p = while_still _ (length p.stack) p

pub closed_to_still : (test : List ℕ → Bool) (p : Page) → IsNoLonger (closed_to test p) p
closed_to_still test p = still (closed_still true _) (while_still _ (length p.stack) p)

-- what is left to be closed or told: the open elements, and the mode of the innermost template
abbrev pub unset : List TemplateMode → ℕ
unset [] = 1
unset (Unset ∷ ms) = 1
unset (m ∷ ms) = 0

abbrev pub rank : Page → ℕ
rank p = length p.stack + unset p.templates

pub rank_at_most : (q p : Page) (c : ℕ) → IsNoLonger q p → rank p ≤ c → rank q ≤ c
rank_at_most q p c h r = omega (arith, h.stack, ap unset h.templates, r)

pub rank_below : (q p : Page) (c : ℕ) → IsNoLonger q p → length q.stack < length p.stack →
    rank p ≤ c → rank q < c
rank_below q p c h fewer r = omega (arith, fewer, ap unset h.templates, r)
