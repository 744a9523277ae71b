use Rattle.std.proofs.Common.{◌≡◌, ℕ, Bool, List, codes, chars, false, true, true≢false, refl, sym, ap, ◌∙◌}
use Rattle.html_names_core.{proofs.Lists.{chars_ascii}, specs.Names.{is_ascii}}
use Rattle.html_links.specs.Scripts.{begins, url_begin}
use Rattle.html_links.proofs.scripts.href_is_script.Goals as goal
use Rattle.html_links.proofs.scripts.href_is_script.Goals.{then-begins, else-begins}

small_is : (small url : List ℕ) (b : Bool) → is_ascii small ≡ true →
    b ≡ begins (chars small) url → begins small url ≡ b
small_is small url b ascii is = ap (λ s. begins s url) (sym (chars_ascii small ascii)) ∙ sym is

pub returns-then-begins-2 : goal.returns-then-begins-2
returns-then-begins-2 c =
    let url = url_begin (chars c.args.href.now) in
    let first = small_is (codes "javascript:") url _ refl (rw c.past_blanks-url.ensures at c.begins.ensures) in
    c.if-begins-2.true ∙ elim c.if-begins.branch [
      | then-begins w ↦
          let one : begins (codes "javascript:") url ≡ true = first ∙ w.if-begins.true in
          rw one refl
      | else-begins w ↦
          let none : begins (codes "javascript:") url ≡ false = first ∙ w.if-begins.false in
          let second = small_is (codes "data:") url _ refl
          (rw c.past_blanks-url.ensures at w.begins-else-begins.ensures) in
          let two : begins (codes "data:") url ≡ true =
          second ∙ (sym w.value-is ∙ c.if-begins-2.true) in
          rw (none, two) refl
    ]

pub returns-else-begins-2 : goal.returns-else-begins-2
returns-else-begins-2 c =
    let url = url_begin (chars c.args.href.now) in
    let first = small_is (codes "javascript:") url _ refl (rw c.past_blanks-url.ensures at c.begins.ensures) in
    let third = small_is (codes "vbscript:") url _ refl
    (rw c.past_blanks-url.ensures at c.begins-else-begins-2.ensures) in
    elim c.if-begins.branch [
      | then-begins w ↦ absurd (true≢false
          (sym w.if-begins.true ∙ (sym w.value-is ∙ c.if-begins-2.false)))
      | else-begins w ↦
          let none : begins (codes "javascript:") url ≡ false = first ∙ w.if-begins.false in
          let second = small_is (codes "data:") url _ refl
          (rw c.past_blanks-url.ensures at w.begins-else-begins.ensures) in
          let two : begins (codes "data:") url ≡ false =
          second ∙ (sym w.value-is ∙ c.if-begins-2.false) in
          sym (rw (none, two) third)
    ]
