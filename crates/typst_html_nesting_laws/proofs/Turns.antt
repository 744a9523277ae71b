-- A token that is taken in one turn, or in two.
use Rattle.std.proofs.{Common.{◌≡◌, ◌+◌, ◌==◌, ℕ, suc, Bool, true, false, not, List, [], ◌∷◌, length, refl, sym, ap, ◌∙◌, arith}, Math.Dec.{eqb-suc-zero}}
use Rattle.std.{proofs.lemmas.Bool.{false≢true}, specs.Prelude.{if◌then◌else◌}}
use Rattle.html_page_stack.specs.{OpenElements.{OpenElement, mode}, Pages.{Page, Token, End, Finish, Again, Taken, is_full, names_behind}}
use Rattle.html_page_stack.specs.declared.modes.{Mode.{Mode, TheVariants.{AfterHead, InBody, InTemplate}}, TemplateMode.{TemplateMode}}
use Rattle.html_page_stack.specs.declared.modes.FramesetRule.TheVariants as frameset
use Rattle.html_page_stack.specs.declared.modes.Space.TheVariants as spaces
use Rattle.html_page_stack.specs.declared.modes.TableRule.TheVariants as rule
use Rattle.html_page_tree.specs.PageTrees.{behind_token, behind_turn, by_mode, is_foreign_token, is_unseen, mode_within, page_mode, processed, taken_at_last, templates_ended, token_read, turn, unless_passed, wholly_processed}
use Rattle.typst_html_nesting_laws.proofs.Branches.{pick, skip}

-- no end tag is passed over where each element was made, and the end of the page closes nothing
-- where no `template` is open

abbrev pub IsWhole : Token → Page → Type 0
IsWhole token p = wholly_processed token p ≡ taken_at_last token p

pub end_whole : (name : List ℕ) (p : Page) → p.unmade ≡ [] → IsWhole (End name) p
end_whole name p made = ap (λ names. unless_passed
    (names_behind names (if is_full p then p.limit else 0) name) (End name) p) made

pub finish_whole : (p : Page) → not (length p.templates == 0) ≡ false → IsWhole Finish p
finish_whole p none = ap (taken_at_last Finish) (by_modes p.templates none) where
  by_modes : (ms : List TemplateMode) → not (length ms == 0) ≡ false →
      templates_ended (length ms) p ≡ p
  by_modes [] h = refl
  by_modes (m ∷ ms) h =
      absurd (false≢true (sym h ∙ ap not (eqb-suc-zero (length ms))))

pub turn_taken : (token : Token) (p : Page) (r : Page) → IsWhole token p →
    p.tables ≡ rule.ClosesP → turn token p ≡ Taken r → token_read token p ≡ behind_token token r
unfolding processed token_read
turn_taken token p r whole tables h = pick _ (ap (λ x. not (is_unseen x)) tables)
    (ap (behind_token token)
    (whole ∙ ap (behind_turn (processed (length p.stack + 14))) h))

pub turns_taken : (token : Token) (p q r : Page) → IsWhole token p → p.tables ≡ rule.ClosesP →
    turn token p ≡ Again q token → turn token q ≡ Taken r →
    token_read token p ≡ behind_token token r
unfolding processed token_read
turns_taken token p q r whole tables h k = pick _ (ap (λ x. not (is_unseen x)) tables)
    (ap (behind_token token) (whole ∙ (ap (behind_turn (processed (length p.stack + 14))) h
    ∙ (ap (λ n. processed n token q) {x = length p.stack + 14} {y = suc (length p.stack + 13)}
    (omega arith) ∙ ap (behind_turn (processed (length p.stack + 13))) k))))

-- the modes that the open elements tell; that of a `template` they do not
abbrev pub is_told : Mode → Bool
is_told InTemplate = false
is_told m = true

-- the mode in which elements are read in a `template` whose content is that of a body
abbrev pub read_mode : Mode → Mode
read_mode InTemplate = InBody
read_mode m = m

told_within : (m : Mode) (ms : List TemplateMode) → is_told m ≡ true →
    mode_within m ms frameset.Ignored ≡ m
told_within InTemplate ms h = absurd (false≢true h)
told_within AfterHead ms h = refl
told_within _ ms h = refl

-- no frameset is or was there, so the open elements tell the mode
pub stack_mode : (p : Page) → p.framesets ≡ frameset.Ignored → is_told (mode p.stack) ≡ true →
    page_mode p ≡ mode p.stack
stack_mode p barred told = ap (mode_within (mode p.stack) p.templates) barred
    ∙ told_within (mode p.stack) p.templates told

-- by the rules of a mode of HTML
pub mode_taken : (token : Token) (p : Page) (m : Mode) (r : Page) → IsWhole token p →
    p.tables ≡ rule.ClosesP → p.framesets ≡ frameset.Ignored → is_told m ≡ true →
    is_foreign_token token p.stack ≡ false → mode p.stack ≡ m → by_mode m token p ≡ Taken r →
    token_read token p ≡ behind_token token r
mode_taken token p m r whole tables barred told html e h = turn_taken token p r whole tables
    (skip _ html (ap (λ n. by_mode n token p) (stack_mode p barred (ap is_told e ∙ told) ∙ e) ∙ h))

-- in an element of HTML
pub html_token : (token : Token) (o : OpenElement) (os : List OpenElement) → o.space ≡ spaces.Html →
    is_foreign_token token (o ∷ os) ≡ false
html_token Finish o os e = refl
html_token token o os e = rw e refl
