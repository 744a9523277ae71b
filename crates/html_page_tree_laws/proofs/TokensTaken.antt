-- Each token of each page is taken: behind a turn less can be closed, or the token is taken soon.
use Rattle.std.proofs.Common.{◌≡◌, ◌+◌, ◌≤◌, ℕ, zero, suc, true, false, arith, codes, List, [], ◌∷◌, length, refl}
use Rattle.std.proofs.lemmas.Bool.{both_ways, false≢true}
use Rattle.html_page_stack.specs.OpenElements.{mode}
use Rattle.html_page_stack.specs.declared.modes.{Destination.{Destination}, Mode.{Mode}, TemplateMode.{TemplateMode}}
use Rattle.html_page_stack.specs.declared.modes.Mode.TheVariants.{BeforeHtml, BeforeHead, InHead, InHeadNoscript, AfterHead, InBody, InText, InTable, InCaption, InColumns, InSection, InRow, InCell, InTemplate, InFrameset, AfterFrameset}
use Rattle.html_page_stack.specs.declared.modes.TemplateMode.TheVariants.{Unset}
use Rattle.html_page_stack.specs.Pages.{Page, Token, Turn, Taken, Again, noted}
use Rattle.html_page_stack.specs.declared.error.PageError.TheVariants as error
use Rattle.html_page_tree.specs.PageTrees.{behind_turn, by_mode, foreign_left, page_mode, processed, turn}
use Rattle.html_page_tree_laws.specs.TokensTaken.{TokensTaken, TurnsEnd, taken_behind, taken_within}
use Rattle.html_page_tree_laws.proofs.Bodies.{body_taken, in_body_ends}
use Rattle.html_page_tree_laws.proofs.Heads.{after_frameset_ends, after_head_ends, in_frameset_ends, in_head_ends, in_noscript_ends, in_template_ends, in_text_ends}
use Rattle.html_page_tree_laws.proofs.Lengths.{noted_still, rank, rank_at_most, still, unset, while_still}
use Rattle.html_page_tree_laws.proofs.Modes.{no_mode, none_open, one_open}
use Rattle.html_page_tree_laws.proofs.Roots.{before_head_ends, before_html_ends}
use Rattle.html_page_tree_laws.proofs.Tables.{in_caption_ends, in_cell_ends, in_columns_ends, in_row_ends, in_section_ends, in_table_ends}
use Rattle.html_page_tree_laws.proofs.Turns.{Ends, IsLeft, Others, begun, in_turn, is_image, left_ends, more_turns, turn_ends}

module _ (t : Token) (k c : ℕ) (h : IsLeft t k c) where
  -- by the rules of the mode of the page
  mode_ends : (p : Page) → rank p ≤ c → (m : Mode) → page_mode p ≡ m → Ends k (by_mode m t p)
  mode_ends p r BeforeHtml e =
      before_html_ends t k c h p (none_open p.stack p.templates p.framesets e) r
  mode_ends p r BeforeHead e = before_head_ends t k c h k (omega arith) p
      (one_open p.stack p.templates p.framesets e) (omega (arith, r))
  mode_ends p r InHead e = in_head_ends k c p t (left_ends t k c h p r)
  mode_ends p r InHeadNoscript e = in_noscript_ends k c p t h r
  mode_ends p r AfterHead e = after_head_ends t k c h k (omega arith) p (omega (arith, r))
  mode_ends p r InBody e = in_body_ends k c t h.other p r
  mode_ends p r InText e = in_text_ends k c p t h r
  mode_ends p r InTable e = in_table_ends k c p t h r
  mode_ends p r InCaption e = in_caption_ends k c p t h r
  mode_ends p r InColumns e = in_columns_ends k c p t h r
  mode_ends p r InSection e = in_section_ends k c p t h r
  mode_ends p r InRow e = in_row_ends k c p t h r
  mode_ends p r InCell e = in_cell_ends k c p t h r
  mode_ends p r InTemplate e =
      in_template_ends k c p t h (no_mode (mode p.stack) p.templates p.framesets e) r
  mode_ends p r InFrameset e = in_frameset_ends t k p
  mode_ends p r AfterFrameset e = after_frameset_ends t k p

  -- one turn more
  taken_next : (p : Page) → rank p ≤ c → taken_within (suc k) t p ≡ true
  taken_next p r =
      let bad = noted error.HtmlInForeign p in
      let q = foreign_left bad in
      let s = rank_at_most q p c (still (while_still _ (length p.stack) bad)
      (noted_still error.HtmlInForeign p)) r in
      in_turn k t p (turn_ends k t p (mode_ends p r (page_mode p) refl)
      (mode_ends q s (page_mode q) refl))

-- a token is taken wherever it is taken in a body that was begun, and as another
module _ (t : Token) (n : ℕ) (enough : 4 ≤ n) (begins : (c j : ℕ) → c + n ≤ j + 3 →
    (d : Destination) (p : Page) → rank p ≤ c + 1 →
    taken_within j t (begun d (codes "body") p) ≡ true) (other : (c : ℕ) → Others t (c + n) c)
  where
    all_taken : (c : ℕ) (p : Page) → rank p ≤ c → taken_within (suc (c + n)) t p ≡ true
    all_taken zero p r = taken_next t (zero + n) zero (record {
      lower = λ q less. absurd (omega (arith, less));
      in_body = begins zero;
      other = other zero;
      enough = omega (arith, enough);
    }) p r
    all_taken (suc c) p r = taken_next t (suc c + n) (suc c) (record {
      lower = λ q less. more_turns (suc (c + n)) (suc c + n) t q (omega arith)
          (all_taken c q (omega (arith, less)));
      in_body = begins (suc c);
      other = other (suc c);
      enough = omega (arith, enough);
    }) p r

-- any token but that of an `image`
plain_begins : (t : Token) → is_image t ≡ false → (c j : ℕ) → c + 4 ≤ j + 3 → (d : Destination)
    (p : Page) → rank p ≤ c + 1 → taken_within j t (begun d (codes "body") p) ≡ true
plain_begins t plain c zero more d p r = absurd (omega (arith, more))
plain_begins t plain c (suc i) more d p r =
    body_taken i (suc (rank p)) t (λ image. absurd (both_ways _ plain image)) d p (omega arith)

plain_taken : (t : Token) → is_image t ≡ false → (c : ℕ) (p : Page) → rank p ≤ c →
    taken_within (suc (c + 4)) t p ≡ true
plain_taken t plain = all_taken t 4 (omega arith) (plain_begins t plain)
    (λ c image. absurd (both_ways _ plain image))

-- any token
begins : (t : Token) (c j : ℕ) → c + 12 ≤ j + 3 → (d : Destination) (p : Page) → rank p ≤ c + 1 →
    taken_within j t (begun d (codes "body") p) ≡ true
begins t c zero more d p r = absurd (omega (arith, more))
begins t c (suc i) more d p r = body_taken i (c + 2) t (λ image s plain q less.
    more_turns (suc (c + 2 + 4)) i s q (omega (arith, more)) (plain_taken s plain (c + 2) q less))
    d p (omega (arith, r))

at_most_one : (ms : List TemplateMode) → unset ms ≤ 1
at_most_one [] = omega arith
at_most_one (Unset ∷ ms) = omega arith
at_most_one (m ∷ ms) = omega arith

pub tokens_taken : TokensTaken
tokens_taken t p = more_turns (suc (rank p + 12)) (suc (length p.stack + 14)) t p
    (omega (arith, at_most_one p.templates))
    (all_taken t 12 (omega arith) (begins t) (λ c image s plain q less.
    more_turns (suc (c + 4)) (c + 12) s q (omega arith) (plain_taken s plain c q less))
    (rank p) p (omega arith))

-- a token that is taken is processed no more
none_more : (m n : ℕ) (t : Token) (p : Page) → m ≤ n → taken_within m t p ≡ true →
    processed n t p ≡ processed m t p
unfolding taken_within processed
none_more zero n t p h e = absurd (false≢true e)
none_more (suc m) zero t p h e = absurd (omega (arith, h))
none_more (suc m) (suc n) t p h e =
    behind (turn t p) (λ s q k. none_more m n s q (omega (arith, h)) k) e where
      behind : (r : Turn) → ((s : Token) (q : Page) → taken_within m s q ≡ true →
          processed n s q ≡ processed m s q) → taken_behind (taken_within m) r ≡ true →
          behind_turn (processed n) r ≡ behind_turn (processed m) r
      behind (Taken q) more e = refl
      behind (Again q s) more e = more s q e

pub turns_end : TurnsEnd
turns_end t p more = none_more (suc (length p.stack + 14)) (more + suc (length p.stack + 14)) t p
    (omega arith) (tokens_taken t p)
