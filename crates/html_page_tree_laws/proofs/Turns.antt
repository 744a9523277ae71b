-- The turns that are left for a token, and what is known of pages in which it comes again.
use Rattle.std.proofs.Common.{◌≡◌, ◌+◌, ◌<◌, ◌≤◌, ℕ, zero, suc, Bool, true, false, arith, codes, List, [], ◌∷◌, length, refl, sym, subst}
use Rattle.std.{proofs.lemmas.Bool.{false≢true, ltb-true}, specs.Prelude.{if◌then◌else◌, nat_lt}}
use Rattle.html_page_names.specs.PageNames.{of}
use Rattle.html_page_names.specs.declared.kind.Kind.TheVariants as kind
use Rattle.html_page_stack.specs.OpenElements.{OpenElement}
use Rattle.html_page_stack.specs.declared.modes.Destination.{Destination}
use Rattle.html_page_stack.specs.declared.modes.Mode.{Mode}
use Rattle.html_page_stack.specs.declared.modes.Space.TheVariants.{Html}
use Rattle.html_page_stack.specs.Pages.{Page, Token, Char, Start, End, Finish, Turn, Taken, Again, closed, is_full, made, opened_to, settled, with_element}
use Rattle.html_page_tree.specs.PageBodies.{left, resumed}
use Rattle.html_page_tree.specs.PageTrees.{by_mode, html_resumed, in_foreign, is_foreign_token, page_mode, turn}
use Rattle.html_page_tree_laws.specs.TokensTaken.{taken_behind, taken_within}
use Rattle.html_page_tree_laws.proofs.Lengths.{IsNoLonger, closed_still, rank, rank_below, settled_length}

-- whether the token can be processed again as another: as that of an `img`
abbrev pub is_image : Token → Bool
is_image (Start tag) = of kind.Image tag.name
is_image (End name) = of kind.Br name
is_image token = false

-- the turn ends, or the token is taken within so many more
pub record Ends (k : ℕ) (r : Turn) : Type 0 where
  pub is : taken_behind (taken_within k) r ≡ true

pub taken : {k : ℕ} {q : Page} → Ends k (Taken q)
taken = record { is = refl }

pub again : {k : ℕ} {q : Page} {t : Token} → taken_within k t q ≡ true → Ends k (Again q t)
again h = record { is = h }

pub ends_if : {k : ℕ} (b : Bool) {x y : Turn} → (b ≡ true → Ends k x) → (b ≡ false → Ends k y) →
    Ends k (if b then x else y)
ends_if true h k = h refl
ends_if false h k = k refl

pub either_ends : {k : ℕ} (b : Bool) {x y : Turn} → Ends k x → Ends k y →
    Ends k (if b then x else y)
either_ends true h k = h
either_ends false h k = k

-- the token is taken, if a test says so, or it goes on
pub taken_or : {k : ℕ} (b : Bool) (q : Page) {y : Turn} → Ends k y →
    Ends k (if b then Taken q else y)
taken_or true q h = taken
taken_or false q h = h

-- the turns of a token that is taken within more are no fewer
pub more_turns : (m n : ℕ) (t : Token) (p : Page) → m ≤ n → taken_within m t p ≡ true →
    taken_within n t p ≡ true
unfolding taken_within
more_turns zero n t p h e = absurd (false≢true e)
more_turns (suc m) zero t p h e = absurd (omega (arith, h))
more_turns (suc m) (suc n) t p h e =
    behind (turn t p) (λ s q k. more_turns m n s q (omega (arith, h)) k) e where
      behind : (r : Turn) → ((s : Token) (q : Page) → taken_within m s q ≡ true →
          taken_within n s q ≡ true) → taken_behind (taken_within m) r ≡ true →
          taken_behind (taken_within n) r ≡ true
      behind (Taken q) more e = refl
      behind (Again q s) more e = more s q e

-- one turn more
pub in_turn : (k : ℕ) (t : Token) (p : Page) → Ends k (turn t p) → taken_within (suc k) t p ≡ true
unfolding taken_within
in_turn k t p h = h.is

-- a turn is by the rules of a mode, or by those for SVG and MathML
pub turn_ends : (k : ℕ) (t : Token) (p : Page) → Ends k (by_mode (page_mode p) t p) →
    Ends k (html_resumed t p) → Ends k (turn t p)
turn_ends k t p h r = either_ends (is_foreign_token t p.stack) (foreign t h r) h where
  foreign : (t : Token) → Ends k (by_mode (page_mode p) t p) → Ends k (html_resumed t p) →
      Ends k (in_foreign t p)
  foreign (Char c) h r = taken
  foreign (Start tag) h r = either_ends _ r taken
  foreign (End name) h r = either_ends _ r (either_ends _ taken h)
  foreign Finish h r = taken

-- the page in which an element of HTML was opened
abbrev pub begun : Destination → (name : List ℕ) → Page → Page
begun d name p = with_element (made d Html name [] p.start) (settled p)

html_token : (t : Token) (o : OpenElement) (os : List OpenElement) → o.space ≡ Html →
    is_foreign_token t (o ∷ os) ≡ false
html_token Finish o os e = refl
html_token (Char c) o os e = rw e refl
html_token (Start tag) o os e = rw e refl
html_token (End name) o os e = rw e refl

-- a turn in such a page
pub begun_turn : (k : ℕ) (t : Token) (m : Mode) (d : Destination) (name : List ℕ) (p : Page) →
    page_mode (begun d name p) ≡ m → Ends k (by_mode m t (begun d name p)) →
    taken_within (suc k) t (begun d name p) ≡ true
begun_turn k t m d name p e h =
    let q = begun d name p in
    let html = html_token t (made d Html name [] p.start) (settled p).stack refl in
    let by = subst (λ n. Ends k (by_mode n t q)) (sym e) h in
    in_turn k t q (subst (λ b. Ends k (if b then in_foreign t q else by_mode (page_mode q) t q))
    (sym html) by)

pub begun_rank : (d : Destination) (name : List ℕ) (p : Page) →
    rank (begun d name p) ≡ suc (rank p)
begun_rank d name p = let same = settled_length p in omega (arith, same)

-- opening an element ends a turn if the token is taken behind it
pub opened_ends : (k : ℕ) (t : Token) (d : Destination) (name : List ℕ) (p : Page) (x : Page) →
    taken_within k t (begun d name p) ≡ true →
    Ends k (if is_full p then Taken x else Again (opened_to d Html name [] p) t)
opened_ends k t d name p x h = ends_if (is_full p) (λ e. taken) (λ e. again (subst (λ (q : Page).
    taken_within k t q ≡ true) (sym (is_opened e)) h)) where
      is_opened : is_full p ≡ false → opened_to d Html name [] p ≡ begun d name p
      is_opened e = rw e refl

-- what is known of other tokens that such a token can become
abbrev pub Others : Token → (k c : ℕ) → Type 0
Others t k c = is_image t ≡ true → (s : Token) → is_image s ≡ false → (q : Page) → rank q ≤ c →
    taken_within k s q ≡ true

-- what is known behind a page whose rank is at most `c`, with so many turns left: of pages of a
-- lower rank, of those in which a body was begun, and of other tokens
pub record IsLeft (t : Token) (k c : ℕ) : Type 0 where
  pub lower : (q : Page) → rank q < c → taken_within k t q ≡ true
  pub in_body : (j : ℕ) → k ≤ j + 3 → (d : Destination) (p : Page) → rank p ≤ c + 1 →
      taken_within j t (begun d (codes "body") p) ≡ true
  pub other : Others t k c
  pub enough : 4 ≤ k

-- going on behind an element that was closed
pub resumed_ends : (t : Token) (k c : ℕ) → IsLeft t k c → (p q : Page) → rank p ≤ c →
    IsNoLonger q p → Ends k (resumed t (length p.stack) q)
resumed_ends t k c h p q r shorter = ends_if (nat_lt (length q.stack) (length p.stack))
    (λ e. again (h.lower q (rank_below q p c shorter (ltb-true _ _ e) r))) (λ e. taken)

pub left_ends : (t : Token) (k c : ℕ) → IsLeft t k c → (p : Page) → rank p ≤ c →
    Ends k (left t p)
left_ends t k c h p r = resumed_ends t k c h p (closed true p) r (closed_still true p)
