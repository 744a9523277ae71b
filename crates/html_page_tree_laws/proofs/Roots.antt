-- The turns of a token before the body: they open `html`, the head and the body.
use Rattle.std.proofs.Common.{◌≡◌, ◌+◌, ◌≤◌, ℕ, zero, suc, Bool, true, false, ◌||◌, arith, codes, List, [], ◌∷◌, length, refl, sym, ap, ◌∙◌, subst, None}
use Rattle.std.{proofs.lemmas.Bool.{false≢true}, specs.Prelude.{nat_lt}}
use Rattle.html_names_core.specs.Names.{stands_in}
use Rattle.html_dom_tree.specs.Tree.{none}
use Rattle.html_page_names.specs.PageNames.{is, of}
use Rattle.html_page_names.specs.declared.kind.Kind.TheVariants as kind
use Rattle.html_page_stack.specs.OpenElements.{OpenElement, at, before_table, is_before_table, is_removed, is_table_context, mode, placed, uncovered, with_last_text, with_text, without_current}
use Rattle.html_page_stack.specs.declared.modes.{Destination.{Destination}, FramesetRule.{FramesetRule}, Destination.TheVariants.{Parent, BeforeTable}}
use Rattle.html_page_stack.specs.declared.modes.TemplateMode.{TemplateMode}
use Rattle.html_page_stack.specs.declared.modes.FramesetRule.TheVariants as frameset
use Rattle.html_page_stack.specs.declared.modes.Mode.TheVariants.{BeforeHead, InHead, AfterHead}
use Rattle.html_page_stack.specs.declared.modes.Space.TheVariants.{Html}
use Rattle.html_page_stack.specs.Pages.{Page, Token, Char, Start, End, Finish, body_destination, closed, closed_while, destination_of, made, noted, page_head, settled}
use Rattle.html_page_stack.specs.declared.error.PageError.TheVariants as error
use Rattle.html_page_tree.specs.PageBodies.{before, implied, is_space, left, opens_body}
use Rattle.html_page_tree.specs.PageTrees.{by_mode, foreign_left, mode_within, page_mode, turn}
use Rattle.html_page_tree_laws.specs.TokensTaken.{taken_within}
use Rattle.html_page_tree_laws.proofs.Branches.{either_way}
use Rattle.html_page_tree_laws.proofs.Heads.{after_frameset_ends, after_head_ends, in_head_ends}
use Rattle.html_page_tree_laws.proofs.Lengths.{noted_still, rank, rank_at_most, still, while_still}
use Rattle.html_page_tree_laws.proofs.Modes.{IsBeforeHead, behind_head, last_element, one_open, own}
use Rattle.html_page_tree_laws.proofs.Turns.{Ends, IsLeft, again, begun, begun_rank, begun_turn, either_ends, ends_if, in_turn, opened_ends, taken, taken_or, turn_ends}

-- the root alone

root_settled : (p : Page) (o : OpenElement) → p.stack ≡ o ∷ [] →
    (settled p).stack ≡ with_text p.text o ∷ []
root_settled p o e = either_way (λ os. os) p.moved (ap (before_table (with_text p.text)) e)
    (ap (with_last_text p.text) e)

root_stays : (o : OpenElement) → uncovered (o ∷ []) ≡ o ∷ []
root_stays o = either_way (λ os. os) (is_removed o.space) refl refl

root_closed : (own : Bool) (p : Page) (o : OpenElement) → p.stack ≡ o ∷ [] → p.text ≡ [] →
    (closed own p).stack ≡ o ∷ []
root_closed own p o e t =
    ap (λ os. uncovered (without_current os)) (root_settled p o e
    ∙ ap (λ text. with_text text o ∷ []) t) ∙ root_stays o

root_left : (g : List OpenElement → Bool) (n : ℕ) (p : Page) (o : OpenElement) →
    p.stack ≡ o ∷ [] → p.text ≡ [] → (closed_while g n p).stack ≡ o ∷ []
root_left g zero p o e t = e
root_left g (suc n) p o e t = either_way (λ (q : Page). q.stack) (g p.stack)
    (root_left g n (closed false p) o (root_closed false p o e t) refl) e

-- behind the head
behind_head_ends : (t : Token) (k c : ℕ) → IsLeft t k c → (j : ℕ) → k ≤ j + 3 → (p : Page)
    (o : OpenElement) → p.stack ≡ o ∷ [] → p.text ≡ [] → mode (o ∷ []) ≡ AfterHead →
    rank p ≤ c + 1 → Ends j (turn t p)
behind_head_ends t k c h j more p o e text m r =
    let q = foreign_left (noted error.HtmlInForeign p) in
    turn_ends j t p (by p e r)
    (by q (root_left _ (length p.stack) (noted error.HtmlInForeign p) o e text)
    (rank_at_most q p (c + 1) (still (while_still _ (length p.stack)
    (noted error.HtmlInForeign p)) (noted_still error.HtmlInForeign p)) r)) where
      by_rule : (q : Page) → rank q ≤ c + 1 → (rule : FramesetRule) →
          Ends j (by_mode (mode_within AfterHead q.templates rule) t q)
      by_rule q s frameset.Behind = after_frameset_ends t j q
      by_rule q s frameset.BehindHtml = after_frameset_ends t j q
      by_rule q s _ = after_head_ends t k c h j more q s

      by : (q : Page) → q.stack ≡ o ∷ [] → rank q ≤ c + 1 → Ends j (by_mode (page_mode q) t q)
      by q s u = subst (λ l. Ends j (by_mode (mode_within l q.templates q.framesets) t q))
          (sym (ap mode s ∙ m)) (by_rule q u q.framesets)

-- before the head, and before `html`

before_ends : (k : ℕ) (name : List ℕ) (t : Token) (p : Page) →
    taken_within k t (begun (body_destination (destination_of name) p.stack) name p) ≡ true →
    Ends k (before name t p)
before_ends k name t p h = by t (opened_ends k t
    (body_destination (destination_of name) p.stack) name p _ h) where
      by : (t : Token) → Ends k (implied name t p) → Ends k (before name t p)
      by (Char c) i = taken_or (is_space c) _ i
      by (Start tag) i = taken_or (is name tag.name) _ (taken_or (of kind.Html tag.name) _ i)
      by (End n) i = either_ends (of kind.Head n || opens_body n) i taken
      by Finish i = i

head_mode : (d : Destination) (p : Page) → page_mode (begun d (codes "head") p) ≡ InHead
unfolding stands_in of
head_mode d p = refl

-- where the head is put
abbrev is_plain : Destination → Bool
is_plain Parent = true
is_plain BeforeTable = true
is_plain d = false

plain : (os : List OpenElement) → is_plain (body_destination Parent os) ≡ true
plain os = either_way is_plain (at is_table_context os) refl refl

abbrev head_in : Destination → (start : ℕ) → OpenElement
head_in d start = made d Html (codes "head") [] start

placed_mode : (d : Destination) (start : ℕ) (o : OpenElement) → is_plain d ≡ true →
    own o.space o.head.name [] ≡ None → mode (placed (head_in d start) o ∷ []) ≡ AfterHead
placed_mode Parent start o y e = behind_head (placed (head_in Parent start) o) e
    (last_element o.children (page_head (codes "head") [] start) none)
placed_mode BeforeTable start o y e = behind_head (placed (head_in BeforeTable start) o) e
    (last_element o.children (page_head (codes "head") [] start) none)
placed_mode _ start o y e = absurd (false≢true y)

text_brings : (text : List ℕ) (o : OpenElement) → own o.space o.head.name [] ≡ None →
    own (with_text text o).space (with_text text o).head.name [] ≡ None
text_brings [] o e = e
text_brings (c ∷ cs) o e = e

head_closed : (d : Destination) (p : Page) (o : OpenElement) → p.stack ≡ o ∷ [] →
    (closed true (begun d (codes "head") p)).stack
    ≡ placed (head_in d p.start) (with_text p.text o) ∷ []
head_closed d p o e =
    let head = head_in d p.start in
    let inner = with_text p.text o in
    ap (λ os. uncovered (without_current (head ∷ os))) (root_settled p o e)
    ∙ (ap uncovered (either_way (λ os. os) (is_before_table head)
    {x = before_table (placed head) (inner ∷ [])} {y = placed head inner ∷ []} refl refl)
    ∙ root_stays (placed head inner))

-- behind a head that the token itself closes
head_passed : (t : Token) (k c : ℕ) → IsLeft t k c → (i : ℕ) → k ≤ suc i + 2 → (d : Destination)
    (p : Page) → is_plain d ≡ true → IsBeforeHead p.stack → rank p ≤ c + 1 →
    Ends (suc i) (left t (begun d (codes "head") p))
head_passed t k c h i more d p y e r =
    let q = begun d (codes "head") p in
    let s = closed true q in
    let inner = with_text p.text e.root in
    let there = head_closed d p e.root e.alone in
    let one = ap length there in
    let once = ap length e.alone in
    ends_if (nat_lt (length s.stack) (length q.stack)) (λ less. again (in_turn i t s
    (behind_head_ends t k c h i (omega (arith, more)) s (placed (head_in d p.start) inner) there
    refl (placed_mode d p.start inner y (text_brings p.text e.root e.unbrought))
    (omega (arith, one, once, r))))) (λ done. taken)

pub before_head_ends : (t : Token) (k c : ℕ) → IsLeft t k c → (j : ℕ) → k ≤ j + 1 → (p : Page) →
    IsBeforeHead p.stack → rank p ≤ c + 1 → Ends j (before (codes "head") t p)
before_head_ends t k c h zero more p e r = absurd (omega (arith, more, h.enough))
before_head_ends t k c h (suc zero) more p e r = absurd (omega (arith, more, h.enough))
before_head_ends t k c h (suc (suc i)) more p e r =
    let d = body_destination Parent p.stack in
    before_ends (suc (suc i)) (codes "head") t p
    (begun_turn (suc i) t InHead d (codes "head") p (head_mode d p)
    (in_head_ends (suc i) c (begun d (codes "head") p) t
    (head_passed t k c h i (omega (arith, more)) d p (plain p.stack) e r)))

-- `html` alone
html_root : (d : Destination) (p : Page) → p.stack ≡ [] →
    (begun d (codes "html") p).stack ≡ made d Html (codes "html") [] p.start ∷ []
html_root d p e = ap (λ os. made d Html (codes "html") [] p.start ∷ os)
    (either_way (λ os. os) p.moved (ap (before_table (with_text p.text)) e)
    (ap (with_last_text p.text) e))

html_before_head : (d : Destination) (start : ℕ) (ms : List TemplateMode) (r : FramesetRule) →
    mode_within (mode (made d Html (codes "html") [] start ∷ [])) ms r ≡ BeforeHead
unfolding stands_in of
html_before_head d start ms r = refl

pub before_html_ends : (t : Token) (k c : ℕ) → IsLeft t k c → (p : Page) → p.stack ≡ [] →
    rank p ≤ c → Ends k (before (codes "html") t p)
before_html_ends t zero c h p e r = absurd (omega (arith, h.enough))
before_html_ends t (suc j) c h p e r =
    let d = body_destination Parent p.stack in
    let q = begun d (codes "html") p in
    let same = begun_rank d (codes "html") p in
    let before_head : page_mode q ≡ BeforeHead =
    ap (λ os. mode_within (mode os) p.templates p.framesets) (html_root d p e)
    ∙ html_before_head d p.start p.templates p.framesets in
    before_ends (suc j) (codes "html") t p (begun_turn j t BeforeHead d (codes "html") p before_head
    (before_head_ends t (suc j) c h j (omega arith) q
    (one_open q.stack p.templates p.framesets before_head) (omega (arith, same, r))))
