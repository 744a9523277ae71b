-- The turns of a token in the head and behind it, in elements of text alone, in framesets and in a
-- `template`.
use Rattle.std.proofs.Common.{◌≡◌, ◌+◌, ◌≤◌, ℕ, ◌||◌, arith, codes, List, ◌∷◌, refl}
use Rattle.std.specs.Prelude.{drop}
use Rattle.html_page_names.specs.PageNames.{of}
use Rattle.html_page_names.specs.declared.kind.Kind.TheVariants as kind
use Rattle.html_page_stack.specs.Pages.{Page, Token, Char, Start, End, Finish, body_destination, destination_of, noted}
use Rattle.html_page_stack.specs.declared.error.PageError.TheVariants as error
use Rattle.html_page_stack.specs.declared.modes.TemplateMode.{TemplateMode}
use Rattle.html_page_tree.specs.PageBodies.{after_frameset, after_head, body_implied, frameset_rule, in_frameset, in_head, in_head_noscript, in_text, is_frame, is_noframes, is_space, left, noscript_left, opens_body}
use Rattle.html_page_tree.specs.PageTrees.{begins_part, in_mode, in_template, template_mode}
use Rattle.html_page_tree_laws.proofs.Bodies.{in_body_ends}
use Rattle.html_page_tree_laws.proofs.Branches.{either_way}
use Rattle.html_page_tree_laws.proofs.Lengths.{rank, unset}
use Rattle.html_page_tree_laws.proofs.Turns.{Ends, IsLeft, again, either_ends, left_ends, opened_ends, taken, taken_or}

module _ (t : Token) (k c : ℕ) (h : IsLeft t k c) where
  body_implied_ends : (j : ℕ) → k ≤ j + 3 → (p : Page) → rank p ≤ c + 1 →
      Ends j (body_implied t p)
  body_implied_ends j more p r =
      let q : Page = record p { framesets = frameset_rule p.stack } in
      let d = body_destination (destination_of (codes "body")) p.stack in
      opened_ends j t d (codes "body") q _ (h.in_body j more d q r)

-- behind the head
pub after_head_ends : (t : Token) (k c : ℕ) → IsLeft t k c → (j : ℕ) → k ≤ j + 3 → (p : Page) →
    rank p ≤ c + 1 → Ends j (after_head t p)
after_head_ends (Char n) k c h j more p r =
    taken_or (is_space n) _ (body_implied_ends (Char n) k c h j more p r)
after_head_ends (Start tag) k c h j more p r = let name = tag.name in
    taken_or (of kind.Html name) _ (taken_or (of kind.Body name) _
    (taken_or (of kind.Frameset name) _ (taken_or (of kind.HeadContent name) _
    (taken_or (of kind.Head name) _ (body_implied_ends (Start tag) k c h j more p r)))))
after_head_ends (End name) k c h j more p r =
    either_ends (opens_body name) (body_implied_ends (End name) k c h j more p r) taken
after_head_ends Finish k c h j more p r = body_implied_ends Finish k c h j more p r

pub after_frameset_ends : (t : Token) (k : ℕ) (p : Page) → Ends k (after_frameset t p)
after_frameset_ends (Char n) k p = taken_or (is_space n) _ taken
after_frameset_ends (Start tag) k p =
    taken_or (of kind.Html tag.name) _ (taken_or (is_noframes tag.name) _ taken)
after_frameset_ends (End name) k p = taken_or (of kind.Html name) _ taken
after_frameset_ends Finish k p = taken

pub in_frameset_ends : (t : Token) (k : ℕ) (p : Page) → Ends k (in_frameset t p)
in_frameset_ends (Char n) k p = taken_or (is_space n) _ taken
in_frameset_ends (Start tag) k p = let name = tag.name in
    taken_or (of kind.Html name) _ (taken_or (of kind.Frameset name) _
    (taken_or (is_frame name) _ (taken_or (is_noframes name) _ taken)))
in_frameset_ends (End name) k p = taken_or (of kind.Frameset name) _ taken
in_frameset_ends Finish k p = taken

module _ (k c : ℕ) (p : Page) where
  pub in_head_ends : (t : Token) → Ends k (left t p) → Ends k (in_head t p)
  in_head_ends (Char n) l = taken_or (is_space n) _ l
  in_head_ends (Start tag) l = let name = tag.name in
      taken_or (of kind.Html name) _ (taken_or (of kind.HeadContent name) _
      (taken_or (of kind.Noscript name) _ (taken_or (of kind.Head name) _ l)))
  in_head_ends (End name) l =
      taken_or (of kind.Head name) _ (either_ends (opens_body name) l taken)
  in_head_ends Finish l = l

  noscript_left_ends : (t : Token) → IsLeft t k c → rank p ≤ c → Ends k (noscript_left t p)
  noscript_left_ends t h r = left_ends t k c h (noted error.UnexpectedInNoscript p) r

  pub in_noscript_ends : (t : Token) → IsLeft t k c → rank p ≤ c → Ends k (in_head_noscript t p)
  in_noscript_ends (Char n) h r = taken_or (is_space n) _ (noscript_left_ends (Char n) h r)
  in_noscript_ends (Start tag) h r = let name = tag.name in
      taken_or (of kind.Html name) _ (taken_or (of kind.NoscriptContent name) _
      (taken_or (of kind.Head name || of kind.Noscript name) _
      (noscript_left_ends (Start tag) h r)))
  in_noscript_ends (End name) h r = taken_or (of kind.Noscript name) _
      (either_ends (of kind.Br name) (noscript_left_ends (End name) h r) taken)
  in_noscript_ends Finish h r = noscript_left_ends Finish h r

  pub in_text_ends : (t : Token) → IsLeft t k c → rank p ≤ c → Ends k (in_text t p)
  in_text_ends (Char n) h r = taken
  in_text_ends (Start tag) h r = taken
  in_text_ends (End name) h r = taken
  in_text_ends Finish h r = left_ends Finish k c h p r

  -- a `template` in which none but content of the head stands gets a mode, which is a turn
  is_set : (name : List ℕ) (ms : List TemplateMode) → unset (template_mode name ∷ ms) ≡ 0
  is_set name ms = let left = λ (m : TemplateMode). unset (m ∷ ms) in
      either_way left (begins_part name) refl (either_way left (of kind.Col name) refl
      (either_way left (of kind.Tr name) refl (either_way left (of kind.Cell name) refl refl)))

  pub in_template_ends : (t : Token) → IsLeft t k c → unset p.templates ≡ 1 → rank p ≤ c →
      Ends k (in_template t p)
  in_template_ends (Char n) h u r = in_body_ends k c (Char n) h.other p r
  in_template_ends (Start tag) h u r =
      let mode = template_mode tag.name in
      taken_or (of kind.HeadContent tag.name) _ (again (h.lower (in_mode mode p) (omega (
        arith,
        is_set tag.name (drop 1 p.templates),
        u,
        r,
      ))))
  in_template_ends (End name) h u r = taken
  in_template_ends Finish h u r = in_body_ends k c Finish h.other p r
