-- The turns of a token in a body: it is taken, but for that of an `image`.
use Rattle.std.proofs.Common.{◌≡◌, ◌≤◌, ℕ, suc, true, false, not, ◌&&◌, arith, codes, List, [], refl}
use Rattle.html_names_core.specs.Names.{stands_in}
use Rattle.html_page_names.specs.PageNames.{of}
use Rattle.html_page_names.specs.declared.kind.Kind.TheVariants as kind
use Rattle.html_page_stack.specs.declared.modes.Destination.{Destination}
use Rattle.html_page_stack.specs.declared.modes.Mode.TheVariants.{InBody}
use Rattle.html_page_stack.specs.Pages.{Page, StartTag, Token, Char, Start, End, Finish, noted}
use Rattle.html_page_stack.specs.declared.error.PageError.TheVariants as error
use Rattle.html_page_tree.specs.PageBodies.{barred_by_tag, in_body, in_body_begun, in_body_end, in_body_start, is_hidden_input, is_nested}
use Rattle.html_page_stack.specs.OpenElements.{in_scope}
use Rattle.html_page_stack.specs.declared.modes.Scope.TheVariants as scope
use Rattle.html_page_tree.specs.PageTrees.{page_mode}
use Rattle.html_page_tree_laws.specs.TokensTaken.{taken_within}
use Rattle.html_page_tree_laws.proofs.Branches.{either_way}
use Rattle.html_page_tree_laws.proofs.Lengths.{rank}
use Rattle.html_page_tree_laws.proofs.Turns.{Ends, Others, again, begun, begun_rank, begun_turn, ends_if, is_image, taken, taken_or}

-- what that of an `image` becomes
abbrev pub renamed : StartTag → Token
renamed tag = Start (record tag { name = codes "img" })

no_image : (tag : StartTag) → is_image (renamed tag) ≡ false
unfolding stands_in of
no_image tag = refl

-- what is known of that
abbrev pub Renamed : StartTag → (k c : ℕ) → Type 0
Renamed tag k c = of kind.Image tag.name ≡ true → (q : Page) → rank q ≤ c →
    taken_within k (renamed tag) q ≡ true

start_begun : (k c : ℕ) (tag : StartTag) → Renamed tag k c → (p : Page) → rank p ≤ c →
    Ends k (in_body_begun tag p)
start_begun k c tag h p r = let name = tag.name in
    taken_or (of kind.Root name) _ (taken_or (of kind.HeadContent name) _
    (taken_or (of kind.Frameset name) _ (taken_or (of kind.Misplaced name) _
    (ends_if (of kind.Image name) (λ e. again (h e (noted error.ImageTag p) r))
    (λ e. taken_or (is_nested name p) _
    (taken_or (of kind.Select name && in_scope scope.General (of kind.Select) p.stack) _
    taken))))))

start_ends : (k c : ℕ) (tag : StartTag) → Renamed tag k c → (p : Page) → rank p ≤ c →
    Ends k (in_body_start tag p)
start_ends k c tag h p r =
    let same : rank (barred_by_tag tag p) ≡ rank p =
    either_way rank (of kind.BarsFrameset tag.name && not (is_hidden_input tag)) refl refl in
    start_begun k c tag h (barred_by_tag tag p) (omega (arith, same, r))

module _ (k c : ℕ) where
  pub in_body_start_ends : (tag : StartTag) → Others (Start tag) k c → (p : Page) → rank p ≤ c →
      Ends k (in_body_start tag p)
  in_body_start_ends tag h p r =
      start_ends k c tag (λ e q s. h e (renamed tag) (no_image tag) q s) p r

  pub in_body_end_ends : (name : List ℕ) → Others (End name) k c → (p : Page) → rank p ≤ c →
      Ends k (in_body_end name p)
  in_body_end_ends name h p r = taken_or (of kind.Root name) _ (ends_if (of kind.Br name) (λ e.
      let tag : StartTag = record { name = name; attrs = []; closed = false } in
      start_ends k c tag (λ i q s. h e (renamed tag) (no_image tag) q s)
      (noted error.EndTagBr p) r) (λ e. taken))

  pub in_body_ends : (t : Token) → Others t k c → (p : Page) → rank p ≤ c → Ends k (in_body t p)
  in_body_ends (Char n) h p r = taken
  in_body_ends (Start tag) h p r = in_body_start_ends tag h p r
  in_body_ends (End name) h p r = in_body_end_ends name h p r
  in_body_ends Finish h p r = taken

body_mode : (d : Destination) (p : Page) → page_mode (begun d (codes "body") p) ≡ InBody
unfolding stands_in of
body_mode d p = refl

-- in a body that was just begun
pub body_taken : (k c : ℕ) (t : Token) → Others t k c → (d : Destination) (p : Page) →
    suc (rank p) ≤ c → taken_within (suc k) t (begun d (codes "body") p) ≡ true
body_taken k c t h d p r =
    let same = begun_rank d (codes "body") p in
    let less : rank (begun d (codes "body") p) ≤ c = omega (arith, same, r) in
    begun_turn k t InBody d (codes "body") p (body_mode d p)
    (in_body_ends k c t h (begun d (codes "body") p) less)
