-- Where a page takes the end tag of the current node's name, the tag closes it.
use Rattle.std.proofs.Common.{◌≡◌, arith, ℕ, Bool, true, false, not, ◌&&◌, ◌||◌, ◌==◌, List, [], ◌∷◌, length, inl, inr, refl, sym, ap, subst, ◌∙◌}
use Rattle.std.proofs.Math.Dec.{eqb-suc-zero}
use Rattle.std.proofs.lemmas.Bool.{and_from, and_parts, and_right, cases_Bool, eqb-true, false≢true, le-leb, not-true, or_left, or_parts}
use Rattle.std.proofs.lemmas.{Option.{none-some, same_Some}, Slice.Eq.{bytes_eq-Decides}}
use Rattle.std.specs.{Option.{option_or}, Prelude.{Some, None, codes, if◌then◌else◌}}
use Rattle.html_page_names.specs.PageNames.{is, of}
use Rattle.html_page_names.specs.declared.kind.Kind.TheVariants as kind
use Rattle.html_page_stack.specs.Adoption.{furthest_block}
use Rattle.html_page_stack.specs.Formats.{Format, Formats, ends_with, is_entry_of, is_last, is_listed, is_named, is_open, last_entry}
use Rattle.html_page_stack.specs.OpenElements.{OpenElement, at, bounds, current_name, in_scope, is_at, is_html, is_of, is_opened, is_special, mode, reaches}
use Rattle.html_page_stack.specs.Pages.{Page, End, Taken, added_in, closed, closed_in, closed_named, closed_over, closed_to, closed_to_goal, closed_while, has_unmade, implied_closed, is_full, names_behind, passed_end, no_name, noted, noted_if, taken_with}
use Rattle.html_page_stack.specs.declared.error.PageError.TheVariants as error
use Rattle.html_page_stack.specs.declared.modes.Space.TheVariants.{Html}
use Rattle.html_page_stack.specs.declared.modes.{Mode.{Mode}, Scope.{Scope}, Mode.TheVariants.{InBody, InTable, InSection, InRow, InCell}}
use Rattle.html_page_stack.specs.declared.modes.Scope.TheVariants as scope
use Rattle.html_page_tree.proofs.Branches.{either, pick, skip}
use Rattle.html_page_tree.specs.OwnEnds.{closes_in, closes_in_body, closes_in_cell, is_of_table, takes_own_end}
use Rattle.html_page_tree.specs.PageBodies.{Agency, Settled, adopted, agency, agency_run, behind_agency, element_ended, format_closed, format_ended, format_removed, format_taken, in_body_end, other_closed, p_closed, p_ended}
use Rattle.html_page_tree.specs.PageTrees.{by_mode, cleared_to, in_cell, current_part_closed, in_foreign, is_unseen, mode_within, page_mode, part_closed, processed, token_read, turn}

-- where each element was made, no end tag is passed over
pub none_passed : (n : List ℕ) (p : Page) → not (has_unmade p) ≡ true → passed_end n p ≡ None
none_passed n p h = by_names p.unmade h where
  by_names : (names : List (List ℕ)) → not (not (length names == 0)) ≡ true →
      names_behind names (if is_full p then p.limit else 0) n ≡ None
  by_names [] h = refl
  by_names (m ∷ ms) h =
      absurd (false≢true (sym (ap (λ b. not (not b)) (eqb-suc-zero (length ms))) ∙ h))

-- the last entry is one that passes the test
record EndsWith (test : Format → Bool) (fs : Formats) : Type 0 where
  format : Format
  rest : Formats
  is : fs ≡ Some format ∷ rest
  passes : test format ≡ true

last_of : (test : Format → Bool) (fs : Formats) → ends_with test fs ≡ true → EndsWith test fs
last_of test [] h = absurd (false≢true h)
last_of test (None ∷ fs) h = absurd (false≢true h)
last_of test (Some f ∷ fs) h = record { format = f; rest = fs; is = refl; passes = h }

-- the current node, an element of HTML
module _ (p : Page) (o : OpenElement) (os : List OpenElement) (html : is_html o.space ≡ true) where
  abbrev n : List ℕ
  n = o.head.name

  abbrev q : Page
  q = record p { stack = o ∷ os }

  pub named : is n n ≡ true
  named = (bytes_eq-Decides n n).1 refl

  pub but_named : (but : List ℕ → Bool) → but n ≡ true → (of kind.Implied n && not (but n)) ≡ false
  but_named but h = and_right (of kind.Implied n) (not (but n)) (ap not h)

  pub none_implied : (but : List ℕ → Bool) → (of kind.Implied n && not (but n)) ≡ false →
      implied_closed but q ≡ q
  none_implied but h = rw (html, h) refl

  pub closes : (test : List ℕ → Bool) → test n ≡ true → closed_to test q ≡ closed true q
  closes test h = rw (html, h) refl

  pub cleared : (test : List ℕ → Bool) → test n ≡ true → cleared_to test q ≡ q
  cleared test h = rw (html, h) refl

  pub at_name : (test : List ℕ → Bool) → test n ≡ true → is_at test q.stack ≡ true
  at_name test h = and_from (is_html o.space) (test n) html h

  -- the search for such an element ends at the current node
  pub reached : (test : List ℕ → Bool) (bound : OpenElement → Bool) → test n ≡ true →
      reaches (is_of test) bound q.stack ≡ true
  reached test bound h = or_left (is_of test o) _ (at_name test h)

  pub named_closed : (name test : List ℕ → Bool) → name n ≡ true → test n ≡ true →
      closed_named name test q ≡ closed true q
  named_closed name test g h =
      ap (λ b. closed_to test (noted_if (not b) error.EndTagOverOpenElements q)) (at_name name g)
      ∙ closes test h

  pub over : (name test but : List ℕ → Bool) → name n ≡ true → test n ≡ true →
      (of kind.Implied n && not (but n)) ≡ false → closed_over name test but q ≡ closed true q
  over name test but g h k =
      ap (closed_named name test) (none_implied but k) ∙ named_closed name test g h

  pub within : (s : Scope) (test but : List ℕ → Bool) → test n ≡ true →
      (of kind.Implied n && not (but n)) ≡ false → closed_in s (is n) test but q ≡ closed true q
  within s test but h k =
      ap (λ b. if b then closed_over (is n) test but q else noted error.EndTagWithoutStart q)
      (reached test (bounds s) h)
      ∙ over (is n) test but named h k

  pub end_p : of kind.P n ≡ true → p_ended q ≡ closed true q
  end_p h =
      let scoped = reached (of kind.P) (bounds scope.Button) h in
      ap (λ b. if b then p_closed q
      else added_in Html (codes "p") [] (noted error.EndTagWithoutStart q)) scoped
      ∙ (ap (λ b. if b then closed_over (of kind.P) (of kind.P) (of kind.P) q else q) scoped
      ∙ over (of kind.P) (of kind.P) (of kind.P) h h (but_named (of kind.P) h))

  pub end_other : other_closed n q ≡ closed true q
  end_other =
      ap (λ b. if b then closed_over (is n) (is n) (is n) q else noted error.EndTagWithoutStart q)
      (reached (is n) is_special named)
      ∙ over (is n) (is n) (is n) named named (but_named (is n) named)

  -- the entry of the current node is the last
  module _ (f : Format) (rest : Formats) (its : is_entry_of o (length os) f ≡ true) where
    opened : is_opened f.name f.span o ≡ true
    opened = (and_parts (f.index == length os) _ its).1

    same_name : n ≡ f.name
    same_name = (bytes_eq-Decides n f.name).0
        (and_parts (is_html o.space) _ (and_parts (is_of (is f.name) o) _ opened).0).1

    named_so : is_named n f ≡ true
    named_so = (bytes_eq-Decides f.name n).1 (sym same_name)

    is_goal : is_opened n f.span o ≡ true
    is_goal = and_from (is_of (is n) o) _ (at_name (is n) named)
        (and_parts (is_of (is f.name) o) _ opened).1

    open_still : is_open f (o ∷ os) ≡ true
    open_still = or_left (is_entry_of o (length os) f) _ its

    no_block : furthest_block f.index (o ∷ os) ≡ None
    no_block = let here = eqb-true f.index (length os) (and_parts (f.index == length os) _ its).0 in
        ap (λ b. if b then None else option_or (furthest_block f.index os)
        (if is_special o then Some (length os) else None))
        (le-leb (length os) f.index (omega (arith, here)))

    closed_at_once : closed_to_goal (is_opened n f.span) q ≡ closed true q
    closed_at_once = ap (λ b. closed true (if not b then
        closed_while (λ s. not (at (is_opened n f.span) s)) (length os) (closed false q) else q))
        is_goal

    goal_closed : format_closed n f.span q ≡ closed true q
    goal_closed = ap (λ b. closed_to_goal (is_opened n f.span)
        (noted_if (not b) error.EndTagOverOpenElements q)) is_goal ∙ closed_at_once

    in_scope_still : reaches (is_opened n f.span) (bounds scope.General) (o ∷ os) ≡ true
    in_scope_still = or_left (is_opened n f.span o) _ is_goal

    last_ended : format_ended n (Some f) q ≡ Settled (closed true q)
    last_ended =
        ap (λ b. if not b then Settled (noted error.EndTagOfClosedElement (format_removed n q))
        else (if not (reaches (is_opened n f.span) (bounds scope.General) q.stack)
        then Settled (noted error.EndTagWithoutStart q)
        else format_taken n f (furthest_block f.index q.stack) q)) open_still
        ∙ (ap (λ b. if not b then Settled (noted error.EndTagWithoutStart q)
        else format_taken n f (furthest_block f.index q.stack) q) in_scope_still
        ∙ (ap (λ b. format_taken n f b q) no_block ∙ ap Settled goal_closed))

    entry_ended : (fs : Formats) → fs ≡ Some f ∷ rest → q.formats ≡ fs →
        agency n q ≡ Settled (closed true q)
    entry_ended fs e k =
        ap (λ l. format_ended n (last_entry (is_named n) l) q) (k ∙ e)
        ∙ (ap (λ b. format_ended n (if b then Some f else last_entry (is_named n) rest) q) named_so
        ∙ last_ended)

  -- the list does not keep the end tag of a formatting element from closing it
  abbrev pub IsFree : Type 0
  IsFree = (not (is_at (of kind.Formatting) (o ∷ os)) || is_last (o ∷ os) p.formats) ≡ true

  run_once : (a : Agency) → a ≡ Settled (closed true q) →
      behind_agency (agency_run 7 n) a ≡ closed true q
  run_once a h = ap (behind_agency (agency_run 7 n)) h

  pub end_formatting : of kind.Formatting n ≡ true → IsFree → adopted n q ≡ closed true q
  unfolding agency_run
  end_formatting formatting free =
      let is_format = at_name (of kind.Formatting) formatting in
      let last = last_of (is_entry_of o (length os)) p.formats (rw is_format at free) in
      either (is_at (is n) q.stack && not (is_listed q.stack q.formats)) _ _ (closed true q)
      (λ _. refl)
      (λ _. run_once (agency n q)
      (entry_ended last.format last.rest last.passes p.formats last.is refl))

  end_element : closes_in_body n ≡ true → IsFree →
      element_ended n q ≡ closed true q
  end_element h l =
      let form : of kind.Form n ≡ false = grind arith in
      let template : of kind.Template n ≡ false = grind arith in
      let implied : (of kind.Implied n && (of kind.Heading n || of kind.ClosesInScope n)) ≡ false =
      grind arith in
      rw form (either (of kind.P n) _ _ (closed true q) end_p (λ p.
      either (of kind.ListItem n) _ _ (closed true q)
      (λ h. within scope.ListItem (is n) (is n) named (but_named (is n) named)) (λ i.
      either (of kind.DescriptionPart n) _ _ (closed true q)
      (λ h. within scope.General (is n) (is n) named (but_named (is n) named)) (λ d.
      either (of kind.Heading n) _ _ (closed true q)
      (λ h. within scope.General (of kind.Heading) no_name h (grind arith)) (λ k.
      either (of kind.ClosesInScope n) _ _ (closed true q)
      (λ h. within scope.General (is n) no_name named (grind arith)) (λ c.
      either (of kind.Formatting n) _ _ (closed true q)
      (λ h. end_formatting h l) (λ f. skip _ template end_other)))))))

  end_in_body : closes_in_body n ≡ true → IsFree →
      in_body_end n q ≡ Taken (closed true q)
  end_in_body h l =
      let root : of kind.Root n ≡ false = grind arith in
      let br : of kind.Br n ≡ false = grind arith in
      skip (Taken q) root (skip _ br (ap Taken (end_element h l)))

  pub none_implied_at_all : of kind.Implied n ≡ false → implied_closed no_name q ≡ q
  none_implied_at_all h = none_implied no_name (ap (λ b. b && true) h)

  part_ended : of kind.Cell n ≡ true → of kind.Implied n ≡ false →
      part_closed (of kind.Cell) q ≡ closed true q
  part_ended cell implied =
      ap (current_part_closed (of kind.Cell)) (none_implied_at_all implied)
      ∙ (ap (λ b. closed_to (of kind.Cell) (noted_if (not b) error.CellOverOpenElements q))
      (at_name (of kind.Cell) cell)
      ∙ closes (of kind.Cell) cell)

  end_in_cell : closes_in_cell n ≡ true → IsFree →
      in_cell (End n) q ≡ Taken (closed true q)
  end_in_cell h l = elim (cases_Bool (of kind.Cell n)) [
    | inl cell ↦
        let implied = not-true (of kind.Implied n) (rw cell at h) in
        let scoped = reached (is n) (bounds scope.Table) named in
        rw (cell, scoped) (ap Taken (part_ended cell implied))
    | inr other ↦
        let both = and_parts (not (is_of_table n)) (closes_in_body n) (rw other at h) in
        let parts = or_parts (of kind.Section n) _ (not-true _ both.0) in
        let row = or_parts (of kind.Tr n) _ parts.1 in
        let table = or_parts (of kind.Table n) (of kind.TablePart n) row.1 in
        let body = and_parts (not (of kind.Root n
        || (of kind.Br n || (of kind.Form n || of kind.Template n)))) _ both.1 in
        let root = (or_parts (of kind.Root n) _ (not-true _ body.0)).0 in
        let closes : (of kind.Cell n || of kind.Section n || of kind.Tr n || of kind.Table n) ≡ false =
        rw (other, parts.0, row.0, table.0) refl in
        let part : (of kind.TablePart n || of kind.Table n || of kind.Root n) ≡ false =
        rw (table.1, table.0, root) refl in
        skip _ (ap (λ b. b && in_scope scope.Table (is n) q.stack) closes)
        (skip (taken_with error.EndTagWithoutStart q) part (end_in_body both.1 l))
  ]

  end_in_mode : (m : Mode) → closes_in m n ≡ true → IsFree →
      by_mode (mode_within m p.templates p.framesets) (End n) q ≡ Taken (closed true q)
  end_in_mode InBody h l = end_in_body h l
  end_in_mode InCell h l = end_in_cell h l
  end_in_mode InRow h l = pick _
      (and_from (of kind.Tr n) _ h (reached (of kind.Tr) (bounds scope.Table) h))
      (ap (λ s. Taken (closed true s)) (cleared (of kind.Tr) h))
  end_in_mode InSection h l = pick _
      (and_from (of kind.Section n) _ h (reached (is n) (bounds scope.Table) named))
      (ap (λ s. Taken (closed true s)) (cleared (of kind.Section) h))
  end_in_mode InTable h l = pick _
      (and_from (of kind.Table n) _ h (reached (of kind.Table) (bounds scope.Table) h))
      (ap Taken (closes (of kind.Table) h))
  end_in_mode _ h l = absurd (false≢true h)

  end_taken : takes_own_end q ≡ true → token_read (End n) q ≡ closed true q
  unfolding takes_own_end processed token_read
  end_taken h =
      let seen = and_parts (not (is_unseen p.tables)) _ h in
      let kept = and_parts (is_at (closes_in (mode q.stack)) q.stack) _ seen.1 in
      let closes_itself = (and_parts (is_html o.space) _ kept.0).1 in
      let free = and_parts (not (has_unmade p)) _ kept.1 in
      let turned : turn (End n) q ≡ Taken (closed true q) =
      ap (λ b. if not b then in_foreign (End n) q else by_mode (page_mode q) (End n) q) html
      ∙ end_in_mode (mode q.stack) closes_itself free.1 in
      rw (seen.0, none_passed n q free.0, turned) refl

is_html_at : (o : OpenElement) (os : List OpenElement) (p : Page) →
    takes_own_end (record p { stack = o ∷ os }) ≡ true → is_html o.space ≡ true
unfolding takes_own_end
is_html_at o os p h = grind arith

of_stack : (s : List OpenElement) (n : List ℕ) (p : Page) → current_name s ≡ Some n →
    takes_own_end (record p { stack = s }) ≡ true →
    token_read (End n) (record p { stack = s }) ≡ closed true (record p { stack = s })
of_stack [] n p e h = absurd (none-some n e)
of_stack (o ∷ os) n p e h =
    let html = is_html_at o os p h in
    subst (λ m. token_read (End m) (record p { stack = o ∷ os }) ≡ closed true (record p { stack = o ∷ os }))
    (same_Some o.head.name n e) (end_taken p o os html h)

pub own_end_taken : (n : List ℕ) (p : Page) → current_name p.stack ≡ Some n →
    takes_own_end p ≡ true → token_read (End n) p ≡ closed true p
own_end_taken n p e h = of_stack p.stack n p e h
