-- The turns of a token in a table: it closes parts of it, or opens those that it implies.
use Rattle.std.proofs.Common.{◌≡◌, ◌≤◌, ℕ, Bool, true, not, ◌||◌, ◌&&◌, arith, codes, List, length, refl}
use Rattle.std.{proofs.lemmas.Bool.{both_ways}}
use Rattle.html_names_core.specs.Names.{stands_in}
use Rattle.html_page_names.specs.PageNames.{is, of}
use Rattle.html_page_names.specs.declared.kind.Kind.TheVariants as kind
use Rattle.html_page_stack.specs.OpenElements.{at, holds_table_text, in_scope, is_at}
use Rattle.html_page_stack.specs.declared.modes.Destination.{Destination}
use Rattle.html_page_stack.specs.declared.modes.Mode.TheVariants.{InColumns, InRow, InSection}
use Rattle.html_page_stack.specs.declared.modes.Scope.TheVariants as scope
use Rattle.html_page_stack.specs.Pages.{Page, StartTag, Token, Char, Start, End, Finish, destination_of, implied_closed, no_name, noted, noted_if}
use Rattle.html_page_stack.specs.declared.error.PageError.TheVariants as error
use Rattle.html_page_tree.specs.PageBodies.{is_hidden_input, is_space}
use Rattle.html_page_tree.specs.PageTrees.{begins_part, cleared_to, columns_left, current_part_closed, ends_around_row, ends_nothing_in_table, has_table, stays_in_table, in_caption, in_cell, in_columns, in_part_end, in_part_start, in_row, in_section, in_table, in_table_end, in_table_other, in_table_start, page_mode, part_closed, part_implied, part_left}
use Rattle.html_page_tree_laws.specs.TokensTaken.{taken_within}
use Rattle.html_page_tree_laws.proofs.Bodies.{in_body_end_ends, in_body_ends, in_body_start_ends}
use Rattle.html_page_tree_laws.proofs.Branches.{of_two}
use Rattle.html_page_tree_laws.proofs.Lengths.{IsNoLonger, closed_to_still, implied_still, noted_if_still, noted_still, rank, rank_at_most, still, while_still}
use Rattle.html_page_tree_laws.proofs.Turns.{Ends, IsLeft, begun, begun_turn, either_ends, ends_if, left_ends, more_turns, opened_ends, resumed_ends, taken, taken_or}

-- a start tag right in the part of a table that it implies

colgroup_mode : (d : Destination) (p : Page) → page_mode (begun d (codes "colgroup") p) ≡ InColumns
unfolding stands_in of
colgroup_mode d p = refl

section_mode : (d : Destination) (p : Page) → page_mode (begun d (codes "tbody") p) ≡ InSection
unfolding stands_in of
section_mode d p = refl

row_mode : (d : Destination) (p : Page) → page_mode (begun d (codes "tr") p) ≡ InRow
unfolding stands_in of
row_mode d p = refl

module _ (tag : StartTag) (d : Destination) (p : Page) where
  col_taken : (k : ℕ) → 1 ≤ k → of kind.Col tag.name ≡ true →
      taken_within k (Start tag) (begun d (codes "colgroup") p) ≡ true
  col_taken k some e = more_turns 1 k (Start tag) (begun d (codes "colgroup") p) some
      (begun_turn 0 (Start tag) InColumns d (codes "colgroup") p (colgroup_mode d p)
      (ends_if (of kind.Col tag.name) (λ y. taken) (λ n. absurd (both_ways _ n e))))

  cell_taken : (k : ℕ) → 1 ≤ k → of kind.Cell tag.name ≡ true →
      taken_within k (Start tag) (begun d (codes "tr") p) ≡ true
  cell_taken k some e = more_turns 1 k (Start tag) (begun d (codes "tr") p) some
      (begun_turn 0 (Start tag) InRow d (codes "tr") p (row_mode d p)
      (ends_if (of kind.Cell tag.name) (λ y. taken) (λ n. absurd (both_ways _ n e))))

-- a cell opens its row before it
row_implied : (tag : StartTag) (k : ℕ) (p : Page) → 1 ≤ k → of kind.Cell tag.name ≡ true →
    Ends k (part_implied (codes "tr") tag p)
row_implied tag k p some e =
    let d = destination_of (codes "tr") in
    opened_ends k (Start tag) d (codes "tr") p _ (cell_taken tag d p k some e)

columns_implied : (tag : StartTag) (k : ℕ) (p : Page) → 1 ≤ k → of kind.Col tag.name ≡ true →
    Ends k (part_implied (codes "colgroup") tag p)
columns_implied tag k p some e =
    let d = destination_of (codes "colgroup") in
    opened_ends k (Start tag) d (codes "colgroup") p _ (col_taken tag d p k some e)

section_taken : (tag : StartTag) (d : Destination) (p : Page) (k : ℕ) → 2 ≤ k →
    (of kind.Tr tag.name || of kind.Cell tag.name) ≡ true →
    taken_within k (Start tag) (begun d (codes "tbody") p) ≡ true
section_taken tag d p k some e =
    more_turns 2 k (Start tag) (begun d (codes "tbody") p) some
    (begun_turn 1 (Start tag) InSection d (codes "tbody") p (section_mode d p)
    (ends_if (of kind.Tr tag.name) (λ y. taken) (λ n. ends_if (of kind.Cell tag.name)
    (λ y. row_implied tag 1 _ (omega arith) y)
    (λ m. absurd (of_two e (both_ways _ n) (both_ways _ m))))))

section_implied : (tag : StartTag) (k : ℕ) (p : Page) → 2 ≤ k →
    (of kind.Tr tag.name || of kind.Cell tag.name) ≡ true →
    Ends k (part_implied (codes "tbody") tag p)
section_implied tag k p some e =
    let d = destination_of (codes "tbody") in
    opened_ends k (Start tag) d (codes "tbody") p _ (section_taken tag d p k some e)

-- clearing the stack back, and closing a part of a table

cleared_still : (test : List ℕ → Bool) (p : Page) → IsNoLonger (cleared_to test p) p
cleared_still test p = while_still _ (length p.stack) p

current_still : (test : List ℕ → Bool) (p : Page) → IsNoLonger (current_part_closed test p) p
current_still test p = still (closed_to_still test _)
    (noted_if_still (not (is_at test p.stack)) error.CellOverOpenElements p)

part_still : (test : List ℕ → Bool) (p : Page) → IsNoLonger (part_closed test p) p
part_still test p = still (current_still test (implied_closed no_name p)) (implied_still no_name p)

module _ (k c : ℕ) (p : Page) where
  in_table_other_ends : (tag : StartTag) → IsLeft (Start tag) k c → rank p ≤ c →
      Ends k (in_table_other tag p)
  in_table_other_ends tag h r =
      let name = tag.name in
      let nested = noted error.NestedElement p in
      let shorter = still (closed_to_still (of kind.Table) nested)
      (noted_still error.NestedElement p) in
      either_ends (of kind.Table name)
      (either_ends (has_table p) (resumed_ends (Start tag) k c h p _ r shorter) taken)
      (taken_or (stays_in_table name) _ (taken_or (of kind.Root name) _
      (taken_or (of kind.Misplaced name) _ (taken_or (is_hidden_input tag) _
      (taken_or (of kind.Form name) _
      (in_body_start_ends k c tag h.other (noted error.FosterParenting p) r))))))

  in_table_start_ends : (tag : StartTag) → IsLeft (Start tag) k c → rank p ≤ c →
      Ends k (in_table_start tag p)
  in_table_start_ends tag h r = taken_or (begins_part tag.name) _ (ends_if (of kind.Col tag.name)
      (λ e. columns_implied tag k _ (omega (arith, h.enough)) e)
      (λ e. ends_if (of kind.Tr tag.name || of kind.Cell tag.name)
      (λ y. section_implied tag k _ (omega (arith, h.enough)) y)
      (λ n. in_table_other_ends tag h r)))

  in_table_end_ends : (name : List ℕ) → IsLeft (End name) k c → rank p ≤ c →
      Ends k (in_table_end name p)
  in_table_end_ends name h r =
      let b = not (of kind.Template name) in
      taken_or (of kind.Table name && has_table p) _ (taken_or (ends_nothing_in_table name) _
      (in_body_end_ends k c name h.other (noted_if b error.FosterParenting p)
      (rank_at_most _ p c (noted_if_still b error.FosterParenting p) r)))

  pub in_table_ends : (t : Token) → IsLeft t k c → rank p ≤ c → Ends k (in_table t p)
  in_table_ends (Char n) h r = taken_or (at holds_table_text p.stack) _ taken
  in_table_ends (Start tag) h r = in_table_start_ends tag h r
  in_table_ends (End name) h r = in_table_end_ends name h r
  in_table_ends Finish h r = taken

  columns_left_ends : (t : Token) → IsLeft t k c → rank p ≤ c →
      Ends k (columns_left t p)
  columns_left_ends t h r =
      either_ends (is_at (of kind.Colgroup) p.stack) (left_ends t k c h p r) taken

  pub in_columns_ends : (t : Token) → IsLeft t k c → rank p ≤ c → Ends k (in_columns t p)
  in_columns_ends (Char n) h r =
      taken_or (is_space n) _ (columns_left_ends (Char n) h r)
  in_columns_ends (Start tag) h r = let name = tag.name in
      taken_or (of kind.Col name) _ (taken_or (of kind.Html name) _
      (taken_or (of kind.Template name) _
      (columns_left_ends (Start tag) h r)))
  in_columns_ends (End name) h r =
      taken_or (of kind.Colgroup name && is_at (of kind.Colgroup) p.stack) _
      (taken_or (of kind.Col name) _ (taken_or (of kind.Template name) _
      (columns_left_ends (End name) h r)))
  in_columns_ends Finish h r = taken

  part_left_ends : (test : List ℕ → Bool) (t : Token) → IsLeft t k c →
      rank p ≤ c → Ends k (part_left test t p)
  part_left_ends test t h r =
      let cleared = cleared_to test p in
      either_ends (in_scope scope.Table test p.stack) (left_ends t k c h cleared
      (rank_at_most cleared p c (cleared_still test p) r)) taken

  pub in_section_ends : (t : Token) → IsLeft t k c → rank p ≤ c → Ends k (in_section t p)
  in_section_ends (Char n) h r = in_table_ends (Char n) h r
  in_section_ends (Start tag) h r = taken_or (of kind.Tr tag.name) _
      (ends_if (of kind.Cell tag.name)
      (λ e. row_implied tag k _ (omega (arith, h.enough)) e)
      (λ e. either_ends (of kind.TablePart tag.name)
      (part_left_ends (of kind.Section) (Start tag) h r)
      (in_table_ends (Start tag) h r)))
  in_section_ends (End name) h r =
      taken_or (of kind.Section name && in_scope scope.Table (is name) p.stack) _
      (either_ends (of kind.Table name)
      (part_left_ends (of kind.Section) (End name) h r)
      (in_table_ends (End name) h r))
  in_section_ends Finish h r = taken

  pub in_row_ends : (t : Token) → IsLeft t k c → rank p ≤ c → Ends k (in_row t p)
  in_row_ends (Char n) h r = in_table_ends (Char n) h r
  in_row_ends (Start tag) h r = taken_or (of kind.Cell tag.name) _
      (either_ends (of kind.TablePart tag.name)
      (part_left_ends (of kind.Tr) (Start tag) h r)
      (in_table_ends (Start tag) h r))
  in_row_ends (End name) h r =
      taken_or (of kind.Tr name && in_scope scope.Table (of kind.Tr) p.stack) _
      (either_ends (ends_around_row name p)
      (part_left_ends (of kind.Tr) (End name) h r)
      (in_table_ends (End name) h r))
  in_row_ends Finish h r = taken

  part_end_ends : (test : List ℕ → Bool) (closes : Bool) (name : List ℕ) →
      IsLeft (End name) k c → rank p ≤ c → Ends k (in_part_end test closes name p)
  part_end_ends test closes name h r = either_ends closes
      (taken_or (test name) _ (resumed_ends (End name) k c h p _ r (part_still test p)))
      (taken_or (of kind.TablePart name || of kind.Table name || of kind.Root name) _
      (in_body_end_ends k c name h.other p r))

  part_start_ends : (test : List ℕ → Bool) (tag : StartTag) → IsLeft (Start tag) k c →
      rank p ≤ c → Ends k (in_part_start test tag p)
  part_start_ends test tag h r = either_ends (of kind.TablePart tag.name)
      (resumed_ends (Start tag) k c h p _ r (part_still test p))
      (in_body_start_ends k c tag h.other p r)

  pub in_cell_ends : (t : Token) → IsLeft t k c → rank p ≤ c → Ends k (in_cell t p)
  in_cell_ends (Char n) h r = in_body_ends k c (Char n) h.other p r
  in_cell_ends (Start tag) h r = part_start_ends (of kind.Cell) tag h r
  in_cell_ends (End name) h r = part_end_ends (of kind.Cell)
      ((of kind.Cell name || of kind.Section name || of kind.Tr name || of kind.Table name)
      && in_scope scope.Table (is name) p.stack) name h r
  in_cell_ends Finish h r = in_body_ends k c Finish h.other p r

  pub in_caption_ends : (t : Token) → IsLeft t k c → rank p ≤ c → Ends k (in_caption t p)
  in_caption_ends (Char n) h r = in_body_ends k c (Char n) h.other p r
  in_caption_ends (Start tag) h r = part_start_ends (of kind.Caption) tag h r
  in_caption_ends (End name) h r = part_end_ends (of kind.Caption)
      (of kind.Caption name || of kind.Table name) name h r
  in_caption_ends Finish h r = in_body_ends k c Finish h.other p r
