-- How the adoption agency algorithm moves an element out of the formatting element around it (HTML
-- Standard 13.2.6.4.7): the nearest special element in it, the furthest block.
use Rattle.std.specs.Prelude.{ℕ, zero, suc, ◌+◌, ◌-◌, Bool, ◌&&◌, ◌==◌, nat_lt, nat_le, List, [], ◌∷◌, ◌++◌, drop, length, reverse, take, if◌then◌else◌, Option, Some, None}
use Rattle.std.specs.Option.{option_or}
use Rattle.html_dom_tree.specs.Tree.{none, NodesView}
use Rattle.html_page_stack.specs.Copies.{copies_size, spare_at}
use Rattle.html_page_stack.specs.Formats.{Format, entry_passes, is_open, is_same}
use Rattle.html_page_stack.specs.OpenElements.{OpenElement, closed_times, is_removed, is_special, uncovered}
use Rattle.html_page_stack.specs.Pages.{Page, body_destination, made, refused, settled}
use Rattle.html_page_stack.specs.declared.fault.PageRefusal.TheVariants as refusal
use Rattle.html_page_stack.specs.declared.modes.{Destination.TheVariants.{Parent}, Space.TheVariants.{Html}}

-- the index of the furthest block of the formatting element at that index, outermost first
abbrev pub furthest_block : (index : ℕ) → List OpenElement → Option ℕ
furthest_block index [] = None
furthest_block index (o ∷ os) = if nat_le (length os) index then None
    else option_or (furthest_block index os) (if is_special o then Some (length os) else None)

-- the open elements inside that at an index, those from it outwards, and those around it; all
-- innermost first
abbrev pub inside : (index : ℕ) → List OpenElement → List OpenElement
inside index os = take (length os - suc index) os

abbrev pub outwards : (index : ℕ) → List OpenElement → List OpenElement
outwards index os = drop (length os - suc index) os

abbrev pub around : (index : ℕ) → List OpenElement → List OpenElement
around index os = drop (length os - index) os

-- the index of the last of so many elements from the current node outwards, but for removed ones
abbrev pub index_outwards : (count : ℕ) → List OpenElement → ℕ
index_outwards zero os = length os
index_outwards (suc n) [] = 0
index_outwards (suc n) (o ∷ os) = index_outwards (if is_removed o.space then suc n else n) os

-- how many elements are open, without the innermost that were removed
abbrev pub shown_count : List OpenElement → ℕ
shown_count [] = 0
shown_count (o ∷ os) = if is_removed o.space then shown_count os else suc (length os)

-- a formatting element and its furthest block, by their indices among the open elements
pub record Adoption : Type 0 where
  pub format : Format
  pub block : ℕ
  pub stack : List OpenElement
  -- the index of the third element around the block
  pub third : ℕ
  -- how many elements stay open around the formatting element
  pub base : ℕ

abbrev pub adoption : Format → (block : ℕ) → List OpenElement → Adoption
adoption f block os = record {
  format = f;
  block = block;
  stack = os;
  third = index_outwards 3 (around block os);
  base = shown_count (around f.index os);
}

-- whether the element of the entry stands between them
abbrev pub is_between : Adoption → Format → Bool
is_between a f = is_open f a.stack && (nat_lt a.format.index f.index && nat_lt f.index a.block)

-- whether it is made again around the block: it is one of the three nearest to it
abbrev pub is_kept : Adoption → Format → Bool
is_kept a f = is_between a f && nat_le a.third f.index

-- the entries of these, the first entry first
abbrev pub kept_entries : Adoption → List (Option Format) → List Format
kept_entries a [] = []
kept_entries a (None ∷ fs) = kept_entries a fs
kept_entries a (Some f ∷ fs) = if is_kept a f then f ∷ kept_entries a fs else kept_entries a fs

-- the entry with another index
abbrev pub moved_to : (index : ℕ) → Format → Format
moved_to index f = record f { index = index }

-- the entry of the formatting element, once so many elements are made around the block
abbrev pub new_entry : Adoption → (count : ℕ) → Format
new_entry a count = moved_to (a.base + count + 1) a.format

-- it stands behind the entries of these elements, or in its own place if there are none
abbrev pub entry_if : Bool → Adoption → (count : ℕ) → List (Option Format)
entry_if is_there a count = if is_there then Some (new_entry a count) ∷ [] else []

-- the entry of an element within the block, which gets another index
abbrev pub entry_within : Adoption → (count : ℕ) → Format → Format
entry_within a count f = if is_open f a.stack && nat_lt a.block f.index
    then moved_to (a.base + count + 2 + (f.index - a.block - 1)) f else f

-- what becomes of an entry, where so many elements are made, and so many of them come before it
abbrev pub entry_after : Adoption → (count before : ℕ) → Option Format → List (Option Format)
entry_after a count before None = None ∷ []
entry_after a count before (Some f) = if is_same f a.format then entry_if (count == 0) a count
    else (if is_kept a f
    then Some (moved_to (a.base + before) f) ∷ entry_if (before + 1 == count) a count
    else (if is_between a f then [] else Some (entry_within a count f) ∷ []))

-- how many come before the next entry
abbrev pub count_after : Adoption → (before : ℕ) → Option Format → ℕ
count_after a before e = if entry_passes (is_kept a) e then before + 1 else before

-- the list afterwards, the first entry first
abbrev pub entries_after : Adoption → (count before : ℕ) → List (Option Format) →
    List (Option Format)
entries_after a count before [] = []
entries_after a count before (e ∷ es) =
    entry_after a count before e ++ entries_after a count (count_after a before e) es

-- an element for an entry, with these children
abbrev pub made_for : Format → NodesView → OpenElement
made_for f children = record (made Parent Html f.name f.attrs f.span) { children = children }

-- an element as the rules of a body insert it in others
abbrev pub put_in : (around : List OpenElement) → OpenElement → OpenElement
put_in around o = record o { destination = body_destination Parent around }

-- opens elements for entries, the first entry first
abbrev pub all_made : List Format → List OpenElement → List OpenElement
all_made [] os = os
all_made (f ∷ fs) os = all_made fs (put_in os (made_for f none) ∷ os)

-- opens an element without its children
abbrev pub emptied : OpenElement → List OpenElement → List OpenElement
emptied o os = put_in os (record o { children = none }) ∷ os

-- the open elements afterwards, from the block outwards, whose formatting element stands so many
-- elements outside: elements stand around it for these entries, and in it one for the formatting
-- element, which has its children so far
abbrev pub block_moved : Format → (times : ℕ) → List Format → List OpenElement → List OpenElement
block_moved f times kept [] = []
block_moved f times kept (block ∷ os) = made_for f block.children
    ∷ emptied block (all_made kept (uncovered (closed_times times os)))

abbrev pub stack_after : Adoption → List Format → List OpenElement
stack_after a kept = inside a.block a.stack
    ++ block_moved a.format (a.block - a.format.index) kept (outwards a.block a.stack)

-- the page afterwards, unless too much was made again
abbrev pub moved_by : Adoption → List Format → Page → Page
moved_by a kept p = let size = copies_size (a.format ∷ kept) in
    if nat_le size (spare_at p.start p.copied) then record p {
      stack = stack_after a kept;
      formats = reverse (entries_after a (length kept) 0 (reverse p.formats));
      copied = p.copied + size;
    }
    else refused refusal.TooManyCopies p

-- moves the block at that index out of the formatting element of an entry
abbrev pub adopted_from : Format → (block : ℕ) → Page → Page
adopted_from f block p = let q = settled p in
    let a = adoption f block q.stack in
    moved_by a (kept_entries a (reverse q.formats)) q
