-- When the end tag of the current node's name closes it, and does nothing else.
use Rattle.std.specs.Prelude.{ℕ, Bool, false, not, ◌&&◌, ◌||◌, List, if◌then◌else◌}
use Rattle.html_page_names.specs.PageNames.{of}
use Rattle.html_page_names.specs.declared.kind.Kind.TheVariants as kind
use Rattle.html_page_stack.specs.{Formats.{is_last}, OpenElements.{is_at, mode}, Pages.{Page, has_unmade}, declared.modes.Mode.{Mode}}
use Rattle.html_page_stack.specs.declared.modes.Mode.TheVariants.{InBody, InTable, InSection, InRow, InCell}
use Rattle.html_page_tree.specs.PageTrees.{is_unseen}

-- whether the end tag of a current node of that name in a body closes it, and does nothing else
abbrev pub closes_in_body : (name : List ℕ) → Bool
closes_in_body name = not (of kind.Root name
    || (of kind.Br name || (of kind.Form name || of kind.Template name)))
    && not (of kind.Implied name && (of kind.Heading name || of kind.ClosesInScope name))

abbrev pub is_of_table : (name : List ℕ) → Bool
is_of_table name = of kind.Section name
    || (of kind.Tr name || (of kind.Table name || of kind.TablePart name))

abbrev pub closes_in_cell : (name : List ℕ) → Bool
closes_in_cell name = if of kind.Cell name then not (of kind.Implied name)
    else not (is_of_table name) && closes_in_body name

abbrev pub closes_in : Mode → (name : List ℕ) → Bool
closes_in InBody = closes_in_body
closes_in InCell = closes_in_cell
closes_in InRow = of kind.Tr
closes_in InSection = of kind.Section
closes_in InTable = of kind.Table
closes_in m = λ name. false

unfoldable pub takes_own_end : Page → Bool
takes_own_end p = not (is_unseen p.tables) && (is_at (closes_in (mode p.stack)) p.stack
    && (not (has_unmade p)
    && (not (is_at (of kind.Formatting) p.stack) || is_last p.stack p.formats)))
