-- When a page takes any text as it is, but for U+0000.
use Rattle.std.specs.Prelude.{Bool, true, false, not, ◌&&◌, ◌||◌}
use Rattle.html_page_stack.specs.{Formats.{ends_closed}, Pages.{Page, Char}, declared.modes.Mode.{Mode}}
use Rattle.html_page_stack.specs.declared.modes.Mode.TheVariants.{InBody, InText, InCaption, InCell}
use Rattle.html_page_tree.specs.{PageBodies.{is_barred}, PageTrees.{is_foreign_token, is_unseen, page_mode}}

-- whether the rules of the mode append each character to the current node: those of a text always
-- do, and those of a body, a caption and a cell do if no formatting element is made again there
abbrev pub mode_takes_text : Mode → Page → Bool
mode_takes_text InText p = true
mode_takes_text InBody p = not (ends_closed p.stack p.formats)
mode_takes_text InCaption p = not (ends_closed p.stack p.formats)
mode_takes_text InCell p = not (ends_closed p.stack p.formats)
mode_takes_text m p = false

-- whether each character but U+0000 is appended to the current node
unfoldable pub takes_text : Page → Bool
takes_text p = (not (is_unseen p.tables) && is_barred p.framesets)
    && (is_foreign_token (Char 0) p.stack || mode_takes_text (page_mode p) p)
