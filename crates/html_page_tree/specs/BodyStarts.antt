-- When a start tag is read by the rules of a body.
use Rattle.std.specs.Prelude.{ℕ, Bool, true, false, not, ◌&&◌, List}
use Rattle.html_page_names.specs.PageNames.{of}
use Rattle.html_page_names.specs.declared.kind.Kind.TheVariants as kind
use Rattle.html_page_stack.specs.{OpenElements.{is_in_foreign, mode}, Pages.{Page}, declared.modes.Mode.{Mode}}
use Rattle.html_page_stack.specs.declared.modes.Mode.TheVariants.{InBody, InCell}

abbrev pub begins_in : Mode → (name : List ℕ) → Bool
begins_in InBody name = true
begins_in InCell name = not (of kind.TablePart name)
begins_in m name = false

abbrev pub begins_in_body : (name : List ℕ) → Page → Bool
begins_in_body name p = not (is_in_foreign p.stack) && begins_in (mode p.stack) name
