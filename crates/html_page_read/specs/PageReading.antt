-- Reading a page as a browser does (HTML Standard 13.2), except that the page is refused at limits.
use Rattle.std.specs.Prelude.{ℕ, false, ◌==◌, List, [], ◌∷◌, if◌then◌else◌, Option, Some, None, Result, Ok, Err}
use Rattle.html_dom_tree.specs.Tree.{ElementView}
use Rattle.html_page_stack.specs.{OpenElements.{root_of}, Pages.{Notes, Page, first_page, settled}}
use Rattle.html_page_stack.specs.declared.fault.PageRefusal.{PageRefusal}
use Rattle.html_page_stack.specs.declared.fault.PageRefusal.TheVariants as refusal
use Rattle.html_page_read.specs.PageTokens.{PageReader, Data, step, finished}

-- the reader before a text that starts at that offset in bytes, with that page before it
abbrev pub reader_at : Page → (place : ℕ) → PageReader
reader_at page place = record {
  state = Data;
  reading = record {
    page = page;
    place = place;
    fresh = false;
    after_return = false;
  };
}

abbrev pub first_reader : (limit place : ℕ) → PageReader
first_reader limit place = reader_at (first_page limit) place

abbrev pub run : PageReader → List ℕ → PageReader
run r [] = r
run r (c ∷ cs) = run (step r c) cs

-- the reader behind a text, without its byte order mark
abbrev pub begun : (limit : ℕ) → List ℕ → PageReader
begun limit [] = first_reader limit 0
begun limit (c ∷ cs) = if c == 0xfeff then run (first_reader limit 3) cs
    else run (first_reader limit 0) (c ∷ cs)

-- what a page is read as: its element and the errors in it, or the first refusal with the offset of
-- its place in bytes
abbrev pub PageResult : Type 0
PageResult = Result (ElementView × Notes) (PageRefusal × ℕ)

-- the element of a page, whose `html` is too deep where there is none
abbrev pub root_made : Option ElementView → Page → PageResult
root_made None p = Err (refusal.TooDeep, p.start)
root_made (Some root) p = Ok (root, p.notes)

abbrev pub answered : Option (PageRefusal × ℕ) → Page → PageResult
answered (Some refused) p = Err refused
answered None p = root_made (root_of p.stack) p

-- what a page whose tokens are all read is read as
abbrev pub page_result : Page → PageResult
page_result p = answered p.refusal (settled p)

-- what a text is read as
abbrev pub page_read : (limit : ℕ) → List ℕ → PageResult
page_read limit text = page_result (finished (begun limit text)).page
