-- What a turn of the adoption agency algorithm returns. An allocation may fail before.
use Rattle.std.specs.Prelude.{◌≡◌, Bool, true, false, Result, IfOk}
use Rattle.html_page_stack.specs.Pages.{Page}
use Rattle.html_page_tree.specs.PageBodies.{Agency, Moved, Settled}

-- from whether a block was moved
abbrev pub agency_of : (moved : Bool) → Page → Agency
agency_of true p = Moved p
agency_of false p = Settled p

abbrev pub Acts : {E : Type 0} → Result Bool E → (expected : Agency) (new : Page) → Type 0
Acts r expected new = IfOk r (λ moved. agency_of moved new ≡ expected)
