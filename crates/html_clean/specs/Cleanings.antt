-- What cleaning a foreign fragment answers: what stays of the nodes that a browser reads of it, or the
-- refusal of reading. An allocation may fail before either.
use Rattle.std.specs.Prelude.{◌≡◌, ℕ, List, String, Result, Ok, IfOk, IfErr}
use Rattle.std.specs.declared.alloc.Global.{Global}
use Rattle.html_names_core.specs.Texts.{text_view}
use Rattle.html_dom_tree.specs.{Tree.{ElementView}, Views.{nodes_view}}
use Rattle.html_page_stack.specs.Pages as pages
use Rattle.html_page_read.specs.FragmentReading.{any_fragment_read, fragment_nodes}
use Rattle.html_page_read.specs.{PageAnswers.{ArePlaced, IsFault}, PageReading.{PageResult}}
use Rattle.html_page_read.specs.declared.fault.{PageFault.{PageFault}}
use Rattle.typst_html_encode.specs.{Fragments.{fragment_text}, FrameWriters.{no_frames}}
use Rattle.html_clean_policy.specs.Policies.{PolicyView}
use Rattle.html_clean_nodes.specs.Cleaned as nodes
use Rattle.html_clean.specs.declared.fragment.Cleaned.{Cleaned}

-- the nodes are what stays of those that are read, and the errors those of reading
pub record IsCleaned (p : PolicyView) (text : List ℕ) (expected : PageResult) (cleaned : Cleaned) :
    Type 0 where
  pub root : ElementView
  pub notes : pages.Notes
  pub read : expected ≡ Ok (root, notes)
  pub stay : nodes_view cleaned.nodes.items ≡ nodes.cleaned p (fragment_nodes root)
  pub placed : ArePlaced text notes cleaned.notes

pub record GivesCleaned (r : Result Cleaned PageFault) (p : PolicyView) (limit : ℕ)
    (text : List ℕ) : Type 0 where
  pub made : IfOk r (IsCleaned p text (any_fragment_read limit text))
  pub fault : IfErr r (IsFault text (any_fragment_read limit text))

-- the text is that of the nodes
pub record IsCleanText (p : PolicyView) (expected : PageResult) (clean : List ℕ) : Type 0 where
  pub root : ElementView
  pub notes : pages.Notes
  pub read : expected ≡ Ok (root, notes)
  pub written : clean ≡ fragment_text no_frames (nodes.cleaned p (fragment_nodes root))

pub record GivesCleanText (r : Result (String Global) PageFault) (p : PolicyView) (limit : ℕ)
    (text : List ℕ) : Type 0 where
  pub made : IfOk r (λ clean. IsCleanText p (any_fragment_read limit text) (text_view clean))
  pub fault : IfErr r (IsFault text (any_fragment_read limit text))
