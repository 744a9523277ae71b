-- Pages of bytes that have no text.
use Rattle.std.proofs.Common.{◌≡◌, ℕ, List, refl}
use Rattle.html_page_encoding.specs.Answers as answers
use Rattle.html_page_encoding.specs.PageEncodings.{page_text}
use Rattle.html_page_encoding.specs.declared.fault.EncodingFault.{EncodingFault}
use Rattle.html_page_encoding.specs.declared.fault.EncodingFault.TheVariants.{OutOfMemory, UnknownLabel, NotText}
use Rattle.html_page_read.specs.{BytePlaces.{placed_fault}, PageAnswers.{IsNoText}, declared.fault.PageFault.{PageFault}}

-- the fault that stands for a fault of the bytes is that of the page
spoiled : (page : List ℕ) (f : EncodingFault) → answers.IsFault (page_text page) f →
    IsNoText page (page_text page) (placed_fault page f)
spoiled page OutOfMemory is = tt
spoiled page (UnknownLabel label n) is = (n, is, refl)
spoiled page (NotText n) is = (n, is, refl)

-- so is a fault that is equal to it
pub byte_faults : (page : List ℕ) (f : EncodingFault) (g : PageFault) →
    answers.IsFault (page_text page) f → g ≡ placed_fault page f → IsNoText page (page_text page) g
byte_faults page f g is placed = rw placed (spoiled page f is)
