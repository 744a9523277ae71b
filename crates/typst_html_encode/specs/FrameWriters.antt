-- The results of a writer of frames.
use Rattle.std.specs.{Prelude.{◌≡◌, ℕ, List, Bool, Option, Some, None, Result, Ok, Err, String}, declared.alloc.Global.{Global}}
use Rattle.html_names_core.specs.Texts.{text_view}
use Rattle.html_dom_tree.specs.Frames.{FrameView, frame, HtmlFrameView}
use Rattle.typst_html_encode.specs.declared.frame.{FrameFault.{FrameFault}, FrameFault.TheVariants.{OutOfMemory, Refused}}

-- the text of a frame with pretty writing on or off, or nothing if the frame is refused
abbrev pub Frames : Type 0
Frames = HtmlFrameView → (pretty : Bool) → Option (List ℕ)

abbrev pub frame_fault_number : FrameFault → ℕ
frame_fault_number OutOfMemory = 0
frame_fault_number Refused = 15

-- the caller's number of a frame's picture
abbrev pub picture_of : FrameView → ℕ
picture_of (frame picture items) = picture

-- every frame is refused
abbrev pub no_frames : Frames
no_frames b pretty = None

-- the result is that text, or a refusal if there is none; memory may run out before either
abbrev pub Draws : Option (List ℕ) → Result (String Global) FrameFault → Type 0
Draws (Some text) (Ok s) = text_view s ≡ text
Draws (Some text) (Err OutOfMemory) = Unit {0}
Draws (Some text) (Err Refused) = ⊥
Draws None (Ok s) = ⊥
Draws None (Err fault) = Unit {0}
