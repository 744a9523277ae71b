-- What is written is read, and what was read is written.
use Rattle.std.specs.Prelude.{◌≡◌, ℕ, List, [], Some}
use Rattle.html_dom_tree.specs.{FrameFree.{ElementIsFrameFree}, PlainTree.{element_normal}, Tree.{ElementView}}
use Rattle.typst_html_encode.specs.{ExportFaults.{document_faults}, FrameWriters.{Frames}, Reader.{read}, ReadingBack.{ElementIsNamed}}
use Rattle.typst_html_encode.specs.Text.{plain_options, document_text}
use Rattle.typst_html_read.specs.PlainElements.{accepted}

-- the plain text of a frame-free element without a fault is read as the element's normal form, if
-- its names are accepted
abbrev pub WrittenIsRead : Type 0
WrittenIsRead = (frames : Frames) (e : ElementView) → ElementIsNamed e → ElementIsFrameFree e →
    document_faults frames plain_options e ≡ [] →
    accepted (read (document_text frames plain_options e)) ≡ accepted (Some (element_normal e))

-- the plain text of an element that was read reads the same, if the element has no fault
abbrev pub ReadIsWritten : Type 0
ReadIsWritten = (frames : Frames) (text : List ℕ) (e : ElementView) →
    accepted (read text) ≡ Some e → document_faults frames plain_options e ≡ [] →
    read (document_text frames plain_options e) ≡ read text

-- an element that was read is its own normal form
abbrev pub ReadIsNormal : Type 0
ReadIsNormal = (text : List ℕ) (e : ElementView) → accepted (read text) ≡ Some e →
    read text ≡ Some (element_normal e)
