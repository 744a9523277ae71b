-- The contract of a call that writes a tree.
use Rattle.std.specs.{Prelude.{◌≡◌, true, false, Some, Result, IfOk, String}, declared.alloc.Global.{Global}}
use Rattle.html_dom_tree.specs.{FrameFree.{ElementIsFrameFree}, PlainTree.{element_normal}, Tree.{ElementView}, Views.{text_view}}
use Rattle.typst_html_encode.specs.{Endings.{Gives}, ExportFaults.{document_faults}, FrameWriters.{Frames}}
use Rattle.typst_html_encode.specs.{Indented.{element_layout, ElementEndsWell}, Reader.{read}, Text.{document_text}}
use Rattle.typst_html_encode.specs.declared.{fault.ExportFault.{ExportFault}, options.HtmlOptions.{HtmlOptions}}

-- the result is the text of a tree, or its first fault; the text of a tree without frames reads
-- back
pub record IsHtmlOf
    (frames : Frames) (options : HtmlOptions) (root : ElementView)
    (result : Result (String Global) ExportFault) : Type 0 where
  pub makes : Gives result (document_text frames options root) (document_faults frames options root)
  pub reads_back : options.pretty ≡ false → ElementIsFrameFree root →
      IfOk result (λ text. read (text_view text) ≡ Some (element_normal root))
  pub reads_indented : options.pretty ≡ true → ElementIsFrameFree root →
      ElementEndsWell true root →
      IfOk result (λ text. read (text_view text) ≡ Some (element_normal (element_layout root)))
