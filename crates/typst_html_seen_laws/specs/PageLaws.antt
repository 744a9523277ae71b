-- Laws of what is visible of a page that was read.
use Rattle.std.specs.Prelude.{◌≡◌, ℕ, true, List, Some}
use Rattle.html_dom_tree.specs.Tree.{NodesView, ElementView}
use Rattle.html_dom_shown.specs.{Bodies.{body_children}, Collapsing.{Piece}}
use Rattle.typst_html_encode.specs.{FrameWriters.{Frames}, IndentsCollapse.{NodesAreEdged}, Reader.{read}, Text.{document_text}}
use Rattle.typst_html_encode.specs.declared.options.HtmlOptions.{HtmlOptions}
use Rattle.typst_html_read.specs.PlainElements.{accepted}
use Rattle.typst_html_spaces.specs.SeenBody.{CanBeRead, seen_text}
use Rattle.html_page_text.specs.{PageTexts.{page_pieces}, Unseen.{seen_element}}
use Rattle.typst_html_seen_laws.specs.AllSeen.{shows_all}

-- exactly what is visible in the body of the text that an element was read from is visible of the
-- element, if neither the element, nor its body, nor anything in the body is hidden
abbrev pub ReadPagesAreSeen : Type 0
ReadPagesAreSeen = (text : List ℕ) (root : ElementView) (pieces : List Piece) →
    accepted (read text) ≡ Some root → shows_all root ≡ true → seen_text text ≡ Some pieces →
    page_pieces root ≡ pieces

-- exactly what is visible in the body of the text that is written of any element without its hidden
-- elements is visible of the element, if that text can be read back and what has indents in its
-- body is a border
abbrev pub UnseenPartsAreLeftOut : Type 0
UnseenPartsAreLeftOut = (frames : Frames) (options : HtmlOptions) (root : ElementView)
    (body : NodesView) → CanBeRead frames options (seen_element root) →
    body_children (seen_element root).1 ≡ Some body → NodesAreEdged body →
    seen_text (document_text frames options (seen_element root)) ≡ Some (page_pieces root)
