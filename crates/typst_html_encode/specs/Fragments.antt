-- The text of nodes without a document type: a piece of a page that another program makes (HTML
-- Standard 13.1.2, the content between the tags of an element).
use Rattle.std.specs.Prelude.{◌≡◌, ℕ, List, [], ◌++◌, codes, Some, None, false, true}
use Rattle.html_dom_tree.specs.{PlainTree.{element_normal}, Tree.{Head, NodesView}}
use Rattle.typst_html_encode.specs.{ExportFaults.{nodes_faults}, FrameWriters.{Frames}, Reader.{read}}
use Rattle.typst_html_encode.specs.{Text.{nodes_text, plain_options, root_margin}, declared.fault.ExportFault.{ExportFault}}

-- the text between the tags of an element that is written plain
abbrev pub fragment_text : Frames → NodesView → List ℕ
fragment_text frames ns = nodes_text frames false true (root_margin plain_options) ns

abbrev pub fragment_faults : Frames → NodesView → List ExportFault
fragment_faults frames ns = nodes_faults frames false false ns

abbrev pub div_head : Head
div_head =
    record { name = codes "div"; attrs = []; css = []; parent = None; span = 0; pre_span = false }

-- a page whose root is a `div` around a text
abbrev pub text_in_div : List ℕ → List ℕ
text_in_div text = codes "<!DOCTYPE html><div>" ++ (text ++ codes "</div>")

-- inside that `div`, the text reads as these nodes
abbrev pub ReadsInDiv : List ℕ → NodesView → Type 0
ReadsInDiv text ns = read (text_in_div text) ≡ Some (element_normal (div_head, ns))
