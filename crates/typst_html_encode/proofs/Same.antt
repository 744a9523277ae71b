-- Trees with the same text have the same normal form.
use Rattle.std.proofs.Common.{◌≡◌, Some, sym, ap, ◌∙◌}
use Rattle.html_dom_tree.specs.PlainTree.{element_normal}
use Rattle.typst_html_encode.{proofs.ReadingBack.{plain_reads_back}, specs.Reader.{read}, specs.ReadingBack.{SameTextSameForm}}

pub same_text : SameTextSameForm
same_text frames d e n m x y f w same =
    let one = plain_reads_back frames d n x f in
    let two = plain_reads_back frames e m y w in
    let both : Some (element_normal d) ≡ Some (element_normal e) = sym one ∙ (ap read same ∙ two) in
    cc
