-- What is written is read back.
use Rattle.std.specs.{List.{AllByRecursion}, Prelude.{◌≡◌, true, List, [], Some}}
use Rattle.html_names_core.specs.Characters.{is_tag_char, is_attr_char, IsOf}
use Rattle.html_dom_tree.specs.{FrameFree.{ElementIsFrameFree}, PlainTree.{element_normal}}
use Rattle.html_dom_tree.specs.Tree.{TextPair, Head, NodeView, tag_node, text_node, element_node, frame_node, NodesView, none, node, ElementView}
use Rattle.typst_html_encode.specs.{ExportFaults.{document_faults}, FrameWriters.{Frames}, Indented.{element_layout, ElementEndsWell}}
use Rattle.typst_html_encode.specs.{Reader.{read}, Text.{plain_options, pretty_options, document_text}}

-- the name is valid, as the program's types ensure
abbrev pub PairIsNamed : TextPair → Type 0
PairIsNamed p = IsOf is_attr_char p.0

abbrev pub PairsAreNamed : List TextPair → Type 0
PairsAreNamed = AllByRecursion PairIsNamed

abbrev pub HeadIsNamed : Head → Type 0
HeadIsNamed h = IsOf is_tag_char h.name × PairsAreNamed h.attrs

-- each name at any depth is valid
unfoldable mutual
  pub NodeIsNamed : NodeView → Type 0
  NodeIsNamed (tag_node t) = Unit {0}
  NodeIsNamed (text_node s span) = Unit {0}
  NodeIsNamed (element_node h kids) = HeadIsNamed h × NodesAreNamed kids
  NodeIsNamed (frame_node b) = Unit {0}

  pub NodesAreNamed : NodesView → Type 0
  NodesAreNamed none = Unit {0}
  NodesAreNamed (node n ns) = NodeIsNamed n × NodesAreNamed ns

abbrev pub ElementIsNamed : ElementView → Type 0
ElementIsNamed e = NodeIsNamed (element_node e.0 e.1)

-- the plain text of a frame-free tree without a fault reads as the tree's normal form
abbrev pub PlainReadsBack : Frames → Type 0
PlainReadsBack frames =
    (e : ElementView) → ElementIsNamed e → ElementIsFrameFree e →
    document_faults frames plain_options e ≡ [] →
    read (document_text frames plain_options e) ≡ Some (element_normal e)

-- the pretty text of such a tree, whose raw texts end well, reads as the normal form of the
-- indented tree
abbrev pub PrettyReadsBack : Frames → Type 0
PrettyReadsBack frames =
    (e : ElementView) → ElementIsNamed e → ElementIsFrameFree e → ElementEndsWell true e →
    document_faults frames pretty_options e ≡ [] →
    read (document_text frames pretty_options e) ≡ Some (element_normal (element_layout e))

abbrev pub ReadsBack : Type 0
ReadsBack = (frames : Frames) → PlainReadsBack frames × PrettyReadsBack frames

-- frame-free trees with the same plain text have the same normal form
abbrev pub SameTextSameForm : Type 0
SameTextSameForm =
    (frames : Frames) (d e : ElementView) → ElementIsNamed d → ElementIsNamed e →
    ElementIsFrameFree d → ElementIsFrameFree e →
    document_faults frames plain_options d ≡ [] → document_faults frames plain_options e ≡ [] →
    document_text frames plain_options d ≡ document_text frames plain_options e →
    element_normal d ≡ element_normal e
