-- The texts that the elements of a tree have once the tree is read from text, such as its ids.
use Rattle.std.specs.Prelude.{◌≡◌, ℕ, List, [], ◌++◌, codes, Option, Some, None, option_to_list}
use Rattle.html_dom_tree.specs.{Attributes.{first}, PlainTree.{Plain, words, branch, Plains, no_plains, plain, nodes_normal}}
use Rattle.html_dom_tree.specs.Tree.{TextPair, ElementView}
use Rattle.typst_html_encode.specs.{ExportFaults.{document_faults}, FrameWriters.{Frames}, Indented.{element_layout}}
use Rattle.typst_html_encode.specs.declared.options.HtmlOptions.{HtmlOptions}

-- the texts of an element, by its name and its attributes
abbrev pub ElementTexts : Type 0
ElementTexts = (name : List ℕ) → List TextPair → List (List ℕ)

-- the texts of all elements
unfoldable pub plains_texts : ElementTexts → Plains → List (List ℕ)
plains_texts own no_plains = []
plains_texts own (plain (words text) ps) = plains_texts own ps
plains_texts own (plain (branch name attrs children) ps) =
    own name attrs ++ (plains_texts own children ++ plains_texts own ps)

-- the first `id` of an element
abbrev pub ids_of : ElementTexts
ids_of name attrs = option_to_list (first attrs (codes "id"))

-- the ids of the elements below the root that is read, if one is
abbrev pub read_ids : Option Plain → List (List ℕ)
read_ids None = []
read_ids (Some (words text)) = []
read_ids (Some (branch name attrs children)) = plains_texts ids_of children

-- pretty writing of a tree without faults keeps such texts
abbrev pub LayoutKeepsTexts : Type 0
LayoutKeepsTexts = (own : ElementTexts) (frames : Frames) (options : HtmlOptions)
    (root : ElementView) → document_faults frames options root ≡ [] →
    plains_texts own (nodes_normal (element_layout root).1) ≡ plains_texts own (nodes_normal root.1)
