-- Links that lead in the text of their document as it is read.
use Rattle.std.specs.Prelude.{◌≡◌, ℕ, true, List, [], ◌++◌, All, Option, Some, None}
use Rattle.html_dom_tree.specs.{FrameFree.{ElementIsFrameFree}, PlainTree.{Plain, words, branch}}
use Rattle.html_dom_document.specs.Documents.{DocumentView, document_root}
use Rattle.html_anchors.specs.GivenLinks.{LeadsAmong, document_given_links}
use Rattle.html_links.specs.Indicated.{place_names}
use Rattle.typst_html_encode.specs.{Indented.{ElementEndsWell}, ReadIds.{plains_texts, read_ids}, Reader.{read}}
use Rattle.typst_html_encode.specs.declared.options.HtmlOptions.{HtmlOptions}

-- the names of the places of a tree that is read, if there is one
abbrev pub read_places : Option Plain → List (List ℕ)
read_places None = []
read_places (Some (words text)) = []
read_places (Some (branch name attrs children)) =
    place_names name attrs ++ plains_texts place_names children

-- each link that got an `href` leads to the anchor of its destination among the places that are
-- read, and that anchor is the first `id` of an element that is read; `old` and `new` are a
-- document before and after its links were resolved, and `text` is its text
abbrev pub GivenLinksLeadWhenRead : (old new : DocumentView) → (text : List ℕ) → Type 0
GivenLinksLeadWhenRead old new text =
    All (LeadsAmong new.introspector.anchor (read_places (read text)) (read_ids (read text)))
    (document_given_links old new)

-- a root whose text can be read: it has no frame, and pretty writing puts no raw text on lines of
-- its own that ends in a closing tag without its last character
pub record DocumentIsReadable (options : HtmlOptions) (d : DocumentView) : Type 0 where
  pub frame_free : ElementIsFrameFree (document_root d)
  pub ends_well : options.pretty ≡ true → ElementEndsWell true (document_root d)
