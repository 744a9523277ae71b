-- The head of a document, and its language (HTML Standard 4.2; this project decides which entries
-- there are). All generated nodes have the span 0. Nodes of the caller's stand at the head's end.
use Rattle.std.specs.{List.{join_by}, Prelude.{ℕ, List, [], ◌∷◌, ◌++◌, codes, Option, Some, None}}
use Rattle.html_dom_tree.specs.{Tree.{TextPair, NodeView, text_node, element_node, NodesView, none, node, plain_head}, Views.{nodes_of}}
use Rattle.html_dom_document.specs.Documents.{LocaleView, InfoView}

-- an element with these attributes and children, and nothing else
abbrev pub made_node : (name : List ℕ) → List TextPair → NodesView → NodeView
made_node name attrs ns = element_node (plain_head name attrs 0) ns

abbrev pub charset_node : NodeView
charset_node = made_node (codes "meta") ((codes "charset", codes "utf-8") ∷ []) none

-- a `meta` with a name and its content
abbrev pub entry_node : (name content : List ℕ) → NodeView
entry_node name content =
    made_node (codes "meta") ((codes "name", name) ∷ (codes "content", content) ∷ []) none

abbrev pub viewport_node : NodeView
viewport_node = entry_node (codes "viewport") (codes "width=device-width, initial-scale=1")

abbrev pub title_node : (title : List ℕ) → NodeView
title_node title = made_node (codes "title") [] (node (text_node title 0) none)

-- a title if there is a text for it, even an empty one
abbrev pub title_nodes : Option (List ℕ) → List NodeView
title_nodes None = []
title_nodes (Some title) = title_node title ∷ []

abbrev pub description_nodes : Option (List ℕ) → List NodeView
description_nodes None = []
description_nodes (Some text) = entry_node (codes "description") text ∷ []

-- texts joined by `, `
abbrev pub joined_text : List (List ℕ) → List ℕ
joined_text = join_by (λ text. text) (codes ", ")

-- an entry with the joined texts if there are texts, even empty ones
abbrev pub list_meta_nodes : (name : List ℕ) → List (List ℕ) → List NodeView
list_meta_nodes name [] = []
list_meta_nodes name (text ∷ texts) = entry_node name (joined_text (text ∷ texts)) ∷ []

abbrev pub entry_nodes : InfoView → List NodeView
entry_nodes info = title_nodes info.title ++ (description_nodes info.description
    ++ (list_meta_nodes (codes "authors") info.author ++ list_meta_nodes (codes "keywords") info.keywords))

-- the head: the information, then these nodes
abbrev pub head_node : InfoView → (head : List NodeView) → NodeView
head_node info head = made_node (codes "head") []
    (nodes_of (charset_node ∷ viewport_node ∷ (entry_nodes info ++ head)))

-- a region as it stands after its language
abbrev pub region_text : Option (List ℕ) → List ℕ
region_text None = []
region_text (Some region) = codes "-" ++ region

-- the language and the region (RFC 3066); English if none is known
abbrev pub lang_text : Option LocaleView → List ℕ
lang_text None = codes "en"
lang_text (Some locale) = locale.lang ++ region_text locale.region
