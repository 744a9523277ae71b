-- Hidden elements, which are invisible in a browser: those to which HTML Standard 15.3.1, hidden
-- elements, gives `display: none`, except `noscript`, which is visible if scripting is disabled.
-- What other css hides, such as that of a `dialog` that is not open, counts as visible.
use Rattle.std.specs.Prelude.{ℕ, Bool, not, ◌&&◌, ◌||◌, List, codes, bytes_eq, if◌then◌else◌, Option, option_map}
use Rattle.html_names_core.specs.{Displays.{default_display, is_hidden}, Names.{listed_names, stands_in}}
use Rattle.html_dom_tree.specs.Attributes.{first, has_name}
use Rattle.html_dom_tree.specs.Tree.{TextPair, tag_node, text_node, element_node, frame_node, NodesView, none, node, ElementView}
use Rattle.html_dom_shown.specs.Values.{is_text}
use Rattle.html_page_names.specs.ForeignNames.{lowered}

-- obsolete elements that have no default display
abbrev pub obsolete_unseen_names : List (List ℕ)
obsolete_unseen_names = listed_names (codes "basefont noembed noframes param")

-- whether elements of that name are hidden: these, and by default `area`, `base`, `datalist`,
-- `head`, `link`, `meta`, `rp`, `script`, `style`, `template` and `title`
unfoldable pub is_unseen_name : List ℕ → Bool
is_unseen_name name =
    is_hidden (default_display name) || stands_in obsolete_unseen_names name

-- the first value of an attribute, in lowercase
abbrev pub small_value : List TextPair → (name : List ℕ) → Option (List ℕ)
small_value attrs name = option_map lowered (first attrs name)

-- whether `hidden` has any value but `until-found`, which hides without `display: none`
abbrev pub has_hidden : List TextPair → Bool
has_hidden attrs = has_name attrs (codes "hidden")
    && not (is_text (codes "until-found") (small_value attrs (codes "hidden")))

abbrev pub is_hidden_input : List ℕ → List TextPair → Bool
is_hidden_input name attrs =
    bytes_eq name (codes "input") && is_text (codes "hidden") (small_value attrs (codes "type"))

-- whether an element is hidden; an `embed` with `hidden` is not
unfoldable pub is_unseen : List ℕ → List TextPair → Bool
is_unseen name attrs = is_unseen_name name ||
    ((has_hidden attrs && not (bytes_eq name (codes "embed"))) || is_hidden_input name attrs)

-- nodes without hidden elements, at any depth
unfoldable pub seen_nodes : NodesView → NodesView
seen_nodes none = none
seen_nodes (node (tag_node t) ns) = node (tag_node t) (seen_nodes ns)
seen_nodes (node (text_node s span) ns) = node (text_node s span) (seen_nodes ns)
seen_nodes (node (element_node h kids) ns) = if is_unseen h.name h.attrs then seen_nodes ns
    else node (element_node h (seen_nodes kids)) (seen_nodes ns)
seen_nodes (node (frame_node f) ns) = node (frame_node f) (seen_nodes ns)

-- a root without hidden elements; a hidden root has no nodes left
abbrev pub seen_element : ElementView → ElementView
seen_element root =
    (root.0, if is_unseen root.0.name root.0.attrs then none else seen_nodes root.1)
