-- Links to fragments of their own page that lead nowhere (HTML Standard 7.4.6.3: scrolling to a
-- fragment).
use Rattle.std.specs.{List.{filter}, Prelude.{ℕ, Bool, not, List, [], codes, if◌then◌else◌, Option, Some, None}}
use Rattle.html_names_core.specs.Names.{stands_in}
use Rattle.html_dom_tree.specs.{Attributes.{first}, Tree.{ElementView}}
use Rattle.html_links.specs.{Bases.{base_is_elsewhere}, InDocument.{document_places}, Indicated.{fragments_in, leads}, TreeNames.{Name}}
use Rattle.html_page_findings.specs.{Hyperlinks.{may_link}, PlacedTexts.{Placed, TextKind, document_placed, of_elements}}

abbrev pub fragments_of : (href : Option (List ℕ)) → List (List ℕ)
fragments_of None = []
fragments_of (Some href) = fragments_in href

-- the fragment to which an `a` or `area` leads, by its first `href`
abbrev pub fragments : TextKind
fragments = of_elements (λ name attrs.
    if may_link name then fragments_of (first attrs (codes "href")) else [])

-- the links of a document to fragments of its page
abbrev pub fragment_links : ElementView → List Placed
fragment_links = document_placed fragments

abbrev pub dead_among : (is_place : Name → Bool) → List Placed → List Placed
dead_among is_place = filter (λ link. not (leads is_place link.1))

-- the links to fragments that lead neither to a place of the document nor to the top of the page;
-- none where a `base` leads them to another address
abbrev pub dead_fragments : ElementView → List Placed
dead_fragments e = if base_is_elsewhere e then []
    else dead_among (stands_in (document_places e)) (fragment_links e)
