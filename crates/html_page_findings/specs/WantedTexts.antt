-- The wanted texts of a tree. Those of its elements alone show where links between pages lead.
use Rattle.std.specs.Prelude.{ℕ, List, [], codes, if◌then◌else◌, Option, Some, None, option_to_list}
use Rattle.html_dom_tree.specs.Attributes.{first}
use Rattle.html_links.specs.Indicated.{link_name, unless_empty}
use Rattle.html_page_findings.specs.{Fragments.{fragments}, Hyperlinks.{may_link}, PlacedTexts.{TextKind, of_elements}, RepeatedIds.{ids}}
use Rattle.html_page_findings.specs.declared.wanted.Wanted.{Wanted}
use Rattle.html_page_findings.specs.declared.wanted.Wanted.TheVariants as wanted

abbrev pub filled : Option (List ℕ) → List (List ℕ)
filled None = []
filled (Some value) = unless_empty value

-- the first `id` of an element, unless it is empty (DOM 4.9)
abbrev pub linked_ids : TextKind
linked_ids = of_elements (λ name attrs. filled (first attrs (codes "id")))

-- the first `name` of an `a`, unless it is empty: a place too (HTML Standard 7.4.6.3)
abbrev pub linked_names : TextKind
linked_names = of_elements (λ name attrs. filled (link_name name attrs))

-- the first `href` of a link
abbrev pub hrefs : TextKind
hrefs = of_elements (λ name attrs.
    if may_link name then option_to_list (first attrs (codes "href")) else [])

abbrev pub kind_of : Wanted → TextKind
kind_of wanted.Fragments = fragments
kind_of wanted.Ids = ids
kind_of wanted.LinkedIds = linked_ids
kind_of wanted.LinkedNames = linked_names
kind_of wanted.Hrefs = hrefs
