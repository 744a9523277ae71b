-- What may stand between the tags of an element: HTML Standard 13.1.2.
use Rattle.std.specs.Prelude.{ℕ, List, if◌then◌else◌}
use Rattle.html_names_core.specs.Kinds.{is_raw, is_escapable_raw}
use Rattle.typst_html_encode.specs.declared.content.{ContentKind.{ContentKind}, ContentKind.TheVariants.{Raw, EscapableRaw, Nodes}}

abbrev pub content_kind : (name : List ℕ) → ContentKind
content_kind name = if is_raw name then Raw else
    (if is_escapable_raw name then EscapableRaw else Nodes)

-- one of three values, by the kind
abbrev pub by_kind : {A : Type 0} → ContentKind → (raw escapable nodes : A) → A
by_kind Raw raw escapable nodes = raw
by_kind EscapableRaw raw escapable nodes = escapable
by_kind Nodes raw escapable nodes = nodes
