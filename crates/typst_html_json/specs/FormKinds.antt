-- The kinds of the lists that spell nodes and items.
use Rattle.std.specs.Prelude.{ℕ, List, codes, bytes_eq, Option, Some, None, option_and_then, if◌then◌else◌}
use Rattle.serde_json.specs.{Data.{Items, no_items, item}, Find.{as_str}}
use Rattle.html_dom_tree.specs.Attributes.{or_else}
use Rattle.typst_html_json.specs.declared.{input_forms.Forms.{Forms}, input_forms.Forms.TheVariants.{Program, Document}, kind.Kind.{Kind}}
use Rattle.typst_html_json.specs.declared.kind.Kind.TheVariants.{Text, Element, Block, Box, Start, End, Space, Break, Hole, Place, Link, Role}

-- the kind of that name in the forms of the program
unfoldable pub program_kind : (name : List ℕ) → Option Kind
program_kind k = if bytes_eq k (codes "text") then Some Text
    else (if bytes_eq k (codes "el") then Some Element
    else (if bytes_eq k (codes "block") then Some Block
    else (if bytes_eq k (codes "box") then Some Box
    else (if bytes_eq k (codes "start") then Some Start
    else (if bytes_eq k (codes "end") then Some End
    else (if bytes_eq k (codes "space") then Some Space
    else (if bytes_eq k (codes "break") then Some Break
    else (if bytes_eq k (codes "hole") then Some Hole else None))))))))

-- the kind of that name that only the forms of documents have
unfoldable pub document_kind : (name : List ℕ) → Option Kind
document_kind k = if bytes_eq k (codes "place") then Some Place
    else (if bytes_eq k (codes "link") then Some Link
    else (if bytes_eq k (codes "role") then Some Role else None))

-- the kind of that name in these forms
abbrev pub named_kind : Forms → (name : List ℕ) → Option Kind
named_kind Program k = program_kind k
named_kind Document k = or_else (program_kind k) (document_kind k)

-- the kind of a list, which its first value names
abbrev pub list_kind : Forms → Items → Option Kind
list_kind forms no_items = None
list_kind forms (item kind fields) = option_and_then (named_kind forms) (as_str kind)
