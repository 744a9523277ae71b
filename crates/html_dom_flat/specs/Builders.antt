-- The list of a flat tree while it is built.
use Rattle.std.specs.Prelude.{ℕ, List, vec_len}
use Rattle.html_dom_flat.specs.{Flat.{FlatNodeView}, FlatViews.{flat_nodes_view}, declared.builder.Builder.{Builder}}

abbrev pub builder_view : Builder → List FlatNodeView
builder_view builder = flat_nodes_view builder.names builder.nodes.items

-- the number of nodes so far, at all depths
abbrev pub built_count : Builder → ℕ
built_count builder = vec_len builder.nodes
