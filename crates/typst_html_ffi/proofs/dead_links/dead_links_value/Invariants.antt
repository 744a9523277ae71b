use Rattle.std.proofs.Common.{◌≡◌, map, take}
use Rattle.serde_json.specs.View.{view}
use Rattle.html_anchors.specs.DeadLinks.{dead_links_view}
use Rattle.typst_html_ffi.specs.DeadLinks.{dead_link_data}
use Rattle.typst_html_ffi.proofs.dead_links.dead_links_value.Given as goal

abbrev pub invariant-loop-link : goal.invariant-loop-link
invariant-loop-link l =
    map view l.values.items ≡ map dead_link_data (dead_links_view (take l.link-index l.links))
