-- The `href` of each location, and of each whose anchor is found, from the data of a walk.
use Rattle.html_dom_document.specs.Introspectors.{introspector_view}
use Rattle.html_anchors.specs.{FoundAnchors.{anchors_found}, Links.{Hrefs, anchor_hrefs}, declared.dead.FoundTargets.{FoundTargets}}
use Rattle.html_anchors.specs.declared.links.LinkTargets.{LinkTargets}
use Rattle.html_links.specs.UsedNames.{used_in}

abbrev pub hrefs_view : LinkTargets → Hrefs
hrefs_view targets =
    anchor_hrefs (used_in targets.places.now) (introspector_view targets.known.now).anchor

abbrev pub live_hrefs_view : FoundTargets → Hrefs
live_hrefs_view found =
    let known = (introspector_view found.targets.known.now).anchor in
    anchor_hrefs (used_in found.targets.places.now) (anchors_found (used_in found.names.now) known)
