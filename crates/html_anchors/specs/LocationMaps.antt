-- Maps by location as functions.
use Rattle.std.specs.{BTreeMap.{BTreeMap, get}, Prelude.{ℕ, List, map, Option, option_map, String}, declared.alloc.Global.{Global}}
use Rattle.html_dom_tree.specs.{FrameViews.{optional_text_view}, declared.introspection.Location.{Location}}
use Rattle.html_dom_document.specs.Introspectors.{location_cmp}
use Rattle.html_names_core.specs.Texts.{text_view}
use Rattle.html_links.specs.TreeNames.{Name}

-- the value of a map at a location
abbrev pub at_location : {X : Type 0} → BTreeMap Location X → ℕ → Option X
at_location m l = get location_cmp m (record { 0 = l })

abbrev pub labels_in : BTreeMap Location (Option (String Global)) → ℕ → Option (Option Name)
labels_in labels l = option_map optional_text_view (at_location labels l)

abbrev pub names_in : BTreeMap Location (String Global) → ℕ → Option Name
names_in names l = option_map text_view (at_location names l)

abbrev pub locations_in : List Location → List ℕ
locations_in = map (λ l. l.0)
