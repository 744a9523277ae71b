pub use Rattle.html_flow_construct.specs.Construct
pub use Rattle.html_flow_convert.specs.BareSpaces
pub use Rattle.html_flow_convert.specs.Nodes
pub use Rattle.html_flow_convert.specs.Pieces as TextPieces
pub use Rattle.html_flow_convert.specs.Protected
pub use Rattle.html_flow_convert.specs.Runs
pub use Rattle.html_flow_faults.specs.ConstructFaults
pub use Rattle.html_flow_convert.specs.Converted
pub use Rattle.html_flow_convert.specs.Depth
pub use Rattle.html_flow_convert.specs.Endings as FlowEndings
pub use Rattle.html_flow_faults.specs.FlowFaults
pub use Rattle.html_flow_convert.specs.Items
pub use Rattle.html_flow_convert.specs.LoneNode
pub use Rattle.html_flow_convert.specs.Views
pub use Rattle.html_flow_lists.specs.ItemLists
pub use Rattle.html_flow_lists.specs.ListViews
pub use Rattle.html_flow_lists.specs.NoteLaws
pub use Rattle.html_flow_lists.specs.Notes
pub use Rattle.html_flow_places.specs.NamedLocations
