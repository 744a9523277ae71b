use Rattle.std.proofs.Common.{ap, ◌∙◌, ◌++◌, []}
use Rattle.html_dom_tree.specs.Views.{head_of, nodes_view}
use Rattle.html_dom_walk.specs.{Events.{events_of}, Gathered.{gathered}}
use Rattle.html_links.proofs.FoundNames.{event_names, names_found}
use Rattle.html_links.specs.{Distinct.{names_view}, TreeNames.{all_ids, frame_names, nodes_names}}
use Rattle.html_links.proofs.names_in_tree.listed_names.Goals as goal

pub loop-walk-init : goal.loop-walk-init
loop-walk-init c =
    let e = c.args.element.now in
    let kids = nodes_view e.children.items in
    let own = names_view c.add_ids.new.names.items in
    ap (λ es. own ++ gathered (λ e. event_names (λ h. all_ids h.attrs) frame_names e.1) es)
    (c.over-walk.ensures.events ∙ ap (λ ns. events_of [] 0 (nodes_view ns) []) c.deref.ensures.value)
    ∙ (ap (λ l. own ++ l) (names_found (λ h. all_ids h.attrs) frame_names [] 0 kids)
    ∙ ap (λ l. l ++ nodes_names kids) (c.in_ok-add_ids.ensures
    ∙ ap (λ ns. names_view ns ++ all_ids (head_of e).attrs) c.new-names.ensures.items))
