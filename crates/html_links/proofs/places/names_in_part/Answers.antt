use Rattle.std.{proofs.Common.{[], map, length, arith, sym, ap, ◌∙◌}, specs.Prelude.{not}}
use Rattle.html_names_core.specs.{Names.{stands_in}, Texts.{text_view}}
use Rattle.html_dom_tree.specs.Views.{element_view, head_of, nodes_view}
use Rattle.html_dom_walk.proofs.Turns.{entered, skipped}
use Rattle.html_dom_walk.specs.{Events.{events_of}, Passing.{past}, Walks.{events_left, path_of}}
use Rattle.html_links.proofs.PutPlaces.{leaves_out, root_alone, root_put, with_event}
use Rattle.html_links.specs.{Indicated.{place_names}, UsedNames.{used_in, with_names}}
use Rattle.html_links.proofs.places.names_in_part.Goals as goal

pub returns-then-not-keeps_children : goal.returns-then-not-keeps_children
returns-then-not-keeps_children c =
    let e = element_view c.args.root.now in
    root_alone c.args.is_whole e (used_in c.add_element.new.names)
    (sym c.keeps_children.ensures ∙ c.if-not-keeps_children.true)
    (c.in_ok-add_element.ensures
    ∙ ap (λ keys. with_names (place_names e.0.name e.0.attrs) (stands_in (map text_view keys)))
    c.new-names.ensures.empty)

pub loop-walk-init : goal.loop-walk-init
loop-walk-init c =
    let e = element_view c.args.root.now in
    let used = used_in c.add_element.new.names in
    ap (past with_event (leaves_out c.args.is_whole) 0 used)
    (c.over-walk.ensures.events ∙ ap (λ ns. events_of [] 0 (nodes_view ns) []) c.deref.ensures.value)
    ∙ root_put c.args.is_whole e used (sym c.keeps_children.ensures ∙ c.if-not-keeps_children.false)
    (c.in_ok-add_element.ensures
    ∙ ap (λ keys. with_names (place_names e.0.name e.0.attrs) (stands_in (map text_view keys)))
    c.new-names.ensures.empty)

pub loop-walk-preserved-then-not-keeps_children-2 :
    goal.loop-walk-preserved-then-not-keeps_children-2
loop-walk-preserved-then-not-keeps_children-2 c =
    skipped with_event (leaves_out c.args.is_whole) (used_in c.loop-walk.names)
    (used_in c.add_element-in-Enter.new.names) _ (events_left c.loop-walk.walk)
    (events_left c.next.new.self) (path_of c.next.new.self) (head_of c.in-Enter.element.now)
    (nodes_view c.in-Enter.element.now.children.items)
    (events_left c.skip.new.self)
    (rw (c.in-Some.is, c.in-Enter.is) at c.in_ok-visit.ensures.comes)
    c.in_ok-add_element-in-Enter.ensures c.loop-walk.invariant
    (ap not (sym c.keeps_children-in-Enter.ensures ∙ c.if-not-keeps_children-2.true))
    c.skip.ensures.left

pub loop-walk-smaller-then-not-keeps_children-2 : goal.loop-walk-smaller-then-not-keeps_children-2
loop-walk-smaller-then-not-keeps_children-2 c =
    let come = rw (c.in-Some.is, c.in-Enter.is) at c.in_ok-visit.ensures.comes in
    omega (arith, ap length come, c.skip.ensures.fewer)

pub loop-walk-preserved-else-not-keeps_children-2 :
    goal.loop-walk-preserved-else-not-keeps_children-2
loop-walk-preserved-else-not-keeps_children-2 c =
    entered with_event (leaves_out c.args.is_whole) (used_in c.loop-walk.names)
    (used_in c.add_element-in-Enter.new.names) _ (events_left c.loop-walk.walk)
    (events_left c.next.new.self) (path_of c.next.new.self) (head_of c.in-Enter.element.now)
    (nodes_view c.in-Enter.element.now.children.items)
    (rw (c.in-Some.is, c.in-Enter.is) at c.in_ok-visit.ensures.comes)
    c.in_ok-add_element-in-Enter.ensures c.loop-walk.invariant
    (ap not (sym c.keeps_children-in-Enter.ensures ∙ c.if-not-keeps_children-2.false))
