-- Going through the things of a line one by one.
use Rattle.std.proofs.Common.{◌≡◌, ℕ, ◌+◌, ◌-◌, ◌<◌, ◌≤◌, Bool, true, false, ◌&&◌, if◌then◌else◌, List, [], ◌∷◌, ◌++◌, Some, None, length, get_or, drop, refl, sym, ap, ◌∙◌, arith, append_assoc}
use Rattle.std.{proofs.Math.Seq.{drop-append_seam}, proofs.lemmas.List.{drop-map, drop_more, drop_all, drop-drop}, specs.List.{list_all}}
use Rattle.html_names_core.specs.Characters.{is_ignorable}
use Rattle.html_names_table.specs.NameTables.{NamesView}
use Rattle.html_dom_tree.specs.Tree.{tag_node, text_node, element_node, frame_node, NodesView, none, node}
use Rattle.html_dom_flat.proofs.Flats.{joined, length_all}
use Rattle.html_dom_flat.specs.Flat.{FlatNodeView, flat_tag, flat_text, flat_frame, flat_element, node_count, nodes_count, node_flat, nodes_flat}
use Rattle.html_dom_flat.specs.{FlatViews.{flat_node_view, flat_nodes_view}, declared.flat_node.FlatNode.{FlatNode}}
use Rattle.html_dom_flat.specs.declared.flat_node.FlatNode.TheVariants.{Element}
use Rattle.html_flow_convert.specs.BareSpaces.{Thing, border, visible, space, node_things, nodes_things, node_turns, nodes_turns, bare_after, bare_spaces}
use Rattle.html_flow_convert.specs.Lines.{last_after, answer_before, answers_left, next_place, Stands}
use Rattle.html_flow_convert.specs.{Looks.{look_things, head_look, flat_look, is_inside}, Nodes.{is_one}, declared.look.Look.{Look}}
use Rattle.html_flow_convert.specs.declared.look.Look.TheVariants as look
use Rattle.html_flow_convert.specs.declared.line.Last.{Last}
use Rattle.html_flow_convert.specs.declared.line.Last.TheVariants as last
use Rattle.html_flow_convert.proofs.Looks.{element_seen, is_entered_by}

-- one answer after the other

after_border : (ts : List Thing) → bare_after None ts ≡ bare_after (Some border) ts
unfolding bare_after
after_border [] = refl
after_border (border ∷ ts) = refl
after_border (visible ∷ ts) = refl
after_border (space ∷ ts) = refl

-- the things from a node on, of which these come after it or stand in it
abbrev pub seen : Look → List Thing → List Thing
seen look.Border ts = border ∷ ts
seen look.Visible ts = visible ∷ ts
seen look.Space ts = space ∷ ts
seen look.Nothing ts = ts
seen look.Inside ts = ts

pub answers_step : (l : Last) (next : Look) (ts : List Thing) →
    answer_before l next ++ answers_left (last_after l next) ts ≡ answers_left l (seen next ts)
unfolding bare_after
answers_step last.Border look.Border ts = after_border ts
answers_step last.Visible look.Border ts = after_border ts
answers_step (last.Space in_line) look.Border ts = ap (λ bs. (in_line && false) ∷ bs) (after_border ts)
answers_step l next ts = refl

pub answers_end : (l : Last) → answer_before l look.Border ≡ answers_left l []
unfolding bare_after
answers_end last.Border = refl
answers_end last.Visible = refl
answers_end (last.Space in_line) = refl

-- one node after the other

things_joined : (ns ms : NodesView) →
    nodes_things (joined ns ms) ≡ nodes_things ns ++ nodes_things ms
unfolding nodes_things
things_joined none ms = refl
things_joined (node n ns) ms = rw (things_joined ns ms, append_assoc) refl

turns_joined : (ns ms : NodesView) → nodes_turns (joined ns ms) ≡ nodes_turns ns + nodes_turns ms
unfolding nodes_turns
turns_joined none ms = omega arith
turns_joined (node n ns) ms = omega (arith, turns_joined ns ms)

flat_joined : (place : ℕ) (ns ms : NodesView) → nodes_flat place (joined ns ms)
    ≡ nodes_flat place ns ++ nodes_flat (place + nodes_count ns) ms
unfolding nodes_flat nodes_count
flat_joined place none ms =
    let same : place ≡ place + 0 = omega arith in ap (λ p. nodes_flat p ms) same
flat_joined place (node n ns) ms =
    let same : (place + node_count n) + nodes_count ns ≡ place + (node_count n + nodes_count ns)
    = omega arith in
    rw (← same, flat_joined (place + node_count n) ns ms, append_assoc) refl

-- what is left after a node that is looked into, or not
abbrev pub left_after : Bool → (kids others : NodesView) → NodesView
left_after true kids others = joined kids others
left_after false kids others = others

things_left : (l : Look) (kids others : NodesView) →
    look_things l (nodes_things kids) ++ nodes_things others
    ≡ seen l (nodes_things (left_after (is_inside l) kids others))
things_left look.Inside kids others = sym (things_joined kids others)
things_left x kids others = refl

turns_left : (b : Bool) (kids others : NodesView) →
    (if b then nodes_turns kids else 0) + nodes_turns others ≡ nodes_turns (left_after b kids others)
turns_left true kids others = sym (turns_joined kids others)
turns_left false kids others = omega arith

text_left : (one ignorable : Bool) (ts : List Thing) →
    (if one then space ∷ [] else (if ignorable then [] else visible ∷ [])) ++ ts
    ≡ seen (if one then look.Space else (if ignorable then look.Nothing else look.Visible)) ts
text_left true ignorable ts = refl
text_left false true ts = refl
text_left false false ts = refl

same_if : (b : Bool) (n : ℕ) → (if b then n else n) ≡ n
same_if true n = refl
same_if false n = refl

-- the place after a node of a list
abbrev pub place_behind : (place : ℕ) → FlatNodeView → ℕ
place_behind place (flat_tag t) = place + 1
place_behind place (flat_text s span) = place + 1
place_behind place (flat_frame f) = place + 1
place_behind place (flat_element h past) = past

abbrev pub place_next : (place : ℕ) → FlatNodeView → ℕ
place_next place f = if is_inside (flat_look f) then place + 1 else place_behind place f

-- from a node of a list to the next one that is looked at
pub record Next (place : ℕ) (f : FlatNodeView) (fs : List FlatNodeView) (rest : NodesView) : Type 0 where
  pub left : NodesView
  pub later : place + 1 ≤ place_next place f
  pub list_is : drop (place_next place f - (place + 1)) fs ≡ nodes_flat (place_next place f) left
  pub things : nodes_things rest ≡ seen (flat_look f) (nodes_things left)
  pub turns : nodes_turns rest ≡ 1 + nodes_turns left

-- past a node that is one place
next_one : (place : ℕ) (f g : FlatNodeView) (fs : List FlatNodeView) (rest ns : NodesView) →
    f ∷ fs ≡ g ∷ nodes_flat (place + 1) ns → place_next place g ≡ place + 1 →
    nodes_things rest ≡ seen (flat_look g) (nodes_things ns) →
    nodes_turns rest ≡ 1 + nodes_turns ns → Next place f fs rest
next_one place f g fs rest ns e one things turns =
    let is : f ≡ g = cc in
    let list : fs ≡ nodes_flat (place + 1) ns = cc in
    let none : place + 1 - (place + 1) ≡ 0 = omega arith in
    rw is (record {
      left = ns;
      later = omega (arith, one);
      list_is = rw (one, none) list;
      things = things;
      turns = turns;
    })

-- into an element, or past what stands in it
element_list : (b : Bool) (place next past : ℕ) (kids ns : NodesView) →
    past ≡ place + 1 + nodes_count kids → next ≡ (if b then place + 1 else past) →
    drop (next - (place + 1))
    (nodes_flat (place + 1) kids ++ nodes_flat (place + (1 + nodes_count kids)) ns)
    ≡ nodes_flat next (left_after b kids ns)
element_list true place next past kids ns is e =
    let none : next - (place + 1) ≡ 0 = omega (arith, e) in
    let same : place + (1 + nodes_count kids) ≡ place + 1 + nodes_count kids = omega arith in
    rw (none, e, same, flat_joined (place + 1) kids ns) refl
element_list false place next past kids ns is e =
    let inside = nodes_flat (place + 1) kids in
    let count : next - (place + 1) ≡ length inside
    = omega (arith, e, is, length_all (place + 1) kids) in
    let same : next ≡ place + (1 + nodes_count kids) = omega (arith, e, is) in
    rw (count, same) (drop-append_seam inside (nodes_flat (place + (1 + nodes_count kids)) ns))

later_by : (b : Bool) (place past : ℕ) → place + 1 ≤ past →
    place + 1 ≤ (if b then place + 1 else past)
later_by true place past h = omega arith
later_by false place past h = h

next_of : (rest : NodesView) (place : ℕ) (f : FlatNodeView) (fs : List FlatNodeView) →
    f ∷ fs ≡ nodes_flat place rest → Next place f fs rest
unfolding node_flat node_count node_things node_turns
next_of none place f fs e = cc
next_of (node (tag_node t) ns) place f fs e =
    next_one place f (flat_tag t) fs _ ns e refl refl refl
next_of (node (frame_node b) ns) place f fs e =
    next_one place f (flat_frame b) fs _ ns e refl refl refl
next_of (node (text_node s span) ns) place f fs e =
    next_one place f (flat_text s span) fs _ ns e (same_if _ (place + 1))
    (text_left (is_one 32 s) (list_all is_ignorable s) (nodes_things ns)) refl
next_of (node (element_node h kids) ns) place f fs e =
    let past = place + 1 + nodes_count kids in
    let is : f ≡ flat_element h past = cc in
    let list : fs ≡ nodes_flat (place + 1) kids ++ nodes_flat (place + (1 + nodes_count kids)) ns = cc in
    let b = is_inside (head_look h) in
    let entered = ap (λ (t : Bool). if t then nodes_turns kids else 0) (is_entered_by h) in
    let turned = turns_left b kids ns in
    rw is (record {
      left = left_after b kids ns;
      later = later_by b place past (omega arith);
      list_is = rw list (element_list b place _ past kids ns refl refl);
      things = ap (λ ts. ts ++ nodes_things ns) (element_seen h (nodes_things kids))
          ∙ things_left (head_look h) kids ns;
      turns = omega (arith, entered, turned);
    })

nothing_stands : (place : ℕ) (rest : NodesView) → [] ≡ nodes_flat place rest → rest ≡ none
unfolding node_flat
nothing_stands place none e = refl
nothing_stands place (node (tag_node t) ns) e = cc
nothing_stands place (node (text_node s span) ns) e = cc
nothing_stands place (node (element_node h kids) ns) e = cc
nothing_stands place (node (frame_node b) ns) e = cc

-- the same over the nodes of the program

next_is : (names : NamesView) (place : ℕ) (n : FlatNode) (l : Look) →
    l ≡ flat_look (flat_node_view names n) →
    next_place place l n ≡ place_next place (flat_node_view names n)
next_is names place (Element e) l is = rw is refl
next_is names place n l is = rw is refl

module _ (names : NamesView) (nodes : List FlatNode) (whole : NodesView) where
  abbrev left : ℕ → List FlatNodeView
  left place = flat_nodes_view names (drop place nodes)

  left_first : (place : ℕ) (n : FlatNode) → place < length nodes → n ≡ get_or nodes place n →
      left place ≡ flat_node_view names n ∷ left (place + 1)
  left_first place n below is = rw (drop_more nodes place n below, ← is) refl

  left_on : (place next : ℕ) → place + 1 ≤ next →
      drop (next - (place + 1)) (left (place + 1)) ≡ left next
  left_on place next later =
      let count : place + 1 + (next - (place + 1)) ≡ next = omega (arith, later) in
      drop-map (flat_node_view names) (next - (place + 1)) (drop (place + 1) nodes)
      ∙ (ap (flat_nodes_view names) (drop-drop (next - (place + 1)) (place + 1) nodes)
      ∙ ap left count)

  pub stands_next : (place next : ℕ) (n : FlatNode) (one : Look) (l : Last) (bare new_bare : List Bool)
      (turns : ℕ) → place < length nodes → n ≡ get_or nodes place n →
      one ≡ flat_look (flat_node_view names n) → next ≡ next_place place one n →
      new_bare ≡ bare ++ answer_before l one → Stands whole place (left place) l bare turns →
      (place < next) × Stands whole next (left next) (last_after l one) new_bare (turns + 1)
  stands_next place next n one l bare new_bare turns below is look_is next_are bare_is s =
      let on = next_of s.rest place (flat_node_view names n) (left (place + 1))
      (sym (left_first place n below is) ∙ s.list_is) in
      let to : next ≡ place_next place (flat_node_view names n)
      = next_are ∙ next_is names place n one look_is in
      let few = s.few in
      let later = on.later in
      let count = s.count in
      let turned = on.turns in
      let behind : place + 1 ≤ next = omega (arith, later, to) in (
        omega (arith, behind),
        record {
          rest = on.left;
          list_is = sym (left_on place next behind) ∙ rw to on.list_is;
          answers = rw (bare_is, append_assoc, answers_step l one (nodes_things on.left))
              (rw (look_is, ← on.things) s.answers);
          count = omega (arith, count, turned);
          few = omega (arith, few, behind);
        },
      )

  pub stands_end : (place : ℕ) (l : Last) (bare new_bare : List Bool) (turns : ℕ) →
      length nodes ≤ place → new_bare ≡ bare ++ answer_before l look.Border →
      Stands whole place (left place) l bare turns →
      (new_bare ≡ bare_spaces whole) × (turns ≡ nodes_turns whole)
  unfolding nodes_things nodes_turns
  stands_end place l bare new_bare turns beyond bare_is s =
      let empty : s.rest ≡ none = nothing_stands place s.rest
      (sym (ap (flat_nodes_view names) (drop_all place nodes beyond)) ∙ s.list_is) in
      let count = s.count in (
        bare_is ∙ (rw (answers_end l) (rw empty at s.answers)),
        omega (arith, count, ap nodes_turns empty),
      )
