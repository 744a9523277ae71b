-- Single nodes past which the walk goes.
use Rattle.std.proofs.{Common.{◌≡◌, ℕ, Bool, true, false, ◌&&◌, List, [], ◌∷◌, refl, ◌∙◌, if◌then◌else◌, codes}, lemmas.Bool.{and_right}}
use Rattle.html_names_core.specs.{Displays.{default_display}, Kinds.{is_replaced}, Names.{stands_in}}
use Rattle.html_dom_tree.specs.Styled.{styled_node, styled_nodes}
use Rattle.html_dom_tree.specs.{Tree.{TagView, Head, tag_node, text_node, element_node, NodeView, NodesView, none}, Views.{nodes_of}}
use Rattle.html_dom_shown.proofs.NodeAtoms.{node_atoms, nodes_atoms}
use Rattle.html_dom_shown.specs.Collapsing.{Atom, collapsible, kept, object, break, text_atoms, preserves, has_border}
use Rattle.html_flow_convert.proofs.Protecting.{opened_things}
use Rattle.html_flow_convert.specs.BareSpaces.{border, visible, text_things, node_things, nodes_things, is_border_element, is_entered}
use Rattle.html_flow_convert.specs.{Nodes.{made_head, pre_wrap_head, break_node, is_one}, Protected.{text_by_answer}}
use Rattle.typst_html_spaces.proofs.Each.{Each}
use Rattle.typst_html_spaces.proofs.Walks.{walks_as, Unseen, walks_unseen, Seen, walks_seen, walks_border, walks_space, atoms_between, Ready, nothing_unseen, walks_nodes}
use Rattle.typst_html_spaces.specs.{AtomContexts.{AtomsStay}, LineContexts.{nodes_between}}

-- the atoms of an element as conversion leaves it
abbrev pub head_atoms : Head → NodesView → List Atom
head_atoms h ns = node_atoms false (styled_node (element_node h ns))

-- a `span` in which white space stays
pub wrap_atoms : (span : ℕ) (ns : NodesView) →
    head_atoms (pre_wrap_head span) ns ≡ nodes_atoms true (styled_nodes ns)
unfolding styled_node preserves has_border default_display stands_in is_replaced
wrap_atoms span ns = refl

wrap_things : (span : ℕ) (ns : NodesView) → node_things (element_node (pre_wrap_head span) ns) ≡ []
unfolding node_things is_border_element default_display stands_in is_replaced
wrap_things span ns = refl

wrap_is_shut : (span : ℕ) → is_entered (pre_wrap_head span) ≡ false
unfolding is_entered is_border_element default_display stands_in is_replaced
wrap_is_shut span = refl

pub tag_ready : (t : TagView) → Ready (tag_node t)
unfolding node_things styled_node
tag_ready t = walks_unseen nothing_unseen

-- texts

text_stays : (s : List ℕ) (span : ℕ) → is_one 32 s ≡ false → (before after : Bool) →
    atoms_between (text_node s span) before after ≡ text_atoms false s
unfolding styled_node
text_stays s span e before after = rw e refl

pub unseen_text : (s : List ℕ) (span : ℕ) → is_one 32 s ≡ false → text_things s ≡ [] →
    Unseen (text_atoms false s) → Ready (text_node s span)
unfolding node_things
unseen_text s span e t u = walks_as t (text_stays s span e) (walks_unseen u)

pub seen_text : (s : List ℕ) (span : ℕ) → is_one 32 s ≡ false → text_things s ≡ visible ∷ [] →
    Seen (text_atoms false s) → Ready (text_node s span)
unfolding node_things
seen_text s span e t u = walks_as t (text_stays s span e) (walks_seen u)

space_atoms : (span : ℕ) (b : Bool) →
    node_atoms false (styled_node (text_by_answer b (32 ∷ []) span))
    ≡ (if b then collapsible 32 else kept 32) ∷ []
unfolding styled_node preserves has_border default_display stands_in is_replaced
space_atoms span true = refl
space_atoms span false = refl

pub space_ready : (span : ℕ) → Ready (text_node (32 ∷ []) span)
unfolding node_things
space_ready span =
    walks_as refl (λ before after. space_atoms span (before && after)) walks_space

-- elements that are not looked into

shut_atoms : (h : Head) (ns : NodesView) → is_entered h ≡ false → (before after : Bool) →
    atoms_between (element_node h ns) before after ≡ head_atoms h ns
shut_atoms h ns e before after = rw e refl

pub wrap_ready : (span : ℕ) (ns : NodesView) → Unseen (nodes_atoms true (styled_nodes ns)) →
    Ready (element_node (pre_wrap_head span) ns)
wrap_ready span ns u = walks_as (wrap_things span ns) (λ before after.
    shut_atoms (pre_wrap_head span) ns (wrap_is_shut span) before after ∙ wrap_atoms span ns)
    (walks_unseen u)

border_is_shut : (h : Head) → is_border_element h ≡ true → is_entered h ≡ false
unfolding is_entered
border_is_shut h e = rw e refl

border_things : (h : Head) (ns : NodesView) → is_border_element h ≡ true →
    node_things (element_node h ns) ≡ border ∷ []
unfolding node_things
border_things h ns e = rw e refl

pub border_ready : (h : Head) (ns : NodesView) → is_border_element h ≡ true →
    ((b a : Bool) → AtomsStay b a (head_atoms h ns)) → Ready (element_node h ns)
border_ready h ns e s = walks_as (border_things h ns e) (shut_atoms h ns (border_is_shut h e))
    (walks_border (head_atoms h ns) s)

break_atoms : (span : ℕ) → node_atoms false (styled_node (break_node span)) ≡ break ∷ []
unfolding styled_node stands_in
break_atoms span = refl

break_is_border : (span : ℕ) → is_border_element (made_head (codes "br") [] span) ≡ true
unfolding is_border_element stands_in
break_is_border span = refl

pub break_ready : (span : ℕ) → Ready (break_node span)
break_ready span = border_ready (made_head (codes "br") [] span) none (break_is_border span)
    (λ b a. rw (break_atoms span) (tt, tt))

replaced_is_shut : (h : Head) → is_replaced h.name ≡ true → is_entered h ≡ false
unfolding is_entered
replaced_is_shut h e = rw (e, and_right _ _ refl) refl

replaced_things : (h : Head) (ns : NodesView) → is_border_element h ≡ false → is_replaced h.name ≡ true →
    node_things (element_node h ns) ≡ visible ∷ []
unfolding node_things
replaced_things h ns e r = rw (e, r) refl

object_seen : (name : List ℕ) → Seen (object name ∷ [])
object_seen name = record { at = λ a. refl; past = λ b. refl; stay = λ b a. (tt, tt) }

pub replaced_ready : (h : Head) (ns : NodesView) → is_border_element h ≡ false → is_replaced h.name ≡ true →
    head_atoms h ns ≡ object h.name ∷ [] → Ready (element_node h ns)
replaced_ready h ns e r one = walks_as (replaced_things h ns e r)
    (λ before after. shut_atoms h ns (replaced_is_shut h r) before after ∙ one)
    (walks_seen (object_seen h.name))

-- an element that is looked into

entered_things : (h : Head) (ns : NodesView) → is_entered h ≡ true →
    node_things (element_node h ns) ≡ nodes_things ns
unfolding node_things
entered_things h ns e = opened_things h (nodes_things ns) e

pub entered_ready : (h : Head) (ms : List NodeView) → is_entered h ≡ true →
    ((ns : NodesView) → head_atoms h ns ≡ nodes_atoms false (styled_nodes ns)) → Each Ready ms →
    Ready (element_node h (nodes_of ms))
entered_ready h ms e inside r = walks_as (entered_things h (nodes_of ms) e)
    (λ before after. rw e (inside (nodes_between before after (nodes_of ms)))) (walks_nodes ms r)
