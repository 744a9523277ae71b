-- Going through nodes one by one.
use Rattle.std.proofs.Common.{◌≡◌, ℕ, ◌+◌, ◌<◌, ◌≤◌, List, [], ◌∷◌, ◌++◌, Bool, None, length, get_or, drop, refl, ap, ◌∙◌, append_assoc, append-nil}
use Rattle.std.proofs.lemmas.List.{drop_all, drop_more}
use Rattle.html_dom_tree.specs.{Views.{node_view, nodes_view}, declared.node.HtmlNode.{HtmlNode}}
use Rattle.html_flow_convert.specs.BareSpaces.{Thing, border, visible, space, node_things, nodes_things, bare_after}
use Rattle.html_flow_convert.specs.{Lines.{answer_before, last_after, answers_left}, Looks.{look_things}}
use Rattle.html_flow_convert.specs.Walks.{WalkView, walk_with, walk_on}
use Rattle.html_flow_convert.specs.declared.line.Last.TheVariants as last
use Rattle.html_flow_convert.specs.declared.look.Look.{Look}
use Rattle.html_flow_convert.specs.declared.look.Look.TheVariants as look
use Rattle.html_flow_convert.proofs.Lines.{seen, answers_step, answers_end}

pub one_seen : (w : WalkView) (next : Look) → walk_with w next ≡ walk_on w (look_things next [])
unfolding walk_on
one_seen w look.Nothing = ap (λ (bs : List Bool). (bs, w.1)) (append-nil w.0)
one_seen w look.Inside = ap (λ (bs : List Bool). (bs, w.1)) (append-nil w.0)
one_seen w x = refl

walk_append : (w : WalkView) (ts us : List Thing) → walk_on w (ts ++ us) ≡ walk_on (walk_on w ts) us
unfolding walk_on
walk_append w [] us = refl
walk_append w (border ∷ ts) us = walk_append (walk_with w look.Border) ts us
walk_append w (visible ∷ ts) us = walk_append (walk_with w look.Visible) ts us
walk_append w (space ∷ ts) us = walk_append (walk_with w look.Space) ts us

-- one node after the other

pub walk_step : (w x whole : WalkView) (nodes : List HtmlNode) (i : ℕ) (n : HtmlNode) →
    i < length nodes → n ≡ get_or nodes i n →
    walk_on w (nodes_things (nodes_view (drop i nodes))) ≡ whole →
    x ≡ walk_on w (node_things (node_view n)) →
    walk_on x (nodes_things (nodes_view (drop (i + 1) nodes))) ≡ whole
unfolding node_things
walk_step w x whole nodes i n below is before on =
    let later = nodes_things (nodes_view (drop (i + 1) nodes)) in
    rw (on, ← walk_append w (node_things (node_view n)) later)
    (rw (drop_more nodes i n below, ← is) at before)

pub walk_end : (w whole : WalkView) (nodes : List HtmlNode) (i : ℕ) → length nodes ≤ i →
    walk_on w (nodes_things (nodes_view (drop i nodes))) ≡ whole → w ≡ whole
unfolding node_things walk_on
walk_end w whole nodes i beyond before = rw (drop_all i nodes beyond) at before

-- the answers

-- those so far, and those for these things
abbrev answered : WalkView → List Thing → List Bool
answered w ts = w.0 ++ answers_left w.1 ts

answered_with : (w : WalkView) (next : Look) (ts : List Thing) →
    answered (walk_with w next) ts ≡ answered w (seen next ts)
answered_with w next ts =
    append_assoc w.0 (answer_before w.1 next) (answers_left (last_after w.1 next) ts)
    ∙ ap (λ bs. w.0 ++ bs) (answers_step w.1 next ts)

answered_on : (w : WalkView) (ts us : List Thing) →
    answered (walk_on w ts) us ≡ answered w (ts ++ us)
unfolding walk_on
answered_on w [] us = refl
answered_on w (border ∷ ts) us =
    answered_on (walk_with w look.Border) ts us ∙ answered_with w look.Border (ts ++ us)
answered_on w (visible ∷ ts) us =
    answered_on (walk_with w look.Visible) ts us ∙ answered_with w look.Visible (ts ++ us)
answered_on w (space ∷ ts) us =
    answered_on (walk_with w look.Space) ts us ∙ answered_with w look.Space (ts ++ us)

pub all_answered : (start all end : WalkView) (ts : List Thing) → start ≡ ([], last.Border) →
    all ≡ walk_on start ts → end ≡ walk_on all (look_things look.Border []) →
    end.0 ≡ bare_after None ts
unfolding walk_on
all_answered start all end ts begins on ends =
    rw (ends, answers_end all.1, on, begins)
    (answered_on ([], last.Border) ts [] ∙ ap (bare_after None) (append-nil ts))
