use Rattle.std.proofs.{Common.{◌≡◌, ◌++◌, ◌∙◌, refl, ap, sym, take, drop, length, arith}, lemmas.Grind.{common_steps}}
use Rattle.html_dom_tree.specs.Views.{nodes_view}
use Rattle.html_flow_convert.{proofs.Protecting.{kept_all}, specs.BareSpaces.{bare_spaces}}
use Rattle.html_flow_convert.proofs.protect.with_spaces.Goals as goal

pub returns-then-are_bare : goal.returns-then-are_bare
returns-then-are_bare c =
    let asked = c.in_ok-answer_for.ensures
    ∙ ap (λ ns. bare_spaces (nodes_view ns)) c.deref.ensures.value in
    kept_all (nodes_view c.args.nodes.items) (rw (← asked, ← c.deref-2.ensures.value)
    (sym c.are_bare.ensures ∙ c.if-are_bare.true))

pub returns : goal.returns
returns c =
    let ns = nodes_view c.args.nodes.items in
    let new = c.protect_nodes.new.nodes in
    let asked = c.in_ok-answer_for.ensures
    ∙ ap (λ ns. bare_spaces (nodes_view ns)) c.deref.ensures.value in
    let kept : take c.args.nodes.len (new ++ drop (length new) c.args.nodes.items) ≡ new
    = grind (arith, common_steps) in
    rw (kept, c.in_ok-protect_nodes.ensures.made, c.deref_mut.ensures.value, asked) refl
