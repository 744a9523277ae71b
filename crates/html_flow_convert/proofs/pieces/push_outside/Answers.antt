use Rattle.std.proofs.{Common.{◌++◌, map, refl, ap, ◌∙◌}, lemmas.Result.{on_ok_weaker}}
use Rattle.html_names_core.proofs.{Basics.{chars-encode}, Lists.{chars_ascii}}
use Rattle.html_dom_tree.specs.Views.{node_view}
use Rattle.html_flow_convert.proofs.Passing.{alone_seen}
use Rattle.html_flow_convert.proofs.pieces.push_outside.Goals as goal
use lib.Utf8.{encode}

pub returns-in-32-clause-added : goal.returns-in-32-clause-added
returns-in-32-clause-added c =
    let old = map node_view c.args.nodes.now.items in
    on_ok_weaker c.push_copy.result
    (λ e. e ∙ ap (λ l. old ++ l) (alone_seen c.args.span.0 c.args.c 32 c.args.after_return _
    c.in-32.is (chars_ascii _ refl) refl refl))
    c.push_copy.ensures.added

pub returns-in-9-clause-added : goal.returns-in-9-clause-added
returns-in-9-clause-added c =
    let old = map node_view c.args.nodes.now.items in
    on_ok_weaker c.push_copy-in-9.result
    (λ e. e ∙ ap (λ l. old ++ l) (alone_seen c.args.span.0 c.args.c 9 c.args.after_return _
    c.in-9.is (chars_ascii _ refl) refl refl))
    c.push_copy-in-9.ensures.added

pub returns-in-8203-clause-added : goal.returns-in-8203-clause-added
unfolding encode
returns-in-8203-clause-added c =
    let old = map node_view c.args.nodes.now.items in
    on_ok_weaker c.push_copy-in-8203.result
    (λ e. e ∙ ap (λ l. old ++ l) (alone_seen c.args.span.0 c.args.c 8203 c.args.after_return _
    c.in-8203.is (chars-encode 8203 refl) refl refl))
    c.push_copy-in-8203.ensures.added
