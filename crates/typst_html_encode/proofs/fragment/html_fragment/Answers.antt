use Rattle.std.proofs.Common.{◌++◌, ap, ◌∙◌, subst, Ok}
use Rattle.html_dom_tree.specs.Views.{nodes_view}
use Rattle.html_dom_flat.specs.FlatTrees.{tree_nodes}
use Rattle.typst_html_encode.proofs.Fragments.{fragment_writes, reads_in_div}
use Rattle.typst_html_encode.specs.{Fragments.{fragment_text, text_in_div}, Reader.{read}, ReadingBack.{NodesAreNamed}}
use Rattle.typst_html_encode.proofs.fragment.html_fragment.Goals as goal

pub returns-clause-makes : goal.returns-clause-makes
returns-clause-makes g c =
    let frames = g.F.FrameWriter.drawing c.args.frames.now in
    let nodes = nodes_view c.args.nodes.now in
    let wrote = fragment_writes frames (tree_nodes c.in_ok-tree.tree) nodes c.in_ok-tree.ensures
    (Ok tt) _ _ c.in_ok-write_tree.ensures.writes in
    record {
      made = c.into_string.ensures
          ∙ (wrote.appended ∙ ap (λ o. o ++ fragment_text frames nodes) c.new-out.ensures);
      clean = wrote.clean;
      fault = tt;
    }

pub returns-clause-reads_back : goal.returns-clause-reads_back
returns-clause-reads_back g c = λ frameless.
    let wrote = returns-clause-makes g c in
    let named = subst NodesAreNamed c.in_ok-tree.ensures c.in_ok-write_tree.ensures.named in
    ap (λ text. read (text_in_div text)) wrote.made
    ∙ reads_in_div (g.F.FrameWriter.drawing c.args.frames.now) (nodes_view c.args.nodes.now) named
    frameless wrote.clean
