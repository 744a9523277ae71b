use Rattle.std.proofs.{Common.{ap, sym, ◌∙◌, length}, lemmas.List.{length-map}}
use Rattle.html_dom_flat.{proofs.Flats.{length_all}, specs.FlatTrees.{tree_nodes}, specs.FlatViews.{flat_node_view}}
use Rattle.html_dom_flat.proofs.flat_tree.FlatTree.nodes.Goals as goal

pub returns : goal.returns
returns c =
    let tree = c.args.self.now in
    rw c.deref.ensures.value (record {
      list = sym tree.spells;
      given = tree.given;
      count = sym (length-map tree.nodes.items (flat_node_view tree.names))
          ∙ (ap length (sym tree.spells) ∙ length_all 0 (tree_nodes tree));
    })
