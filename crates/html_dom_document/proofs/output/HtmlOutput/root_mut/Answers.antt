use Rattle.std.proofs.Common.{refl, arith}
use Rattle.html_dom_document.proofs.{Outputs.{one_output, root_written}, Places.{within, is_element, element_seen}}
use Rattle.html_dom_document.specs.RootPlaces.{put_stands}
use Rattle.html_dom_document.proofs.output.HtmlOutput.root_mut.Goals as goal

pub index_mut-root-requires : goal.index_mut-root-requires
index_mut-root-requires c =
    let output = c.args.self.now in
    let place = within output.nodes.items output.root_index output.root_is_element in
    omega (arith, output.nodes.ok.0, place)

pub element_mut-requires : goal.element_mut-requires
element_mut-requires c =
    let output = c.args.self.now in
    is_element output.nodes.items output.root_index c.index_mut-root.result.now
    output.root_is_element c.index_mut-root.ensures.value

pub invariant_of-self-lent : goal.invariant_of-self-lent
invariant_of-self-lent c =
    let output = c.args.self.now in
    λ last. (put_stands output.nodes.items output.root_index last output.root_is_element, tt)

pub returns : goal.returns
returns c =
    let output = c.args.self.now in (
      (refl, λ last. one_output output last _),
      record {
        writes_back = tt;
        value = element_seen output.nodes.items output.root_index c.index_mut-root.result.now
            c.element_mut.result.now output.root_is_element c.index_mut-root.ensures.value
            c.element_mut.ensures.value;
        written = root_written output;
      },
    )
