use Rattle.std.proofs.Common.{rules, ◌≡◌, ◌<◌, ap, ◌∙◌, vec_len, length, get_or}
use Rattle.html_dom_flat.{proofs.Closings.{given_closed, closed}, specs.Numbering.{node_with_past}}
use Rattle.html_dom_flat.proofs.builder.Builder.close_element.Goals as goal

pub invariant_of-self : goal.invariant_of-self
invariant_of-self c =
    let old = c.args.self.now in
    let node = c.index_mut.result.now in
    let index = c.args.index in
    let set : c.set_past.new.node ≡ node_with_past c.len-past.result (get_or old.nodes.items index node)
    = c.set_past.ensures ∙ ap (node_with_past c.len-past.result) c.index_mut.ensures.value in
    record {
      given = given_closed old.names old.nodes.items index c.len-past.result
          c.set_past.new.node node set old.given;
    }

pub returns-clause-list : goal.returns-clause-list
returns-clause-list c =
    let old = c.args.self.now in
    let node = c.index_mut.result.now in
    let index = c.args.index in
    let past : c.len-past.result ≡ vec_len old.nodes = search rules in
    let set : c.set_past.new.node ≡ node_with_past (vec_len old.nodes) (get_or old.nodes.items index node)
    = c.set_past.ensures ∙ rw past (ap (node_with_past (vec_len old.nodes)) c.index_mut.ensures.value) in
    let below : index < length old.nodes.items = rw (← old.nodes.ok.0) c.requires in
    closed old.names old.nodes.items index (vec_len old.nodes) c.set_past.new.node node set below
