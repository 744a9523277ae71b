use Rattle.html_dom_flat.proofs.Growth.{given_stay, views_stay, grows_on, grows_tag, tag_kept}
use Rattle.html_dom_flat.proofs.builder.Builder.numbered.Goals as goal

pub invariant_of-self-2 : goal.invariant_of-self-2
invariant_of-self-2 c =
    let old = c.args.self.now in
    let grows = grows_on _ _ _ (grows_tag _ _ _ _ c.insert_tag.ensures.number)
    c.numbered_attrs.ensures.grows in
    record {
      given = given_stay old.names c.numbered_attrs.new.names old.nodes.items grows old.given;
    }

pub returns-clause-numbers : goal.returns-clause-numbers
returns-clause-numbers c =
    let tag = tag_kept c.args.self.now.names c.insert_tag.new.self c.numbered_attrs.new.names
    c.args.tag c.in_ok-number.number c.in_ok-number.ensures.number c.numbered_attrs.ensures.grows in
    record { below = tag.0; same = tag.1; pairs_are = c.in_ok-pairs.ensures.pairs }

pub returns-clause-list : goal.returns-clause-list
returns-clause-list c =
    let old = c.args.self.now in
    let grows = grows_on _ _ _ (grows_tag _ _ _ _ c.insert_tag.ensures.number)
    c.numbered_attrs.ensures.grows in
    views_stay old.names c.numbered_attrs.new.names old.nodes.items grows old.given
