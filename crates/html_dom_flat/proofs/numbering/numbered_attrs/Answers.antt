use Rattle.std.proofs.Common.{rules, ◌≡◌, [], ◌∷◌, ◌++◌}
use Rattle.html_dom_flat.proofs.Growth.{grows_on, grows_attr, numbered_more}
use Rattle.html_dom_flat.proofs.numbering.numbered_attrs.Goals as goal

pub returns-in_err-push-clause-grows : goal.returns-in_err-push-clause-grows
returns-in_err-push-clause-grows c =
    grows_on _ _ _ c.loop-attr.invariant.grows (grows_attr _ _ _ _ c.insert_attr.ensures.number)

pub loop-attr-preserved : goal.loop-attr-preserved
loop-attr-preserved c =
    let number = c.in_ok-insert_attr.field-0 in
    let puts : c.push.new.self.items ≡ c.loop-attr.pairs.items ++ (number, c.in-Some.value) ∷ []
    = search rules in
    record {
      grows = grows_on _ _ _ c.loop-attr.invariant.grows
          (grows_attr _ _ _ _ c.insert_attr.ensures.number);
      pairs = rw puts
          (numbered_more c.loop-attr.names c.insert_attr.new.self c.loop-attr.pairs.items
          c.loop-attr.yielded c.in-Some.attr number c.in-Some.value
          c.loop-attr.invariant.pairs c.in_ok-insert_attr.ensures.number);
    }
