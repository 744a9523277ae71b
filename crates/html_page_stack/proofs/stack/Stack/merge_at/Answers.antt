use Rattle.std.proofs.Common.{◌≡◌, arith, length, sym, ap, ◌∙◌, subst}
use Rattle.html_page_stack.{proofs.Merging.{as_long, known_still, written}, specs.Contexts.{AreKnown}}
use Rattle.html_page_stack.proofs.stack.Stack.merge_at.Goals as goal

pub invariant_of-self : goal.invariant_of-self
invariant_of-self c =
    let es = c.args.self.now.items in
    let fs = c.merge_at.new.elements in
    let old = c.deref_mut.ensures.value in
    let same = c.merge_at.ensures.known in
    let long : length fs ≡ length es.items = as_long c.deref_mut.result.now fs same ∙ ap length old in
    record {
      known = subst AreKnown (sym (written fs es.items es.len (omega (arith, es.ok.0)) long))
          (known_still c.deref_mut.result.now fs same
          (subst AreKnown (sym old) c.args.self.now.known));
    }
