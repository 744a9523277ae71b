use Rattle.std.proofs.Common.{◌∙◌, ◌≡◌, ap, sym, subst, false, Some}
use Rattle.html_names_core.specs.Kinds.{is_void}
use Rattle.html_flow_construct.proofs.Unnamed.{no_body, a_body, same_faults, removed_view}
use Rattle.html_flow_construct.specs.{ArgumentPieces.{unnamed_at}, Construct.{args_view, choice_faults, takes}}
use Rattle.html_flow_faults.specs.ConstructFaults.{IsFirst}
use Rattle.html_flow_convert.specs.{Items.{present}, Views.{items_view}}
use Rattle.html_flow_construct.proofs.construction.take_body.Goals as goal

pub returns-in_default-clause-ends : goal.returns-in_default-clause-ends
returns-in_default-clause-ends c =
    let args = args_view c.args.args.now.items in
    let plain : is_void c.args.tag.now ≡ false = sym c.is_void.ensures ∙ c.if-is_void.false in
    let same = ap (λ l. unnamed_at (args_view l)) (sym c.deref.ensures.value) in
    let none = same ∙ sym c.unnamed_at.ensures.place ∙ c.in_default.is in
    let chosen = no_body c.args.tag.now args plain none in
    record { made = sym chosen; clean = ap choice_faults chosen; fault = tt }

pub returns-in-Ok-clause-ends : goal.returns-in-Ok-clause-ends
returns-in-Ok-clause-ends c =
    let args = args_view c.args.args.now.items in
    let at = c.in-Some.place in
    let plain : is_void c.args.tag.now ≡ false = sym c.is_void.ensures ∙ c.if-is_void.false in
    let same = ap (λ l. unnamed_at (args_view l)) (sym c.deref.ensures.value) in
    let found : unnamed_at args ≡ Some at = same ∙ sym c.unnamed_at.ensures.place ∙ c.in-Some.is in
    let body = present (items_view c.in-Ok.body.items) in
    let left = ap args_view c.in-Ok.ensures.removed ∙ removed_view c.args.args.now.items at in
    let given = rw c.is_raw.ensures at c.in-Ok.ensures.ends.made in
    let chosen = a_body c.args.tag.now args plain at found body (sym given)
    ∙ ap (λ l. takes body l) (sym left) in
    record { made = sym chosen; clean = ap choice_faults chosen; fault = tt }

pub returns-in-Err-clause-ends : goal.returns-in-Err-clause-ends
returns-in-Err-clause-ends c =
    let args = args_view c.args.args.now.items in
    let at = c.in-Some.place in
    let plain : is_void c.args.tag.now ≡ false = sym c.is_void.ensures ∙ c.if-is_void.false in
    let same = ap (λ l. unnamed_at (args_view l)) (sym c.deref.ensures.value) in
    let found : unnamed_at args ≡ Some at = same ∙ sym c.unnamed_at.ensures.place ∙ c.in-Some.is in
    let first = rw c.is_raw.ensures at c.in-Err.ensures.ends.fault in
    let same_list = sym (same_faults c.args.tag.now args plain at found) in
    record {
      made = tt;
      clean = tt;
      fault = subst (λ fs. IsFirst c.in-Err.fault fs) same_list first;
    }
