use Rattle.std.proofs.{Common.{chars}, lemmas.Result.{on_err_weaker, on_ok_weaker}}
use Rattle.html_flow_lists.{proofs.LastItems.{changed_is, kept_is}, specs.ItemLists.{with_longer_text}}
use Rattle.html_flow_lists.proofs.item_list.ItemList.lengthen_text.Goals as goal

pub returns-in-Some-clause-ok : goal.returns-in-Some-clause-ok
returns-in-Some-clause-ok c =
    let found = c.in-Some.ensures.item in
    let held = c.args.self.now.items in
    on_ok_weaker c.lengthen_text.result
    (changed_is held.items _ held.ok.0 found.3.0 c.in-Some.last.now found.1
    (with_longer_text (chars c.args.more.now)) c.lengthen_text.new.last)
    c.lengthen_text.ensures.ok

pub returns-in-Some-clause-kept : goal.returns-in-Some-clause-kept
returns-in-Some-clause-kept c =
    let found = c.in-Some.ensures.item in
    let held = c.args.self.now.items in
    on_err_weaker c.lengthen_text.result
    (kept_is held.items _ held.ok.0 found.3.0 c.in-Some.last.now found.1
    c.lengthen_text.new.last)
    c.lengthen_text.ensures.kept
