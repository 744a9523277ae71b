use Rattle.std.proofs.Common.{sym, ◌∙◌}
use Rattle.html_dom_tree.specs.Views.{element_view, head_of}
use Rattle.html_clean_policy.specs.PolicyViews.{policy_view}
use Rattle.html_clean_nodes.proofs.Stays.{does_not_stay, stays_inside}
use Rattle.html_clean_nodes.proofs.cleaner.Cleaner.stay.Goals as goal

pub returns-in-Some : goal.returns-in-Some
returns-in-Some c =
    let stays = stays_inside (policy_view c.args.policy.now) c.args.self.now.around
    (head_of c.args.element.now) (sym c.allows.ensures ∙ c.if-not-allows.false)
    (element_view c.in_ok-element.element) c.in-Some.inside c.in_ok-element.ensures
    c.in-Some.ensures in
    (stays.0, c.in_ok-element.ensures, stays.1)

pub returns-in-None : goal.returns-in-None
returns-in-None c = does_not_stay (policy_view c.args.policy.now) c.args.self.now.around
    (head_of c.args.element.now) (sym c.allows.ensures ∙ c.if-not-allows.false)
    (element_view c.in_ok-element.element) c.in_ok-element.ensures c.in-None.ensures
