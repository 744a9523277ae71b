use Rattle.std.proofs.Common.{ap, ◌∙◌}
use Rattle.html_page_nesting.specs.NestingRules.{is_selected_content}
use Rattle.html_page_nesting.proofs.element.KnownElement.is_selected_content.Goals as goal

pub returns : goal.returns
unfolding is_selected_content
returns c = c.is_one_of.ensures ∙ ap is_selected_content c.resolve.ensures.text
