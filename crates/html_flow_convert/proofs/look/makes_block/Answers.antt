use Rattle.std.{proofs.Common.{ap, sym, ◌∙◌}, specs.List.{list_any}}
use Rattle.html_values_css.specs.Properties.{property_view}
use Rattle.html_flow_convert.{proofs.Looks.{any_map}, specs.BareSpaces.{is_display_block}}
use Rattle.html_flow_convert.proofs.look.makes_block.Goals as goal

pub returns : goal.returns
returns c =
    c.has_display_block.ensures
    ∙ (sym (any_map is_display_block property_view c.as_slice.result.now)
    ∙ ap (list_any is_display_block) c.as_slice.ensures.all)
