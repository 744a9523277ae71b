use Rattle.std.proofs.Common.{◌∙◌, ap}
use Rattle.html_dom_document.proofs.Positions.{positions_lead}
use Rattle.html_dom_document.specs.{Introspectors.{introspector_view, recorded_view}, Views.{output_view, info_view}}
use Rattle.html_dom_document.proofs.document.HtmlDocument.new.Goals as goal

pub returns-in-Ok-clause-leads : goal.returns-in-Ok-clause-leads
returns-in-Ok-clause-leads c =
    positions_lead (record {
      output = output_view c.args.output;
      info = info_view c.args.info;
      introspector = introspector_view c.in-Ok.introspector;
    }) (c.in-Ok.ensures ∙ ap recorded_view c.nodes.ensures)
