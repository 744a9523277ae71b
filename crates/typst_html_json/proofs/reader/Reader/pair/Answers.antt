use Rattle.std.proofs.Common.{refl}
use Rattle.html_dom_tree.specs.Views.{text_view}
use Rattle.html_names_core.specs.Names.{attr_fault}
use Rattle.typst_html_json.{proofs.Readings.{read_mapped}, specs.NameRefusals.{refusals}}
use Rattle.typst_html_json.proofs.reader.Reader.pair.Goals as goal

pub returns-in_ok-attr-in-Some : goal.returns-in_ok-attr-in-Some
returns-in_ok-attr-in-Some c =
    rw (← c.pair_in.ensures, c.in-Some.is, ← c.deref.ensures)
    (read_mapped (λ name. (name, text_view c.in-Some.value))
    (λ name. refusals c.args.span.0 (attr_fault name))
    (λ p. refusals c.args.span.0 (attr_fault p.0)) c.in_ok-attr-in-Some.field-0 _ c.args.self.now
    c.attr.new.self (λ name. refl) c.in_ok-attr-in-Some.ensures)
