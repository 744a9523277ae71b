use Rattle.std.proofs.Common.{◌≡◌}
use Rattle.serde_json.specs.View.{view, members_view}
use Rattle.typst_html_json.specs.{SpelledDocuments.{parts_at, with_members}, Spelling.{document_parts_view}}
use Rattle.typst_html_json.proofs.documents.parts_at.Given as goal

abbrev pub invariant-loop-name : goal.invariant-loop-name
invariant-loop-name l =
    with_members (document_parts_view l.parts) (members_view l.name-iterator)
    ≡ parts_at (view l.fn.value)
