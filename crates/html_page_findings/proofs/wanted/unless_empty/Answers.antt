use Rattle.std.proofs.{Common.{refl, string_bytes, rules}, lemmas.Str.{IsUtf8-string_bytes}}
use Rattle.html_dom_tree.specs.Views.{text_view}
use Rattle.html_links.proofs.TakenFragments.{none_unless, some_unless}
use Rattle.html_page_findings.proofs.wanted.unless_empty.Goals as goal

pub returns-then-is_empty : goal.returns-then-is_empty
returns-then-is_empty c =
    let value = c.args.value.now in
    none_unless (string_bytes value) (text_view value) (search rules) refl

pub returns-else-is_empty : goal.returns-else-is_empty
returns-else-is_empty c =
    let value = c.args.value.now in
    some_unless (string_bytes value) (text_view value) (IsUtf8-string_bytes value) (search rules) refl
