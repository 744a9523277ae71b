use Rattle.html_page_names.specs.{NamedReferences.{legacy_reference}, ReferenceRows.{legacy_groups}}
use Rattle.html_page_names.proofs.references.legacy_reference.Goals as goal

pub returns : goal.returns
unfolding legacy_reference legacy_groups
returns c = c.value_in_groups.ensures
