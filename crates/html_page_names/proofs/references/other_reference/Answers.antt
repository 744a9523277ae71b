use Rattle.html_page_names.specs.ReferenceRows.{other_groups}
use Rattle.html_page_names.proofs.references.other_reference.Goals as goal

pub returns : goal.returns
unfolding other_groups
returns c = c.value_in_groups.ensures
