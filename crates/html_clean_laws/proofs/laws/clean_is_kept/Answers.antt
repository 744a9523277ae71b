use Rattle.html_clean_laws.proofs.Kept.{clean_is_kept}
use Rattle.html_clean_laws.proofs.laws.clean_is_kept.Goals as goal

pub returns : goal.returns
returns c = clean_is_kept
