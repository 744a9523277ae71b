use Rattle.html_page_findings.proofs.FindingPlaces.{all_findings_stand}
use Rattle.html_page_findings.proofs.laws.paths_lead_to_findings.Goals as goal

pub returns : goal.returns
returns c = all_findings_stand
