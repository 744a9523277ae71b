use Rattle.typst_html_seen_laws.proofs.{PageLaws.{read_pages_are_seen}, SeenNodes.{seen_nodes_stay}}
use Rattle.typst_html_seen_laws.proofs.laws.read_pages_are_seen.Goals as goal

pub returns : goal.returns
returns c = record { seen = read_pages_are_seen; nodes = seen_nodes_stay }
