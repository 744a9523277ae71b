use Rattle.typst_html_seen_laws.proofs.PageLaws.{unseen_parts_are_left_out}
use Rattle.typst_html_seen_laws.proofs.laws.unseen_parts_are_left_out.Goals as goal

pub returns : goal.returns
returns c = unseen_parts_are_left_out
