use Rattle.typst_html_spaces.proofs.Anchored.{anchors_are_unseen, anchors_keep_edges, anchors_keep_plain_nodes}
use Rattle.typst_html_spaces.proofs.ReadableNodes.{readable_can_be_read, anchors_keep_readable, anchors_keep_frame_free, anchors_keep_body}
use Rattle.typst_html_spaces.proofs.laws.anchors_are_unseen.Goals as goal

pub returns-clause-seen : goal.returns-clause-seen
returns-clause-seen c = anchors_are_unseen

pub returns-clause-edges : goal.returns-clause-edges
returns-clause-edges c = anchors_keep_edges

pub returns-clause-plain : goal.returns-clause-plain
returns-clause-plain c = anchors_keep_plain_nodes

pub returns-clause-frame_free : goal.returns-clause-frame_free
returns-clause-frame_free c = anchors_keep_frame_free

pub returns-clause-body : goal.returns-clause-body
returns-clause-body c = anchors_keep_body

pub returns-clause-readable : goal.returns-clause-readable
returns-clause-readable c = anchors_keep_readable

pub returns-clause-read : goal.returns-clause-read
returns-clause-read c = readable_can_be_read
