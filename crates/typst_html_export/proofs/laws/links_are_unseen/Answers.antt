use Rattle.typst_html_export.proofs.LinkedRoots.{anchors_keep_atoms, links_keep_atoms, links_keep_frames, links_keep_names}
use Rattle.typst_html_export.proofs.laws.links_are_unseen.Goals as goal

pub returns-clause-anchors : goal.returns-clause-anchors
returns-clause-anchors c = anchors_keep_atoms

pub returns-clause-links : goal.returns-clause-links
returns-clause-links c = links_keep_atoms

pub returns-clause-frame_free : goal.returns-clause-frame_free
returns-clause-frame_free c = links_keep_frames

pub returns-clause-named : goal.returns-clause-named
returns-clause-named c = links_keep_names
