use Rattle.examples_pandoc_writer.proofs.writer.Writer.+add_ids.Given as goal

abbrev pub decreases-add_ids : goal.decreases-add_ids
decreases-add_ids l = l.depth
