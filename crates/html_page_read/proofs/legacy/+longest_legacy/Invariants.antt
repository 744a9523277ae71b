use Rattle.html_page_read.proofs.legacy.+longest_legacy.Given as goal

abbrev pub decreases-longest_legacy : goal.decreases-longest_legacy
decreases-longest_legacy l = l.at_most
