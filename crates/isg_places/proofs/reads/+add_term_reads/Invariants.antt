use Rattle.isg_places.proofs.reads.+add_term_reads.Given as goal

abbrev pub decreases-add_term_reads : goal.decreases-add_term_reads
decreases-add_term_reads l = l.n
