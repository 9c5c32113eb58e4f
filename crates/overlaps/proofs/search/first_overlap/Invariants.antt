use Rattle.overlaps.proofs.search.first_overlap.Given as goal

abbrev pub ghost-first_other : goal.ghost-first_other
ghost-first_other g a = g.meant

abbrev pub ghost-first_pair : goal.ghost-first_pair
ghost-first_pair g a = g.meant
