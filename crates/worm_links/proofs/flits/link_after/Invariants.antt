use Rattle.worm_links.proofs.flits.link_after.Given as goal

abbrev pub ghosts-divide : goal.ghosts-divide
ghosts-divide g a = record { link = record { cfg = a.cfg; past = g.B.Opening.past } }
