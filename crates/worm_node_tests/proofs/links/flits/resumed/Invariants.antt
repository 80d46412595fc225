use Rattle.worm_node_tests.proofs.links.flits.resumed.Given as goal

abbrev pub ghosts-resume : goal.ghosts-resume
ghosts-resume g a = record { past = a.past.now }
