use Rattle.std.specs.Prelude.{[]}
use Rattle.worm_links.proofs.credits.credit_line.Given as goal

abbrev pub ghosts-divide : goal.ghosts-divide
ghosts-divide a = record { link = record { cfg = a.cfg; past = [] } }
