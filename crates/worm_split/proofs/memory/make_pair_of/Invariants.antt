use Rattle.worm_region.specs.State.{network_of, shape}
use Rattle.worm_theory.specs.Openings.{past_of}
use Rattle.worm_split.proofs.memory.make_pair_of.Given as goal

abbrev pub ghosts-make_pair : goal.ghosts-make_pair
ghosts-make_pair a = record {
  past = past_of (shape a.net.now)
      (network_of a.net.now) a.way.from a.way.out_port a.way.to;
}
