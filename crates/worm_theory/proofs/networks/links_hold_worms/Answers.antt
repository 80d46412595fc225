use Rattle.worm_theory.proofs.WormFormed.{joint, sink-worm, sink-ends, source-worm, comes-next}
use Rattle.worm_theory.proofs.networks.links_hold_worms.Goals as goal

pub returns-clause-link : goal.returns-clause-link
returns-clause-link c = joint

pub returns-clause-sink : goal.returns-clause-sink
returns-clause-sink c = sink-worm

pub returns-clause-sink_end : goal.returns-clause-sink_end
returns-clause-sink_end c = sink-ends

pub returns-clause-source : goal.returns-clause-source
returns-clause-source c = source-worm

pub returns-clause-next : goal.returns-clause-next
returns-clause-next c = λ s net mesh sound x p v port. comes-next s mesh net sound x p v port
