use Rattle.worm_theory.proofs.Join.{join_holds, join_sinks, join_sources}
use Rattle.worm_theory.proofs.parts.joins.Goals as goal

pub returns-clause-holds : goal.returns-clause-holds
returns-clause-holds c =
    λ s old parts flits credits mesh was hold rest. join_holds s mesh old parts flits credits rest was hold

pub returns-clause-sinks : goal.returns-clause-sinks
returns-clause-sinks c =
    λ s old parts flits credits mesh hold rest. join_sinks s mesh old parts flits credits rest hold.sound

pub returns-clause-sources : goal.returns-clause-sources
returns-clause-sources c = λ s old parts flits credits hold. join_sources s old parts flits credits hold.queues
