use Rattle.std.proofs.Common.{false, true}
use Rattle.worm_router.specs.Tables.{PutsRow}
use Rattle.worm_router.proofs.demand.free_port.Given as goal

abbrev pub invariant-loop-channel : goal.invariant-loop-channel
invariant-loop-channel l = PutsRow false (λ channel. true) l.channel l.port l.initial.free l.free
