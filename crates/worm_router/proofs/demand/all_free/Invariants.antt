use Rattle.std.proofs.Common.{false, true}
use Rattle.worm_router.specs.Tables.{PutsRows}
use Rattle.worm_router.proofs.demand.all_free.Given as goal

abbrev pub invariant-loop-port : goal.invariant-loop-port
invariant-loop-port l = PutsRows false (λ port channel. true) l.vcs l.port l.free
