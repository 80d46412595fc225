use Rattle.std.proofs.Common.{arith}
use Rattle.worm_wires.proofs.Wired.{number_kept}
use Rattle.worm_wires.proofs.wiring.Wiring.kept.Goals as goal

pub returns-clause-value : goal.returns-clause-value
returns-clause-value c =
    number_kept c.self.inside.mesh c.args.self.now c.self.inside.nodes c.args.node c.args.port c.from.result
    c.from-2.result c.self.invariant.links c.self.view_is (omega arith) c.requires c.from.ensures c.from-2.ensures
