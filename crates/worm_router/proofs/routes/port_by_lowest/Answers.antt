use Rattle.worm_router.proofs.Digits.{port_down, port_up}
use Rattle.worm_router.proofs.routes.port_by_lowest.Goals as goal

pub returns-then-own-lowest-clause-value : goal.returns-then-own-lowest-clause-value
returns-then-own-lowest-clause-value c =
    port_up c.args.mesh.now c.args.node c.args.dst c.args.own c.args.lowest c.requires.some_dims c.requires.own
    c.requires.lowest c.if-own-lowest.true

pub returns-else-own-lowest-clause-value : goal.returns-else-own-lowest-clause-value
returns-else-own-lowest-clause-value c =
    port_down c.args.mesh.now c.args.node c.args.dst c.args.own c.args.lowest c.requires.some_dims c.requires.own
    c.requires.lowest c.if-lowest-own.false c.if-own-lowest.false
