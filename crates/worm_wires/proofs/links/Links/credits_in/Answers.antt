use Rattle.std.proofs.Common.{arith}
use Rattle.worm_wires.proofs.Called.{come_read}
use Rattle.worm_wires.proofs.EachKind.{credits_kind}
use Rattle.worm_wires.proofs.Joined.{sets_call_of}
use Rattle.worm_wires.proofs.links.Links.credits_in.Goals as goal

pub returns : goal.returns
returns c =
    come_read (sets_call_of c.self.invariant c.from.result c.args.self.now c.args.node c.index-self-from.result
    c.self.view_is (omega arith) c.from.ensures) credits_kind
