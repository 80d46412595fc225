use Rattle.std.proofs.Common.{rules}
use Rattle.worm_core.proofs.ViewCuts.{view_is_cut, packets_are_cut}
use Rattle.worm_core.proofs.net.Net.lane_view.Goals as goal

pub returns-clause-lane_cut : goal.returns-clause-lane_cut
returns-clause-lane_cut c =
    rw (c.in_ok-underway.ensures, c.fabric-fabric.ensures.same)
    (view_is_cut c.args.self.now c.fabric-fabric.ensures.sound c.args.lane c.requires.src c.requires.dst
    c.requires.class)

pub returns-clause-packets_cut : goal.returns-clause-packets_cut
returns-clause-packets_cut c = λ k.
    rw (c.in_ok-underway.ensures, c.fabric-fabric.ensures.same)
    (packets_are_cut c.args.self.now c.fabric-fabric.ensures.sound c.args.lane c.requires.src c.requires.dst
    c.requires.class k)

pub returns-clause-delivered : goal.returns-clause-delivered
returns-clause-delivered c = search rules
