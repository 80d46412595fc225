use Rattle.std.proofs.Common.{List, sym, subst}
use Rattle.worm_flit.specs.declared.Flit.{Flit}
use Rattle.worm_flit.specs.Stamps.{on_channel}
use Rattle.worm_flit.specs.Worms.{IsWorm}
use Rattle.worm_region.specs.State.{network_of, shape}
use Rattle.worm_region.proofs.FrameKept.{framed_mesh}
use Rattle.worm_theory.proofs.Regions.{past_worms}
use Rattle.worm_split.proofs.Gathered.{net_holds}
use Rattle.worm_split.proofs.MadeSoFar.{linked_of}
use Rattle.worm_split.proofs.memory.make_pair.Goals as goal

pub link_after-requires-clause-past : goal.link_after-requires-clause-past
link_after-requires-clause-past g c = λ v.
    let net = c.args.net.now in
    let way = c.args.way in
    let sound = c.recall.ensures.sound in
    subst (λ (past : List Flit). IsWorm (on_channel v past)) (sym c.requires.past)
    (past_worms (shape net) (framed_mesh net sound.framed) (network_of net)
    (net_holds net sound) way.from way.out_port way.to
    (linked_of net way.from way.out_port way.to sound.framed c.requires.joined) v)
