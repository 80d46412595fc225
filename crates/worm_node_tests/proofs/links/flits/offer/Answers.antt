use Rattle.std.proofs.Common.{sym, subst}
use Rattle.worm_flit.specs.Worms.{MayFollow}
use Rattle.worm_flit.proofs.Worming.{continues_latest}
use Rattle.worm_links.specs.Links.{TxView, MayCross}
use Rattle.worm_links.specs.Trial.{last_on}
use Rattle.worm_node_tests.proofs.links.flits.offer.Goals as goal

pub push-requires-clause-continues : goal.push-requires-clause-continues
push-requires-clause-continues g c =
    continues_latest _ _ (c.history.ensures.worms c.args.flit.vc)
    (subst (λ (s : TxView). MayFollow (last_on c.args.flit.vc s) c.args.flit)
    (sym c.loop-tries.invariant) c.requires.next)

pub push-requires-clause-crossing : goal.push-requires-clause-crossing
push-requires-clause-crossing g c =
    subst (λ (s : TxView). MayCross s.link c.args.flit) (sym c.loop-tries.invariant) c.requires.crossing
