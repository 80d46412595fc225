use Rattle.std.proofs.Common.{◌∙◌, ap, refl, subst, sym}
use Rattle.worm_flit.specs.declared.Flit.{Flit}
use Rattle.worm_flit.specs.declared.Kind.TheVariants.{Single}
use Rattle.worm_flit.specs.Worms.{MayFollow}
use Rattle.worm_flit.proofs.Worming.{continues_latest}
use Rattle.worm_links.specs.Trial.{trial_flit, last_on}
use Rattle.worm_links.proofs.Trials.{begins_packet, crosses_pair, ended, opened, with_flit}
use Rattle.worm_node_tests.proofs.links.flits.push_single.Goals as goal

pub push-requires-clause-continues : goal.push-requires-clause-continues
push-requires-clause-continues g c =
    let tx = c.args.tx.now in
    let single = trial_flit c.args.packet 0 Single c.args.vc in
    continues_latest _ _ (c.history.ensures.worms c.flit-single.result.vc)
    (subst (λ (f : Flit). MayFollow (last_on f.vc tx) f) (sym c.flit-single.ensures)
    (begins_packet tx single c.requires.ready refl refl))

pub push-requires-clause-crossing : goal.push-requires-clause-crossing
push-requires-clause-crossing g c =
    crosses_pair _ _ c.args.channels _ c.args.packet 0 Single c.args.vc c.requires.ready.link c.flit-single.ensures
    c.requires.channel.0 c.requires.channel.1

pub returns-in-Ok : goal.returns-in-Ok
returns-in-Ok g c =
    let tx = c.args.tx.now in
    let single = trial_flit c.args.packet 0 Single c.args.vc in
    ended _ single refl
    (opened tx _ single c.requires.ready (c.in-Ok.ensures.sent ∙ ap (with_flit tx) c.flit-single.ensures))
