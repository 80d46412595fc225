use Rattle.std.proofs.Common.{◌∙◌, ◌-◌, refl, ap, arith}
use Rattle.worm_links.specs.Trial.{trial_flit}
use Rattle.worm_links.proofs.Trials.{crosses_pair, carried, with_flit}
use Rattle.worm_node_tests.proofs.links.flits.follow.Goals as goal

pub offer-requires-clause-crossing : goal.offer-requires-clause-crossing
offer-requires-clause-crossing g c =
    let h = c.requires.channel in
    crosses_pair _ _ 2 c.args.tx.now.link.depth c.args.packet c.args.index c.args.kind c.args.vc c.requires.was.link
    c.flit.ensures h (omega arith)

pub returns-clause-landed : goal.returns-clause-landed
returns-clause-landed g c = λ yes.
    carried _ _ (trial_flit c.args.packet (c.args.index - 1) c.args.before c.args.vc)
    (trial_flit c.args.packet c.args.index c.args.kind c.args.vc) refl c.requires.was
    (c.offer.ensures.landed yes ∙ ap (with_flit c.args.tx.now) c.flit.ensures)
