use Rattle.std.proofs.Common.{◌∙◌, ap, arith}
use Rattle.worm_links.specs.Trial.{trial_flit}
use Rattle.worm_links.proofs.Trials.{crosses_pair, opened, with_flit}
use Rattle.worm_node_tests.proofs.links.flits.begin.Goals as goal

pub offer-requires-clause-crossing : goal.offer-requires-clause-crossing
offer-requires-clause-crossing g c =
    let h = c.requires.channel in
    crosses_pair _ _ 2 c.args.tx.now.link.depth c.args.packet 0 c.args.kind c.args.vc c.requires.ready.link
    c.flit.ensures h (omega arith)

pub returns-clause-landed : goal.returns-clause-landed
returns-clause-landed g c =
    λ yes. opened _ _ (trial_flit c.args.packet 0 c.args.kind c.args.vc) c.requires.ready (c.offer.ensures.landed yes ∙
    ap (with_flit c.args.tx.now) c.flit.ensures)
