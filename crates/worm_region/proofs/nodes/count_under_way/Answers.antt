use Rattle.std.proofs.Common.{◌≡◌, ◌+◌, ◌∙◌, ap, arith, length, refl, sym, take}
use Rattle.std.proofs.lemmas.List.Sums.{sum_by_more}
use Rattle.worm_region.specs.UnderWay.{accepted_by, accepted_in, taken_by, taken_in}
use Rattle.std.proofs.lemmas.Grind.{common_steps}
use Rattle.worm_region.proofs.nodes.count_under_way.Goals as goal

pub loop-node-init : goal.loop-node-init
unfolding accepted_in taken_in
loop-node-init c = record { accepted = refl; taken = refl }

pub loop-node-preserved : goal.loop-node-preserved
unfolding accepted_in taken_in taken_by
loop-node-preserved c =
    let nodes = c.args.nodes.now in
    let i = c.loop-node.node-index in
    let n = c.node-item.result in
    let accepted : accepted_in (take (i + 1) nodes) ≡ accepted_in (take i nodes) + accepted_by n =
    sum_by_more accepted_by nodes i n c.loop-node-test.true
    ∙ ap (λ m. accepted_in (take i nodes) + accepted_by m) (sym c.node-item.is) in
    let taken : taken_in (take (i + 1) nodes) ≡ taken_in (take i nodes) + taken_by n =
    sum_by_more taken_by nodes i n c.loop-node-test.true
    ∙ ap (λ m. taken_in (take i nodes) + taken_by m) (sym c.node-item.is) in
    let delivered : length c.delivered.result.now ≡ taken_by n = ap length c.delivered.ensures in
    record {
      accepted =
          omega (
            arith,
            accepted,
            c.loop-node.invariant.accepted,
            c.in_ok-count_accepted.ensures,
            c.in_ok-accepted.ensures,
          );
      taken = omega (arith, taken, delivered, c.loop-node.invariant.taken, c.in_ok-taken.ensures);
    }

pub returns : goal.returns
returns c = grind (arith, common_steps)
