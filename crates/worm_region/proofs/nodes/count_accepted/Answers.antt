use Rattle.std.proofs.Common.{◌∙◌, List, ap, arith, length}
use Rattle.std.specs.List.{sum_by}
use Rattle.std.proofs.lemmas.List.{take_all}
use Rattle.worm_term.specs.Queue.{QueueState}
use Rattle.worm_region.specs.UnderWay.{accepted_by}
use Rattle.worm_region.proofs.nodes.count_accepted.Goals as goal

pub returns : goal.returns
unfolding accepted_by
returns c =
    let queues = c.args.node.now.source.queues in
    let past = c.loop-class-test.false in
    c.loop-class.invariant
    ∙ ap (λ (qs : List QueueState). sum_by (λ (q : QueueState). length q.injected) qs)
    (take_all c.loop-class.class queues (omega (arith, c.requires.queues)))
