use Rattle.std.proofs.Common.{◌-◌, arith}
use Rattle.std.specs.Prelude.{vec_capacity}
use Rattle.worm_split.proofs.DealtSoFar.{Deals, all_dealt, deals, dealt_state, one_left, one_more, seat_lists}
use Rattle.worm_split.proofs.splitting.deal.Goals as goal
use Rattle.worm_split.proofs.splitting.deal.Goals.{After-exchange, After-exchange-2}

-- what the worker of this turn is dealt
dealt : (c : After-exchange) →
    let s = c.loop-worker in
    let x = c.exchange.new in
    Deals c.args.opening.now.value c.args.workers s.worker c.args.pairs.now.value.items x.self c.pop.new.self.items
    s.parts.items (vec_capacity s.parts) (dealt_state c.in-Some.seat
    (record { worker = s.worker; workers = c.args.workers }) x.nodes.items x.links.items x.ends.items)
dealt c =
    deals c.pop.new.self.items c.in-Some.seat c.requires.net c.loop-worker.invariant (omega arith)
    c.in-Some.ensures.items c.exchange.ensures

pub part_of-requires-clause-works : goal.part_of-requires-clause-works
part_of-requires-clause-works c = (dealt (goal.at.part_of-requires-clause-works c).After-exchange).works

pub part_of-requires-clause-part : goal.part_of-requires-clause-part
part_of-requires-clause-part c = (dealt (goal.at.part_of-requires-clause-part c).After-exchange).is_part

pub loop-worker-preserved : goal.loop-worker-preserved
loop-worker-preserved c =
    let push = c.push-room in
    one_more c.loop-worker.parts push.new.self (dealt (goal.at.loop-worker-preserved c).After-exchange) push.result
    c.part_of.result c.part_of.ensures push.ensures.items push.ensures.full push.ensures.capacity

pub exchange-requires-clause-paired : goal.exchange-requires-clause-paired
exchange-requires-clause-paired c =
    seat_lists c.pop.new.self.items c.in-Some.seat c.requires.net c.loop-worker.invariant c.in-Some.ensures.items

pub exchange-requires-2-clause-paired : goal.exchange-requires-2-clause-paired
exchange-requires-2-clause-paired c =
    seat_lists c.pop-2.new.self.items c.in-Some-pop.seat c.requires.net c.loop-worker.invariant
    c.in-Some-pop.ensures.items

-- what the last worker is dealt
dealt_last : (c : After-exchange-2) →
    let s = c.loop-worker in
    let x = c.exchange-2.new in
    let W = c.args.workers in
    Deals c.args.opening.now.value W (W - 1) c.args.pairs.now.value.items x.self c.pop-2.new.self.items
    s.parts.items (vec_capacity s.parts) (dealt_state c.in-Some-pop.seat
    (record { worker = W - 1; workers = W }) x.nodes.items x.links.items x.ends.items)
dealt_last c =
    let rest = c.pop-2.new.self.items in
    let seat = c.in-Some-pop.seat in
    let popped = c.in-Some-pop.ensures.items in
    deals rest seat c.requires.net (one_left rest seat c.loop-worker.invariant popped (omega arith)) (omega arith)
    popped c.exchange-2.ensures

pub part_of-requires-2-clause-works : goal.part_of-requires-2-clause-works
part_of-requires-2-clause-works c = (dealt_last (goal.at.part_of-requires-2-clause-works c).After-exchange-2).works

pub part_of-requires-2-clause-part : goal.part_of-requires-2-clause-part
part_of-requires-2-clause-part c = (dealt_last (goal.at.part_of-requires-2-clause-part c).After-exchange-2).is_part

pub part_of-requires-2-clause-kept : goal.part_of-requires-2-clause-kept
part_of-requires-2-clause-kept c = (dealt_last (goal.at.part_of-requires-2-clause-kept c).After-exchange-2).kept

pub returns : goal.returns
returns c =
    let push = c.push-room-2 in
    all_dealt (one_more c.loop-worker.parts push.new.self (dealt_last (goal.at.returns c).After-exchange-2) push.result
    c.part_of-2.result c.part_of-2.ensures push.ensures.items push.ensures.full push.ensures.capacity) (omega arith)
