use Rattle.std.proofs.Common.{◌≡◌, ◌+◌, ◌<◌, ◌∙◌, ℕ, List, None, length, slice_set, true, false, ap, subst, sym}
use Rattle.worm_flit.specs.declared.Lane.{Lane}
use Rattle.worm_flit.specs.Packets.{packet_flits}
use Rattle.worm_term.specs.Queue.{QueueState}
use Rattle.worm_term.specs.Source.{IsSource, IsOpen, SourceState, after_offer, lane_line, refusal, source_state}
use Rattle.worm_term.proofs.Accepted.{accepted, class_there, err_says, no_memory, number_is, put_back, put_packet}
use Rattle.worm_term.proofs.Accepted.{queue_is, still_holds}
use Rattle.worm_term.proofs.Order.{offer_sound}
use Rattle.worm_term.proofs.Unfed.{is_some_of, not_err, put_unfed}
use Rattle.worm_term.proofs.source.Source.offer.Goals as goal

-- what stands in the lists is what the packet makes of them
after : (c : goal.After-self-2-1) → after_offer c.args.self.now c.args.packet.now
    ≡ source_state c.self.inside.node c.self.inside.nodes c.self.inside.classes
    (slice_set c.self.inside.queues.items c.from.result c.append_packet.new.self)
    (slice_set c.self.inside.lanes.items c.in_ok-i.i (record { next = c.index.result.now.next + 1; closed = false }))
after c =
    let lane = c.args.packet.now.lane in
    let sound : IsSource c.args.self.now = subst IsSource c.self.view_is c.self.invariant.0 in
    let is_open : IsOpen c.args.self.now lane =
    subst (IsOpen c.args.self.now) c.lane-lane.ensures c.in_ok-i.ensures.open in
    let line = c.in_ok-i.ensures.value ∙ ap (lane_line c.args.self.now) c.lane-lane.ensures in
    let class = c.from.ensures ∙ ap (λ (l : Lane). l.class) c.lane-lane.ensures in
    let next = number_is _ c.args.self.now lane c.in_ok-i.i _ c.self.view_is line c.in_ok-i.ensures.bound
    c.index.ensures in
    let queue = queue_is _ c.args.self.now lane.class c.from.result _ c.self.view_is class
    (class_there c.args.self.now lane sound is_open) c.index_mut-queue.ensures.value in
    put_packet _ c.args.self.now lane _ _ false c.from.result c.in_ok-i.i _ _ _ c.self.view_is class line next queue
    (not_err c.append_packet.result _ c.append_packet.ensures.ok (sym c.is_err.ensures.value ∙ c.if-is_err.false))
    (ap (λ (n : ℕ). packet_flits lane n c.args.packet.now.words) next)

-- where there is no memory, the queue is as it was
back : (c : goal.Then-is_err)
    → slice_set c.self.inside.queues.items c.from.result c.append_packet.new.self ≡ c.self.inside.queues.items
back c =
    put_back _ c.from.result _ _
    (err_says c.append_packet.result _ c.append_packet.ensures.err
    (sym c.is_err.ensures.value ∙ c.if-is_err.true)) c.index_mut-queue.ensures.value

pub invariant_of-self : goal.invariant_of-self
invariant_of-self c =
    still_holds c.self.inside.node c.self.inside.nodes c.self.inside.classes _ _ c.self.inside.lanes.items
    c.self.inside.firsts c.self.inside.unfed (back c) c.self.invariant

pub returns-then-is_err : goal.returns-then-is_err
returns-then-is_err c = record {
  answer = no_memory _ c.args.self.now _ _
      (subst (λ (l : Lane). refusal c.args.self.now l false ≡ None) c.lane-lane.ensures c.in_ok-i.ensures.taken)
      (ap (λ (qs : List QueueState). source_state c.self.inside.node c.self.inside.nodes c.self.inside.classes qs
      c.self.inside.lanes.items) (back c) ∙ c.self.view_is);
  number = tt;
  there = tt;
}

pub invariant_of-self-2 : goal.invariant_of-self-2
invariant_of-self-2 c =
    let sound : IsSource c.args.self.now = subst IsSource c.self.view_is c.self.invariant.0 in
    let is_open : IsOpen c.args.self.now c.args.packet.now.lane =
    subst (IsOpen c.args.self.now) c.lane-lane.ensures c.in_ok-i.ensures.open in
    let there = subst (λ (s : SourceState). c.lane-lane.result.class < length s.queues) (sym c.self.view_is)
    (class_there c.args.self.now c.lane-lane.result sound c.in_ok-i.ensures.open) in
    let waits = not_err c.append_packet.result _ c.append_packet.ensures.waits
    (sym c.is_err.ensures.value ∙ c.if-is_err.false) in
    let unfed = put_unfed c.self.inside.queues.items c.self.inside.unfed c.put.new.self c.from.result
    c.lane-lane.result.class c.append_packet.new.self true c.self.invariant.2 c.from.ensures there
    c.put.ensures (is_some_of _ waits) in (
      subst IsSource (after c) (offer_sound c.args.self.now c.args.packet.now sound is_open
          c.append_packet.ensures.some c.append_packet.ensures.few),
      c.self.invariant.1,
      unfed,
    )

pub returns-clause-answer : goal.returns-clause-answer
returns-clause-answer c =
    accepted _ _ c.args.self.now (after_offer c.args.self.now c.args.packet.now) _
    (subst (λ (l : Lane). refusal c.args.self.now l false ≡ None) c.lane-lane.ensures c.in_ok-i.ensures.taken)
    (after c)

pub returns-clause-number : goal.returns-clause-number
returns-clause-number c =
    number_is _ c.args.self.now c.args.packet.now.lane c.in_ok-i.i _ c.self.view_is
    (c.in_ok-i.ensures.value ∙ ap (lane_line c.args.self.now) c.lane-lane.ensures) c.in_ok-i.ensures.bound
    c.index.ensures

pub returns-clause-there : goal.returns-clause-there
returns-clause-there c =
    class_there c.args.self.now c.args.packet.now.lane (subst IsSource c.self.view_is c.self.invariant.0)
    (subst (IsOpen c.args.self.now) c.lane-lane.ensures c.in_ok-i.ensures.open)
