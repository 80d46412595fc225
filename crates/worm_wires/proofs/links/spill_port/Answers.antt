use Rattle.std.proofs.Common.{◌∙◌, ℕ, ap, arith, min, refl}
use Rattle.std.specs.VecDeque.{deque_capacity}
use Rattle.worm_wires.proofs.EachKind.{credits_kind, flits_kind}
use Rattle.worm_wires.proofs.Moved.{spilled, spills}
use Rattle.worm_wires.proofs.Spilled.{port_unlinked, ports_spilled}
use Rattle.worm_wires.proofs.links.spill_port.Goals as goal

pub spill-requires : goal.spill-requires
spill-requires c = (
  omega arith,
  (
    c.requires.port,
    spills flits_kind c.requires.filed refl c.from-at.ensures (omega (arith, c.ranges.node.fits))
        c.index-arrivals-at.result c.index_mut.result.now c.index_mut.ensures.value
        (flits_kind.numbered c.args.wiring.now c.args.node c.args.port (c.in-Some.ensures.there.0 refl)) c.from.result _
        (c.from.ensures ∙ c.in-Some.ensures.into) c.into.view_is c.index_mut-into.ensures.value
        (deque_capacity c.into.inside.flits) (omega arith),
  ),
)

pub spill-requires-in-Some : goal.spill-requires-in-Some
spill-requires-in-Some c =
    let flits = spilled flits_kind c.requires.filed refl c.from-at.ensures (omega (arith, c.ranges.node.fits))
    c.index-arrivals-at.result c.index_mut.result.now c.index_mut.ensures.value
    (flits_kind.numbered c.args.wiring.now c.args.node c.args.port (c.in-Some.ensures.there.0 refl)) c.from.result _
    (c.from.ensures ∙ c.in-Some.ensures.into) c.into.view_is c.index_mut-into.ensures.value _ refl
    (ap (λ (n : ℕ). min n (deque_capacity c.into.inside.credits)) c.spill.ensures.room) c.spill.new.self
    c.spill.ensures.filed c.spill.ensures.list in (
      omega arith,
      (
        c.requires.port,
        spills credits_kind flits.0.sound refl c.from-at.ensures (omega (arith, c.ranges.node.fits))
            c.index-arrivals-at.result c.index_mut-in-Some.result.now c.index_mut-in-Some.ensures.value
            (credits_kind.numbered c.args.wiring.now c.args.node c.args.port (c.in-Some.ensures.there.0 refl))
            c.from-in-Some.result _ (c.from-in-Some.ensures ∙ c.in-Some.ensures.out) c.out.view_is
            c.index_mut-out.ensures.value
            (deque_capacity c.out.inside.credits) (omega arith),
      ),
    )

pub returns-in-Some : goal.returns-in-Some
returns-in-Some c =
    let flits = spilled flits_kind c.requires.filed refl c.from-at.ensures (omega (arith, c.ranges.node.fits))
    c.index-arrivals-at.result c.index_mut.result.now c.index_mut.ensures.value
    (flits_kind.numbered c.args.wiring.now c.args.node c.args.port (c.in-Some.ensures.there.0 refl)) c.from.result _
    (c.from.ensures ∙ c.in-Some.ensures.into) c.into.view_is c.index_mut-into.ensures.value _ refl
    (ap (λ (n : ℕ). min n (deque_capacity c.into.inside.credits)) c.spill.ensures.room) c.spill.new.self
    c.spill.ensures.filed c.spill.ensures.list in
    let credits = spilled credits_kind flits.0.sound refl c.from-at.ensures (omega (arith, c.ranges.node.fits))
    c.index-arrivals-at.result c.index_mut-in-Some.result.now c.index_mut-in-Some.ensures.value
    (credits_kind.numbered c.args.wiring.now c.args.node c.args.port (c.in-Some.ensures.there.0 refl))
    c.from-in-Some.result _ (c.from-in-Some.ensures ∙ c.in-Some.ensures.out) c.out.view_is
    c.index_mut-out.ensures.value _ refl
    (ap (λ (n : ℕ). min (deque_capacity c.out.inside.flits) n) c.spill-in-Some.ensures.room) c.spill-in-Some.new.self
    c.spill-in-Some.ensures.filed c.spill-in-Some.ensures.list in
    record {
      kept = record { sound = credits.0.sound; same = credits.0.same ∙ flits.0.same };
      spilled = ports_spilled c.requires.port flits.1 credits.1;
    }

pub returns-in_default-clause-spilled : goal.returns-in_default-clause-spilled
returns-in_default-clause-spilled c =
    port_unlinked c.requires.filed.inboxes (omega (arith, c.ranges.node.fits)) c.requires.port
    (λ some. let none = c.in_default.ensures.there.1 some in cc)
