use Rattle.std.proofs.Common.{◌≡◌, ◌<◌, ◌+◌, length, drop, refl, arith}
use Rattle.worm_flit.specs.Channels.{owner_of}
use Rattle.worm_flit.proofs.Owners.{owner-class, owner-here, owns-from_owner}
use Rattle.worm_flit.proofs.channels.ClassChannels.owner.Goals as goal

pub returns-clause-class : goal.returns-clause-class
returns-clause-class c =
    let there : owner_of c.args.self.now c.args.channel < length c.args.self.now =
    owner-class c.args.self.now c.args.channel c.requires in
    let reached : owner_of c.args.self.now c.args.channel
    ≡ c.loop-count.class + owner_of (drop c.loop-count.count-index c.args.self.now) c.loop-count.rest =
    rw (← c.self.view_is, ← c.as_slice-count-items.ensures.value) c.loop-count.invariant.1 in
    omega arith

pub returns-then-rest-count-clause-owned : goal.returns-then-rest-count-clause-owned
returns-then-rest-count-clause-owned c =
    let own = c.args.self.now in
    let i = c.loop-count.count-index in
    let rest = c.loop-count.rest in
    let reached : owner_of own c.args.channel ≡ c.loop-count.class + owner_of (drop i own) rest =
    rw (← c.self.view_is, ← c.as_slice-count-items.ensures.value) c.loop-count.invariant.1 in
    let here : owner_of (drop i own) rest ≡ 0 =
    rw (← c.self.view_is, ← c.as_slice-count-items.ensures.value)
    (owner-here c.as_slice-count-items.result.now i rest c.loop-count-test.true c.if-rest-count.true) in
    owns-from_owner own c.loop-count.class c.args.channel c.requires (omega (arith, reached, here))

pub returns-clause-owned : goal.returns-clause-owned
returns-clause-owned c =
    let own = c.args.self.now in
    let there : owner_of own c.args.channel < length own = owner-class own c.args.channel c.requires in
    let reached : owner_of own c.args.channel ≡ c.loop-count.class
    + owner_of (drop c.loop-count.count-index own) c.loop-count.rest =
    rw (← c.self.view_is, ← c.as_slice-count-items.ensures.value) c.loop-count.invariant.1 in
    let all : length own ≡ length c.as_slice-count-items.result.now =
    rw (c.as_slice-count-items.ensures.value, c.self.view_is) refl in
    absurd (omega (arith, c.loop-count.invariant.0, c.loop-count-test.false))
