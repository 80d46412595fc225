use Rattle.std.proofs.Common.{◌<◌, ◌+◌, ◌*◌, arith}
use Rattle.worm_vcalloc.specs.Asked.{IsFiled}
use Rattle.worm_vcalloc.proofs.PassAgrees.{offered_first, offered_none}
use Rattle.worm_vcalloc.proofs.PlacesKept.{IsPlaced-moved}
use Rattle.worm_vcalloc.proofs.RequestersHeard.{are_asking}
use Rattle.worm_vcalloc.proofs.vc_alloc.VcAlloc.offer.Goals as goal

pub returns-in-Some-clause-pass : goal.returns-in-Some-clause-pass
returns-in-Some-clause-pass c = λ waiting filed.
    let out_in : c.args.out < c.self.inside.ports = rw (← c.self.view_is) at c.requires.out in
    let channel_in : c.args.channel < c.self.inside.vcs = rw (← c.self.view_is) at c.requires.channel in
    let here : IsFiled waiting c.self.inside.ports c.self.inside.vcs c.args.asked.now =
    rw (← c.self.view_is) at filed in
    let asks = are_asking waiting c.args.grants.now c.self.inside.ports c.self.inside.vcs c.args.out
    c.args.channel c.asking.result c.keys.result c.difference-asking.result c.args.asked.now
    c.self.invariant.few_ports c.self.invariant.few_channels out_in channel_in here c.asking.ensures c.keys.ensures
    c.difference-asking.ensures in
    rw (← c.self.view_is, c.set.ensures)
    (offered_first waiting c.args.grants.now c.self.inside.ports c.self.inside.vcs c.self.inside.places
    c.args.out c.args.channel c.difference-asking.result _ c.in-Some.port c.in-Some.vc
    c.self.invariant out_in channel_in asks c.in-Some.ensures)

pub returns-in_default-clause-pass : goal.returns-in_default-clause-pass
returns-in_default-clause-pass c = λ waiting filed.
    let out_in : c.args.out < c.self.inside.ports = rw (← c.self.view_is) at c.requires.out in
    let channel_in : c.args.channel < c.self.inside.vcs = rw (← c.self.view_is) at c.requires.channel in
    let here : IsFiled waiting c.self.inside.ports c.self.inside.vcs c.args.asked.now =
    rw (← c.self.view_is) at filed in
    let asks = are_asking waiting c.args.grants.now c.self.inside.ports c.self.inside.vcs c.args.out
    c.args.channel c.asking.result c.keys.result c.difference-asking.result c.args.asked.now
    c.self.invariant.few_ports c.self.invariant.few_channels out_in channel_in here c.asking.ensures c.keys.ensures
    c.difference-asking.ensures in
    rw (← c.self.view_is)
    (offered_none waiting c.args.grants.now c.self.inside.ports c.self.inside.vcs c.self.inside.places
    c.args.out c.args.channel c.difference-asking.result c.self.invariant out_in channel_in asks
    c.in_default.ensures)

pub invariant_of-self : goal.invariant_of-self
invariant_of-self c =
    let out_in : c.args.out < c.self.inside.ports = rw (← c.self.view_is) at c.requires.out in
    let channel_in : c.args.channel < c.self.inside.vcs = rw (← c.self.view_is) at c.requires.channel in
    let filed : IsFiled c.requires.filed.0 c.self.inside.ports c.self.inside.vcs c.args.asked.now =
    rw (← c.self.view_is) at c.requires.filed.1 in
    let asks = are_asking c.requires.filed.0 c.args.grants.now c.self.inside.ports c.self.inside.vcs c.args.out
    c.args.channel c.asking.result c.keys.result c.difference-asking.result c.args.asked.now
    c.self.invariant.few_ports c.self.invariant.few_channels out_in channel_in filed c.asking.ensures c.keys.ensures
    c.difference-asking.ensures in
    let first = c.in-Some.ensures in
    let place = asks.within c.in-Some.port c.in-Some.vc first.port_in first.channel_in first.first.requests in
    IsPlaced-moved c.self.inside.ports c.self.inside.vcs c.self.inside.places c.args.out c.args.channel
    (8 * c.in-Some.port + c.in-Some.vc) c.self.invariant (omega (arith, out_in, c.self.invariant.few_ports))
    (record {
      port_in = omega (arith, first.channel_in, place.0);
      channel_in = omega (arith, first.channel_in, place.1);
    })
