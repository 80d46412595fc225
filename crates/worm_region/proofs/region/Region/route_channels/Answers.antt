use Rattle.std.proofs.Common.{Ok, refl}
use Rattle.worm_region.proofs.UnroutedCovered.{first_there, route_elsewhere, routed_all, routed_more, routed_start}
use Rattle.worm_theory.specs.Steps.{Route}
use Rattle.worm_region.specs.Answers.{moved_of}
use Rattle.worm_region.proofs.Passages.{does_quietly}
use Rattle.worm_region.proofs.region.Region.route_channels.Goals as goal

pub loop-port-init : goal.loop-port-init
loop-port-init c =
    let set = c.unrouted-unrouted in
    routed_start c.args.node c.args.self.now set.result c.requires set.ensures.sound set.ensures.routes
    set.ensures.there

pub route-moved-requires : goal.route-moved-requires
route-moved-requires c = first_there c.loop-port.invariant c.in-Some.ensures

pub loop-port-preserved : goal.loop-port-preserved
loop-port-preserved c =
    let moved = c.route-moved in
    let answer = Ok (moved_of moved.result) in
    let s = c.loop-port.self in
    let x = c.args.node in
    let p = c.in-Some.port in
    let v = c.in-Some.vc in
    routed_more x c.args.self.now c.requires s c.loop-port.unrouted moved.new.self c.pop_first.new.self p v
    c.loop-port.invariant c.in-Some.ensures
    (does_quietly s moved.new.self (Route x p v) answer refl (λ grows. grows) moved.ensures)
    (route_elsewhere s moved.new.self x p v answer c.recall.ensures moved.ensures) c.recall-in-Some.ensures

pub returns : goal.returns
returns c =
    routed_all c.args.node c.args.self.now c.requires c.loop-port.self c.loop-port.unrouted c.loop-port.invariant
    c.in_default.ensures.0
