use Rattle.std.proofs.Common.{◌≡◌, ◌<◌, ℕ, Bool, IsTrue, nat_lt, ap, arith, subst, sym}
use Rattle.worm_theory.specs.Steps.{Step as Event, IsThere, Route as RouteEvent, Grant as GrantEvent}
use Rattle.worm_theory.specs.Steps.{Send as SendEvent, GiveCredit as GiveEvent}
use Rattle.worm_region.specs.Shape.{net_shape}
use Rattle.worm_region.specs.State.{NetState, shape}
use Rattle.worm_region.specs.Runs.{event_of}
use Rattle.worm_region.specs.declared.step.Step.{Step}
use Rattle.worm_region.proofs.LinkedPorts.{port_there}
use Rattle.worm_region.proofs.region.Region.has.Goals as goal

abbrev Tells : NetState → Event → Bool → Type 0
Tells s event found = (IsTrue found → IsThere (shape s) event) × (IsThere (shape s) event → IsTrue found)

-- what is told of the lists inside, of what the step is
told : (s now : NetState) (step : Step) (event : Event) (found : Bool) → s ≡ now → event_of step ≡ event
    → Tells s event found → Tells now (event_of step) found
told s now step event found same is tells =
    subst (λ (t : NetState). Tells t (event_of step) found) same
    (subst (λ (e : Event). Tells s e found) (sym is) tells)

below : (a b : ℕ) → a < b → IsTrue (nat_lt a b)
below a b less = grind arith

is_below : (a b : ℕ) → IsTrue (nat_lt a b) → a < b
is_below a b found = grind arith

pub returns-in-Route : goal.returns-in-Route
unfolding net_shape
returns-in-Route c =
    told c.self.inside.fabric c.args.self.now c.args.step.now
    (RouteEvent c.in-Route.node c.in-Route.port c.in-Route.vc) c.has_place.result c.self.view_is
    (ap event_of c.in-Route.is) c.has_place.ensures

pub returns-then-has_place : goal.returns-then-has_place
unfolding net_shape
returns-then-has_place c =
    let place = c.has_place-in-Grant.ensures.0 c.if-has_place.true in
    told c.self.inside.fabric c.args.self.now c.args.step.now
    (GrantEvent c.in-Grant.node c.in-Grant.port c.in-Grant.vc c.in-Grant.out_vc)
    (nat_lt c.in-Grant.out_vc c.vcs.result) c.self.view_is (ap event_of c.in-Grant.is) (
      λ found.
          let few = is_below c.in-Grant.out_vc c.vcs.result found in
          (place.0, place.1, place.2, omega (arith, few, c.vcs.ensures)),
      λ there. below c.in-Grant.out_vc c.vcs.result (rw c.vcs.ensures there.3),
    )

pub returns-else-has_place : goal.returns-else-has_place
unfolding net_shape
returns-else-has_place c =
    told c.self.inside.fabric c.args.self.now c.args.step.now
    (GrantEvent c.in-Grant.node c.in-Grant.port c.in-Grant.vc c.in-Grant.out_vc)
    c.has_place-in-Grant.result c.self.view_is (ap event_of c.in-Grant.is) (
      λ found. let missing = c.if-has_place.false in absurd (cc),
      λ there. c.has_place-in-Grant.ensures.1 (there.0, there.1, there.2),
    )

pub returns-in-Send : goal.returns-in-Send
unfolding net_shape
returns-in-Send c =
    told c.self.inside.fabric c.args.self.now c.args.step.now
    (SendEvent c.in-Send.node c.in-Send.port c.in-Send.vc) c.has_place-in-Send.result c.self.view_is
    (ap event_of c.in-Send.is) c.has_place-in-Send.ensures

pub returns-then-has_link : goal.returns-then-has_link
unfolding net_shape
returns-then-has_link c =
    let link = port_there c.self.inside.fabric.mesh c.in-GiveCredit.node c.in-GiveCredit.port
    (c.has_link-in-GiveCredit.ensures.0 c.if-has_link.true) in
    told c.self.inside.fabric c.args.self.now c.args.step.now
    (GiveEvent c.in-GiveCredit.node c.in-GiveCredit.port c.in-GiveCredit.vc)
    (nat_lt c.in-GiveCredit.vc c.vcs-then-has_link.result) c.self.view_is (ap event_of c.in-GiveCredit.is) (
      λ found.
          let few = is_below c.in-GiveCredit.vc c.vcs-then-has_link.result found in
          (link.0, link.1, omega (arith, few, c.vcs-then-has_link.ensures)),
      λ there. below c.in-GiveCredit.vc c.vcs-then-has_link.result (rw c.vcs-then-has_link.ensures there.2),
    )
