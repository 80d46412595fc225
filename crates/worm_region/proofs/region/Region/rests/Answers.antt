use Rattle.std.proofs.Common.{◌≡◌, [], None, subst}
use Rattle.std.specs.Prelude.{IsTrue}
use Rattle.worm_router.specs.Rest.{IsAtRest}
use Rattle.worm_wires.specs.Arrivals.{LinksView, credits_to, flits_to}
use Rattle.worm_wires.proofs.ArrivalsFound.{nothing_in, nothing_out}
use Rattle.worm_region.specs.State.{NetState, router_at}
use Rattle.worm_region.specs.Replies.{Attempts}
use Rattle.worm_region.specs.Turns.{ComesInBy, NodePassesBy}
use Rattle.worm_region.proofs.LinkedPorts.{links_of}
use Rattle.worm_region.proofs.Resting.{still_rests}
use Rattle.worm_region.proofs.region.Region.rests.Goals as goal

-- a still node to which nothing comes rests
rested : (c : goal.After-is_resting) → IsTrue c.is_resting.result
    → ComesInBy Attempts c.args.node c.args.self.now None c.args.self.now × IsAtRest
    (router_at c.args.self.now c.args.node)
    × NodePassesBy Attempts c.args.node c.args.self.now None c.args.self.now
rested c still =
    let s = c.self.inside.fabric in
    let x = c.args.node in
    subst (λ (s : NetState). ComesInBy Attempts x s None s × IsAtRest (router_at s x) × NodePassesBy Attempts x s None
    s)
    c.self.view_is
    (still_rests s x c.self.invariant (rw (c.self.view_is) c.requires) (c.is_resting.ensures.resting still)
    (λ p linked. nothing_out (links_of s) x p linked (subst (λ (l : LinksView). credits_to l x p ≡ []) c.wires.ensures
    (c.brings_nothing.ensures.credits c.if-not-brings_nothing.false p)))
    (λ p linked. nothing_in (links_of s) x p linked (subst (λ (l : LinksView). flits_to l x p ≡ []) c.wires.ensures
    (c.brings_nothing.ensures.flits c.if-not-brings_nothing.false p))))

pub returns-clause-comes : goal.returns-clause-comes
returns-clause-comes c = λ still. (rested c still).0

pub returns-clause-rest : goal.returns-clause-rest
returns-clause-rest c = λ still. (rested c still).1

pub returns-clause-passes : goal.returns-clause-passes
returns-clause-passes c = λ still. (rested c still).2
