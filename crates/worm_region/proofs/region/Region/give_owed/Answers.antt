use Rattle.std.proofs.Common.{◌≡◌, ◌<◌, ℕ, Ok, inr, subst, sym}
use Rattle.worm_theory.specs.Steps.{GiveCredit, IsThere}
use Rattle.worm_router.specs.Router.{input_at}
use Rattle.worm_region.specs.Shape.{net_shape}
use Rattle.worm_region.specs.State.{NetState, router_at, shape}
use Rattle.worm_region.specs.Replies.{Replies}
use Rattle.worm_region.specs.declared.step.Moved.TheVariants.{Done}
use Rattle.worm_region.specs.Workable.{EndsWithin, owned}
use Rattle.worm_region.proofs.GiveAgrees.{gave_owed, give_room}
use Rattle.worm_region.proofs.PlacesThere.{place_inside}
use Rattle.worm_region.proofs.region.Region.give_owed.Goals as goal

owed : (s now : NetState) (x p v : ℕ) → s ≡ now → 0 < (input_at (router_at now x) p v).owed
    → 0 < (input_at (router_at s x) p v).owed
owed s now x p v same owes = subst (λ (n : NetState). 0 < (input_at (router_at n x) p v).owed) (sym same) owes

there : (s now : NetState) (x p v : ℕ) → s ≡ now → IsThere (shape now) (GiveCredit x p v)
    → IsThere (shape s) (GiveCredit x p v)
there s now x p v same is = subst (λ (n : NetState). IsThere (shape n) (GiveCredit x p v)) (sym same) is

pub give_credit-requires-clause-place : goal.give_credit-requires-clause-place
unfolding net_shape
give_credit-requires-clause-place c =
    place_inside _ c.args.self.now c.args.node c.args.port c.args.vc c.self.view_is c.self.invariant.framed
    (c.requires.there.0, inr c.requires.there.1, c.requires.there.2)

pub give_credit-requires-clause-linked : goal.give_credit-requires-clause-linked
unfolding net_shape
give_credit-requires-clause-linked c =
    (there c.self.inside.fabric c.args.self.now c.args.node c.args.port c.args.vc c.self.view_is c.requires.there).1

pub give_credit-requires-clause-room : goal.give_credit-requires-clause-room
give_credit-requires-clause-room c =
    let within = subst (λ (s : NetState). EndsWithin (shape s) (owned s) c.args.node c.args.port) (sym c.self.view_is)
    c.requires.within in
    give_room c.self.inside.fabric c.args.node c.args.port c.args.vc c.self.invariant within
    (there c.self.inside.fabric c.args.self.now c.args.node c.args.port c.args.vc c.self.view_is c.requires.there)
    (owed c.self.inside.fabric c.args.self.now c.args.node c.args.port c.args.vc c.self.view_is c.requires.owed)

pub invariant_of-self : goal.invariant_of-self
invariant_of-self c =
    rw c.give_credit.ensures (gave_owed c.self.inside.fabric c.args.node c.args.port c.args.vc c.self.invariant
    (there c.self.inside.fabric c.args.self.now c.args.node c.args.port c.args.vc c.self.view_is c.requires.there)
    (owed c.self.inside.fabric c.args.self.now c.args.node c.args.port c.args.vc c.self.view_is c.requires.owed)).0

pub returns : goal.returns
returns c =
    let a = (gave_owed c.self.inside.fabric c.args.node c.args.port c.args.vc c.self.invariant
    (there c.self.inside.fabric c.args.self.now c.args.node c.args.port c.args.vc c.self.view_is c.requires.there)
    (owed c.self.inside.fabric c.args.self.now c.args.node c.args.port c.args.vc c.self.view_is c.requires.owed)).1 in
    let given : Replies c.self.inside.fabric (GiveCredit c.args.node c.args.port c.args.vc) (Ok Done)
    c.give_credit.new.self = rw c.give_credit.ensures a in
    subst (λ (s : NetState). Replies s (GiveCredit c.args.node c.args.port c.args.vc) (Ok Done)
    c.give_credit.new.self) c.self.view_is given
