use Rattle.std.proofs.Common.{◌≡◌, ◌<◌, Ok, ap, arith, inr, subst, sym, ◌∙◌, false}
use Rattle.worm_theory.specs.Steps.{GiveCredit, IsThere}
use Rattle.worm_router.specs.Router.{IsPlace, input_at}
use Rattle.worm_region.specs.Shape.{net_shape}
use Rattle.worm_region.specs.State.{NetState, router_at, shape}
use Rattle.worm_region.specs.Replies.{Replies}
use Rattle.worm_region.specs.Answers.{moved_of}
use Rattle.worm_region.proofs.GiveAgrees.{gave_none}
use Rattle.worm_node.specs.declared.node.Node.{Node}
use Rattle.worm_region.proofs.PlacesThere.{place_inside}
use Rattle.worm_region.proofs.AllOwned.{all_within}
use Rattle.worm_region.proofs.region.Region.give_credit.Goals as goal
use Rattle.worm_region.proofs.region.Region.give_credit.Goals.{After-owed_count}

-- where the step is, in the network inside too
there : (c : goal.After-owed_count) → IsThere (shape c.self.inside.fabric)
    (GiveCredit c.args.node c.args.port c.args.vc)
there c =
    subst (λ (s : NetState). IsThere (shape s) (GiveCredit c.args.node c.args.port c.args.vc)) (sym c.self.view_is)
    c.requires.there

-- what the channel owes
owed : (c : goal.After-owed_count)
    → c.owed_count.result ≡ (input_at (router_at c.self.inside.fabric c.args.node) c.args.port c.args.vc).owed
owed c = c.owed_count.ensures ∙ ap (λ (n : Node). (input_at n.router c.args.port c.args.vc).owed) c.node.ensures

pub node-requires : goal.node-requires
node-requires c =
    (place_inside _ c.args.self.now c.args.node c.args.port c.args.vc c.self.view_is c.self.invariant.framed
    (c.requires.there.0, inr c.requires.there.1, c.requires.there.2)).node_in

pub owed_count-requires : goal.owed_count-requires
owed_count-requires c =
    subst (λ (n : Node). IsPlace n.router c.args.port c.args.vc) (sym c.node.ensures)
    (place_inside _ c.args.self.now c.args.node c.args.port c.args.vc c.self.view_is c.self.invariant.framed
    (c.requires.there.0, inr c.requires.there.1, c.requires.there.2)).place

pub give_owed-requires-clause-there : goal.give_owed-requires-clause-there
give_owed-requires-clause-there c = c.requires.there

pub returns-then-owed_count-eq0 : goal.returns-then-owed_count-eq0
unfolding net_shape
returns-then-owed_count-eq0 c =
    let at = (goal.at.returns-then-owed_count-eq0 c).After-owed_count in
    subst (λ (s : NetState). Replies s (GiveCredit c.args.node c.args.port c.args.vc) (Ok (moved_of false)) s)
    c.self.view_is
    (gave_none c.self.inside.fabric c.args.node c.args.port c.args.vc c.self.invariant (there at)
    (let none = sym (owed at) ∙ c.if-owed_count-eq0.true in grind arith))

pub give_owed-requires-clause-owed : goal.give_owed-requires-clause-owed
give_owed-requires-clause-owed c =
    let at = (goal.at.give_owed-requires-clause-owed c).After-owed_count in
    let some : 0 < (input_at (router_at c.self.inside.fabric c.args.node) c.args.port c.args.vc).owed =
    let none = c.if-owed_count-eq0.false in omega (arith, owed at) in
    subst (λ (s : NetState). 0 < (input_at (router_at s c.args.node) c.args.port c.args.vc).owed) c.self.view_is some

pub give_owed-requires-clause-within : goal.give_owed-requires-clause-within
give_owed-requires-clause-within c = all_within c.args.self.now c.args.node c.args.port c.requires.whole
