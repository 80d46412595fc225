use Rattle.std.proofs.Common.{◌≡◌, ◌<◌, ◌∙◌, [], ap, length, subst, sym}
use Rattle.std.specs.Prelude.{IsSome}
use Rattle.worm_mesh.specs.Address.{neighbour_of}
use Rattle.worm_wires.specs.Arrivals.{LinksView}
use Rattle.worm_region.specs.Edges.{ComesBackBy}
use Rattle.worm_region.specs.State.{NetState, link_at, net_state, texts_of}
use Rattle.worm_region.specs.Moves.{link_out}
use Rattle.worm_region.specs.Workable.{IsWorkable}
use Rattle.worm_region.specs.declared.region.Region.TheInside.{Inside}
use Rattle.worm_region.proofs.Brought.{after_credit_in, elsewhere_linked, credit_comes}
use Rattle.worm_region.proofs.EmptyLinks.{credit_room}
use Rattle.worm_region.proofs.region.Region.arrive_credit.Goals as goal

-- the region's lists after it
after : (c : goal.After-bring_credit) → LinksView → NetState
after c l =
    let i = c.self-inside.inside.0.0 in net_state l.mesh i.classes i.depth (texts_of i.names.items) i.nodes l.states
    i.own

came : (c : goal.After-bring_credit) → after c c.bring_credit.new.self
    ≡ after_credit_in c.self.inside.fabric c.args.node c.args.port c.args.vc
unfolding after
came c =
    ap (after c) c.bring_credit.ensures
    ∙ ap (λ (s : NetState). after_credit_in s c.args.node c.args.port c.args.vc)
    (ap (λ (r : Inside). r.fabric) c.self-inside.view_is)

made : (c : goal.After-bring_credit) → IsWorkable (after c c.bring_credit.new.self)
    × ComesBackBy c.self.inside.fabric c.args.node c.args.port c.args.vc (after c c.bring_credit.new.self)
made c =
    let s = c.self.inside.fabric in
    subst (λ (t : NetState). IsWorkable t × ComesBackBy s c.args.node c.args.port c.args.vc t) (sym (came c))
    (credit_comes s c.args.node c.args.port c.args.vc c.self.invariant (rw c.self.view_is c.requires.crosses)
    (rw c.self.view_is c.requires.channel))

pub bring_credit-requires-clause-linked : goal.bring_credit-requires-clause-linked
bring_credit-requires-clause-linked c =
    let s = c.self.inside.fabric in
    subst (λ (s : NetState). IsSome (neighbour_of s.mesh c.args.node c.args.port))
    (sym (ap (λ (r : Inside). r.fabric) c.self-inside.view_is))
    (elsewhere_linked s c.args.node c.args.port (rw c.self.view_is c.requires.crosses))

pub bring_credit-requires-clause-empty : goal.bring_credit-requires-clause-empty
bring_credit-requires-clause-empty c =
    subst (λ (s : NetState). (link_at s (link_out s c.args.node c.args.port)).credits ≡ [])
    (sym (ap (λ (r : Inside). r.fabric) c.self-inside.view_is)) (rw c.self.view_is c.requires.empty)

pub bring_credit-requires-clause-room : goal.bring_credit-requires-clause-room
bring_credit-requires-clause-room c =
    let s = c.self.inside.fabric in
    subst (λ (s : NetState). length (link_at s (link_out s c.args.node c.args.port)).credits
    < (link_at s (link_out s c.args.node c.args.port)).room) (sym (ap (λ (r : Inside). r.fabric) c.self-inside.view_is))
    (credit_room s c.args.node c.args.port c.self.invariant.framed
    (elsewhere_linked s c.args.node c.args.port (rw c.self.view_is c.requires.crosses))
    (rw c.self.view_is c.requires.empty))

pub invariant_of-self : goal.invariant_of-self
unfolding after
invariant_of-self c = (made c).0

pub returns : goal.returns
unfolding after
returns c =
    subst (λ (s : NetState). ComesBackBy s c.args.node c.args.port c.args.vc
    (after c c.bring_credit.new.self)) c.self.view_is (made c).1
