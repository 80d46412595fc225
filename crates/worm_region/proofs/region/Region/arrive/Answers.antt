use Rattle.std.proofs.Common.{◌≡◌, ◌<◌, ◌∙◌, [], ap, length, subst, sym}
use Rattle.std.specs.Prelude.{IsSome}
use Rattle.worm_mesh.specs.Address.{neighbour_of}
use Rattle.worm_wires.specs.Arrivals.{LinksView}
use Rattle.worm_region.specs.Edges.{ArrivesBy}
use Rattle.worm_region.specs.State.{NetState, link_at, net_state, texts_of}
use Rattle.worm_region.specs.Moves.{link_into}
use Rattle.worm_region.specs.Workable.{IsWorkable}
use Rattle.worm_region.specs.declared.region.Region.TheInside.{Inside}
use Rattle.worm_region.proofs.Brought.{after_flit_in, elsewhere_linked, flit_comes}
use Rattle.worm_region.proofs.EmptyLinks.{flit_room}
use Rattle.worm_region.proofs.region.Region.arrive.Goals as goal

-- the region's lists after it
after : (c : goal.After-bring_flit) → LinksView → NetState
after c l =
    let i = c.self-inside.inside.0.0 in net_state l.mesh i.classes i.depth (texts_of i.names.items) i.nodes l.states
    i.own

came : (c : goal.After-bring_flit) → after c c.bring_flit.new.self
    ≡ after_flit_in c.self.inside.fabric c.args.node c.args.port c.args.flit
unfolding after
came c =
    ap (after c) c.bring_flit.ensures
    ∙ ap (λ (s : NetState). after_flit_in s c.args.node c.args.port c.args.flit)
    (ap (λ (r : Inside). r.fabric) c.self-inside.view_is)

made : (c : goal.After-bring_flit) → IsWorkable (after c c.bring_flit.new.self)
    × ArrivesBy c.self.inside.fabric c.args.node c.args.port c.args.flit (after c c.bring_flit.new.self)
made c =
    let s = c.self.inside.fabric in
    subst (λ (t : NetState). IsWorkable t × ArrivesBy s c.args.node c.args.port c.args.flit t) (sym (came c))
    (flit_comes s c.args.node c.args.port c.args.flit c.self.invariant (rw c.self.view_is c.requires.crosses)
    (rw c.self.view_is c.requires.channel)
    (rw c.self.view_is c.requires.goal))

pub bring_flit-requires-clause-linked : goal.bring_flit-requires-clause-linked
bring_flit-requires-clause-linked c =
    let s = c.self.inside.fabric in
    subst (λ (s : NetState). IsSome (neighbour_of s.mesh c.args.node c.args.port))
    (sym (ap (λ (r : Inside). r.fabric) c.self-inside.view_is))
    (elsewhere_linked s c.args.node c.args.port (rw c.self.view_is c.requires.crosses))

pub bring_flit-requires-clause-empty : goal.bring_flit-requires-clause-empty
bring_flit-requires-clause-empty c =
    subst (λ (s : NetState). (link_at s (link_into s c.args.node c.args.port)).flits ≡ [])
    (sym (ap (λ (r : Inside). r.fabric) c.self-inside.view_is)) (rw c.self.view_is c.requires.empty)

pub bring_flit-requires-clause-room : goal.bring_flit-requires-clause-room
bring_flit-requires-clause-room c =
    let s = c.self.inside.fabric in
    subst (λ (s : NetState). length (link_at s (link_into s c.args.node c.args.port)).flits
    < (link_at s (link_into s c.args.node c.args.port)).room)
    (sym (ap (λ (r : Inside). r.fabric) c.self-inside.view_is))
    (flit_room s c.args.node c.args.port c.self.invariant.framed
    (elsewhere_linked s c.args.node c.args.port (rw c.self.view_is c.requires.crosses))
    (rw c.self.view_is c.requires.empty))

pub invariant_of-self : goal.invariant_of-self
unfolding after
invariant_of-self c = (made c).0

pub returns : goal.returns
unfolding after
returns c =
    subst (λ (s : NetState). ArrivesBy s c.args.node c.args.port c.args.flit
    (after c c.bring_flit.new.self)) c.self.view_is (made c).1
