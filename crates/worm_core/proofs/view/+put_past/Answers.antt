use Rattle.std.proofs.Common.{ap, sym, refl, ◌∙◌, ◌++◌, arith}
use Rattle.std.specs.Prelude.{flat_map}
use Rattle.std.proofs.lemmas.List.{append-nil}
use Rattle.worm_mesh.proofs.Digits.{AreLarge-from_radices}
use Rattle.worm_mesh.proofs.Neighbours.{has_neighbour-from_Joins}
use Rattle.worm_route.specs.Places.{Buffer, Link}
use Rattle.worm_core.specs.LaneView.{held_at, places_past}
use Rattle.worm_core.proofs.LanePlaces.{past_arrived, hops_fall, past_next, past_held}
use Rattle.worm_core.proofs.view.+put_past.Goals as goal

pub returns-in_default : goal.returns-in_default
returns-in_default t c =
    let s = c.args.fabric.now in
    let l = AreLarge-from_radices s.mesh c.requires.framed.radices.radices in
    let none = past_arrived s.mesh l c.args.lane.dst c.requires.dst c.args.node c.in_default.ensures in
    sym (append-nil c.args.held.now.items)
    ∙ ap (λ ps. c.args.held.now.items ++ flat_map (held_at s c.args.lane) ps) (sym none)

pub put_past-requires : goal.put_past-requires
put_past-requires t c =
    let s = c.args.fabric.now in
    let l = AreLarge-from_radices s.mesh c.requires.framed.radices.radices in
    let next = c.in-Some.ensures in
    let nearer = hops_fall s.mesh l c.args.lane.dst c.requires.dst c.args.node c.requires.node c.in-Some.link next in
    (omega (arith, nearer), (c.requires.framed, (next.joined.to_node, (c.requires.dst, c.requires.class))))

pub put_lines-requires-clause-linked : goal.put_lines-requires-clause-linked
put_lines-requires-clause-linked t c =
    let s = c.args.fabric.now in
    let next = c.in-Some.ensures in
    has_neighbour-from_Joins s.mesh c.args.node c.in-Some.link.out_port c.in-Some.link.to
    (AreLarge-from_radices s.mesh c.requires.framed.radices.radices) next.joined

pub returns : goal.returns
returns t c =
    let s = c.args.fabric.now in
    let lane = c.args.lane in
    let l = AreLarge-from_radices s.mesh c.requires.framed.radices.radices in
    let link = c.in-Some.link in
    let next = c.in-Some.ensures in
    past_held (held_at s lane) c.args.held.now.items _ _ _ _ (places_past s.mesh link.to lane.dst)
    (Buffer link.to link.in_port) (Link c.args.node link.out_port) _
    c.in_ok-put_past.ensures c.in_ok-put_buffers.ensures c.in_ok-put_lines.ensures refl
    (past_next s.mesh l lane.dst c.requires.dst c.args.node c.requires.node link next)
