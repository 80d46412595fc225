-- past the last digit the sum is whole
use Rattle.std.proofs.Common.{◌≤◌, length, arith, sym}
use Rattle.worm_mesh.specs.Address.{address_of}
use Rattle.worm_mesh.proofs.Digits.{AreLarge-from_radices, length-address_of}
use Rattle.worm_route.proofs.Onward.{walk_is, distance_of-past}
use Rattle.worm_route.proofs.PlacesByNode.{nodes_of, ArePlaces-of}
use Rattle.worm_route.proofs.hops.Goals as goal

pub returns-clause-value : goal.returns-clause-value
returns-clause-value c =
    let past : length (address_of c.args.mesh.now c.args.src) ≤ c.loop-d.d =
    omega (arith, length-address_of c.args.mesh.now c.args.src) in
    omega (
      arith,
      c.loop-d.invariant.0,
      distance_of-past c.loop-d.d (address_of c.args.mesh.now c.args.src)
          (address_of c.args.mesh.now c.args.dst) past,
    )

pub returns-clause-walked : goal.returns-clause-walked
returns-clause-walked c =
    walk_is c.args.mesh.now (AreLarge-from_radices c.args.mesh.now c.dims-d-end.ensures.mesh.radices) c.loop-d.hops
    c.args.src c.args.dst c.requires.src_in c.requires.dst_in (sym (returns-clause-value c))

pub returns-clause-nodes : goal.returns-clause-nodes
returns-clause-nodes c =
    let nodes = nodes_of c.args.mesh.now (AreLarge-from_radices c.args.mesh.now c.dims-d-end.ensures.mesh.radices)
    c.args.src c.args.dst c.requires.src_in c.requires.dst_in in
    omega (arith, nodes, returns-clause-value c)

pub returns-clause-places : goal.returns-clause-places
returns-clause-places c =
    ArePlaces-of c.args.mesh.now (AreLarge-from_radices c.args.mesh.now c.dims-d-end.ensures.mesh.radices) c.args.src
    c.args.dst c.requires.src_in c.requires.dst_in
