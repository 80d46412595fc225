-- What a link asks of a flit is what the theory asks of one that leaves by it, in both directions.
use Rattle.std.proofs.Common.{◌≡◌, ℕ, ◌<◌, true, Option, Some, ap, sym, ◌∙◌, subst}
use Rattle.std.specs.Prelude.{sum, length}
use Rattle.worm_flit.specs.declared.Flit.{Flit}
use Rattle.worm_flit.specs.Channels.{owner_of}
use Rattle.worm_flit.proofs.Owners.{owner-class}
use Rattle.worm_mesh.specs.Address.{neighbour_of}
use Rattle.worm_mesh.proofs.Digits.{AreLarge-from_radices}
use Rattle.worm_route.specs.Crossing.{crosses}
use Rattle.worm_links.specs.declared.LinkCfg.{LinkCfg}
use Rattle.worm_links.specs.Links.{MayCross}
use Rattle.worm_theory.specs.Shape.{HasLane}
use Rattle.worm_theory.specs.Sound.{Leaves}
use Rattle.worm_theory.specs.Standing.{LeavesBy}
use Rattle.worm_theory.proofs.LeavesWhereCrossed.{crosses_leaves}
use Rattle.worm_region.specs.Shape.{net_shape}
use Rattle.worm_region.specs.State.{NetState, IsFramed, shape}
use Rattle.worm_split.specs.Ends.{IsLinkOf}

some_is : (a b : ℕ) → ◌≡◌ {A = Option ℕ} (Some a) (Some b) → a ≡ b
some_is a b e = cc

module _ (s : NetState) (y o : ℕ) (link : LinkCfg) (f : Flit) (framed : IsFramed s)
    (of : IsLinkOf s.mesh s.channels y o link) where
  pub cross_leaves : MayCross link f → Leaves (shape s) y o f
  unfolding net_shape
  cross_leaves may =
      let channel : f.vc < sum s.channels = rw (← of.same_channels) may.channel in
      let owner : owner_of s.channels f.vc ≡ f.lane.class = some_is _ _ (sym (of.owners f.vc channel) ∙ may.owned) in
      let class_in = subst (λ (k : ℕ). k < length s.channels) owner (owner-class s.channels f.vc channel) in
      let lane : HasLane (shape s) f.lane =
      record {
        source = rw (← of.same_mesh) may.source;
        destination = rw (← of.same_mesh) may.destination;
        class = class_in;
      } in
      let large = AreLarge-from_radices s.mesh framed.radices.radices in
      let route : crosses s.mesh y o f.lane.src f.lane.dst ≡ true =
      rw (← of.same_mesh, ← of.same_node, ← of.same_port) may.route in
      let by = (crosses_leaves s.mesh s.channels s.depth large f.lane lane y o).0 route in
      record {
        owned = (channel, owner);
        lane_there = lane;
        by_port = by.by_port;
        from_port = by.from_port;
        entered = by.entered;
      }

  pub leaves_cross : (z : ℕ) → neighbour_of s.mesh y o ≡ Some z → Leaves (shape s) y o f → MayCross link f
  unfolding net_shape
  leaves_cross z linked leaves =
      let large = AreLarge-from_radices s.mesh framed.radices.radices in
      let by : LeavesBy (shape s) f.lane y o =
      record {
        from_port = leaves.from_port;
        entered = leaves.entered;
        by_port = leaves.by_port;
        to = z;
        linked = linked;
      } in
      let route = (crosses_leaves s.mesh s.channels s.depth large f.lane leaves.lane_there y o).1 by in
      record {
        source = rw of.same_mesh leaves.lane_there.source;
        destination = rw of.same_mesh leaves.lane_there.destination;
        channel = rw of.same_channels leaves.owned.0;
        owned = of.owners f.vc leaves.owned.0 ∙ ap (λ (k : ℕ). Some k) leaves.owned.1;
        route = rw (of.same_mesh, of.same_node, of.same_port) route;
      }
