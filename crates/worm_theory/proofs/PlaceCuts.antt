-- The cuts of lanes and packets by their places, from the theory's.
use Rattle.std.proofs.Common.{ℕ, ◌≡◌, ◌*◌, ◌++◌, List, length, arith, refl, ap, ◌∙◌}
use Rattle.std.proofs.lemmas.Bool.{ne_eqb}
use Rattle.std.proofs.lemmas.List.{append-nil}
use Rattle.worm_flit.specs.declared.Lane.{Lane}
use Rattle.worm_flit.specs.Channels.{AreChannels}
use Rattle.worm_mesh.specs.Address.{AreRadices}
use Rattle.worm_mesh.proofs.Digits.{AreLarge-from_radices}
use Rattle.worm_route.specs.Route.{hops_of}
use Rattle.worm_route.specs.Places.{places_of}
use Rattle.worm_route.specs.LaneMachine.{IsMachine}
use Rattle.worm_route.proofs.OneCutRises.{IsMachine-of}
use Rattle.worm_theory.specs.Shape.{HasLane}
use Rattle.worm_theory.specs.Network.{Network}
use Rattle.worm_theory.specs.Sound.{Sound}
use Rattle.worm_theory.specs.Cut.{held, delivered, underway, underway_from, lane_store, lane_line, LanesCut}
use Rattle.worm_theory.specs.PacketCut.{packet_held, PacketsHold}
use Rattle.worm_theory.specs.ChannelCut.{class_store, class_line, ChannelsCut}
use Rattle.worm_theory.proofs.ChannelLines.{channels_cut}
use Rattle.worm_theory.specs.ShapeOf.{shape_of}
use Rattle.worm_theory.specs.LaneMoves.{lane_held, lane_machine, LanesAreCut}
use Rattle.worm_theory.specs.PacketPlaces.{packet_at, PacketsAreCut}
use Rattle.worm_theory.proofs.Shapes.{shape_is_mesh}
use Rattle.worm_theory.proofs.Joined.{joined_all}

-- the machine of a lane is one
pub machine_stands : (ks counts : List ℕ) (depth : ℕ) (net : Network) (lane : Lane) (c : ℕ)
    → IsMachine (lane_machine ks (shape_of ks counts depth) net lane c)
machine_stands ks counts depth net lane c =
    IsMachine-of (lane_held (shape_of ks counts depth) net lane c) (delivered (shape_of ks counts depth) net lane)
    (places_of ks lane.src lane.dst)

module _ (ks counts : List ℕ) (depth : ℕ) (mesh : AreRadices ks) (net : Network) where
  -- its list is what the theory has delivered and under way
  items_are : (lane : Lane) (c : ℕ) → HasLane (shape_of ks counts depth) lane
      → (lane_machine ks (shape_of ks counts depth) net lane c).items ≡ delivered (shape_of ks counts depth) net lane
      ++ underway (shape_of ks counts depth) net lane c
  items_are lane c there =
      let s = shape_of ks counts depth in
      ap (λ v. delivered (shape_of ks counts depth) net lane ++ v)
      (joined_all ks counts depth (AreLarge-from_radices ks mesh.radices) lane.dst there.destination
      (lane_held s net lane c) (lane_line net lane)
      (λ x o h. rw (ne_eqb o (2 * length ks) (λ e. absurd (omega arith))) refl) lane.src there.source ∙
      ap (λ v. underway_from (shape_of ks counts depth) (lane_store net lane c) (lane_line net lane) lane.dst
      (hops_of ks lane.src lane.dst) lane.src (2 * length ks) ++ v)
      (append-nil (held lane (net.unfed lane.src lane.class))))

  pub lanes_are_cut : LanesCut (shape_of ks counts depth) net → LanesAreCut ks (shape_of ks counts depth) net
  lanes_are_cut cut = λ lane c there owned alone. items_are lane c there ∙ cut lane c there owned alone

  packet_items_are : ChannelsCut (shape_of ks counts depth) net → PacketsAreCut ks (shape_of ks counts depth) net
  packet_items_are cut = λ lane k there.
      ap (λ v. packet_held lane k (net.out lane.dst (2 * length ks)) ++ v)
      (joined_all ks counts depth (AreLarge-from_radices ks mesh.radices) lane.dst there.destination
      (packet_at (shape_of ks counts depth) net lane k) (class_line (shape_of ks counts depth) net lane k)
      (λ x o h. rw (ne_eqb o (2 * length ks) (λ e. absurd (omega arith))) refl) lane.src there.source ∙
      ap (λ v. underway_from (shape_of ks counts depth) (class_store (shape_of ks counts depth) net lane k)
      (class_line (shape_of ks counts depth) net lane k) lane.dst (hops_of ks lane.src lane.dst) lane.src
      (2 * length ks) ++ v) (append-nil (packet_held lane k (net.unfed lane.src lane.class)))) ∙
      cut lane k there

  pub packets_are_cut : AreChannels counts → Sound (shape_of ks counts depth) net
      → PacketsHold (shape_of ks counts depth) net → PacketsAreCut ks (shape_of ks counts depth) net
  packets_are_cut classes sound hold =
      packet_items_are (λ lane k there. channels_cut (shape_of ks counts depth)
      (shape_is_mesh ks counts depth mesh classes) lane there k net sound hold)
