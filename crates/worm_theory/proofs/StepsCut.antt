-- The networks that lists of steps lead to from the empty one: sound, their lanes cut, their packets held.
use Rattle.std.proofs.Common.{ℕ, List}
use Rattle.worm_flit.specs.Channels.{AreChannels}
use Rattle.worm_mesh.specs.Address.{AreRadices}
use Rattle.worm_theory.specs.Network.{Network}
use Rattle.worm_theory.specs.Steps.{Step, StepsLead, empty}
use Rattle.worm_theory.specs.Sound.{Sound}
use Rattle.worm_theory.specs.Cut.{LanesCut}
use Rattle.worm_theory.specs.PacketCut.{PacketsHold}
use Rattle.worm_theory.proofs.Keeps.{empty_sound}
use Rattle.worm_theory.proofs.CutKeeps.{empty_cut, steps_keep}
use Rattle.worm_theory.proofs.PacketKeeps.{empty_packets, steps_packets}
use Rattle.worm_theory.specs.ShapeOf.{shape_of}
use Rattle.worm_theory.proofs.Shapes.{shape_is_mesh}

pub record IsKept (ks counts : List ℕ) (depth : ℕ) (net : Network) : Type 0 where
  pub sound : Sound (shape_of ks counts depth) net
  pub lanes : LanesCut (shape_of ks counts depth) net
  pub packets : PacketsHold (shape_of ks counts depth) net

pub steps_kept : (ks counts : List ℕ) (depth : ℕ) (steps : List Step) (new : Network) → AreRadices ks
    → AreChannels counts → StepsLead (shape_of ks counts depth) (empty (shape_of ks counts depth)) steps new
    → IsKept ks counts depth new
steps_kept ks counts depth steps new mesh classes lead =
    let s = shape_of ks counts depth in
    let good = shape_is_mesh ks counts depth mesh classes in
    let kept = steps_keep s good steps (empty s) new lead (empty_sound s) (empty_cut s good) in
    record {
      sound = kept.0;
      lanes = kept.1;
      packets = steps_packets s good steps (empty s) new lead (empty_sound s) (empty_packets s good);
    }
