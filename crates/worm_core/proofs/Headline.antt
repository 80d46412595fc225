-- What a network's invariant says in the words of lanes and packets.
use Rattle.std.proofs.Common.{List}
use Rattle.worm_theory.proofs.Credit.{links_fit}
use Rattle.worm_theory.proofs.Histories.{packets_whole}
use Rattle.worm_theory.proofs.Marks.{mark_is_last, nothing_more}
use Rattle.worm_theory.proofs.Stamps.{cut_once}
use Rattle.worm_theory.specs.Steps.{Step, StepsLead}
use Rattle.worm_theory.proofs.PlaceCuts.{packets_are_cut, lanes_are_cut}
use Rattle.worm_theory.proofs.PastPlaces.{open_is_active}
use Rattle.worm_theory.proofs.Elsewhere.{nowhere_else}
use Rattle.worm_region.specs.Shape.{net_shape}
use Rattle.worm_region.specs.State.{NetState, IsNet, shape, network_of}
use Rattle.worm_core.specs.Headline.{DeliversInOrder, NothingFollowsMarks}
use Rattle.worm_region.proofs.FrameKept.{framed_mesh}

pub delivers : (s : NetState) → IsNet s → DeliversInOrder s
unfolding net_shape
delivers s net = record {
  lanes = lanes_are_cut s.mesh s.channels s.depth net.framed.radices (network_of s) net.cut;
  once = λ lane c there owned alone. cut_once (shape s) (network_of s) net.sound net.cut lane c there owned alone;
  elsewhere = nowhere_else s.mesh s.channels s.depth (network_of s) net.framed.radices net.sound;
  fits = net.sound.fits;
  link_fits = links_fit (shape s) (network_of s) net.sound.credits;
  marks = λ lane c there owned alone before m rest e marked. mark_is_last (shape s)
      (network_of s) net.sound net.cut lane c there owned alone before m rest e marked;
  packets = packets_are_cut s.mesh s.channels s.depth net.framed.radices
      (network_of s) net.framed.classes net.sound net.packets;
  whole = λ lane k. packets_whole lane k (network_of s) (net.sound.histories lane);
  active = open_is_active s.mesh s.channels s.depth net.framed.radices net.framed.classes
      (network_of s) net.sound net.packets;
}

pub nothing_follows : (old new : NetState) → IsNet old → (steps : List Step)
    → StepsLead (shape old) (network_of old) steps (network_of new) → NothingFollowsMarks old new
nothing_follows old new net steps lead = λ lane c there owned alone marked.
    nothing_more (shape old) (framed_mesh old net.framed) steps (network_of old)
    (network_of new) lead net.sound net.cut lane c there owned alone marked
