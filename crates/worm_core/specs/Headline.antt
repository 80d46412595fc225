-- What holds of every network: its lanes and packets arrive in order, each flit once, and nothing comes after a close
-- mark (Dally and Towles, chapters 13 and 16).
use Rattle.worm_theory.specs.Sound.{BuffersFit, LinksFit}
use Rattle.worm_theory.specs.Cut.{EachOnce}
use Rattle.worm_theory.specs.Marks.{EndsDelivered, EndsForGood}
use Rattle.worm_theory.specs.PacketCut.{PacketsWhole}
use Rattle.worm_theory.specs.LaneMoves.{LanesAreCut, LanesAreNowhereElse}
use Rattle.worm_theory.specs.PacketPlaces.{PacketsAreCut, OpenPacketsAreActive}
use Rattle.worm_region.specs.State.{NetState, shape, network_of}

pub record DeliversInOrder (s : NetState) : Type 0 where
  -- of a lane whose class owns one channel: the flits delivered, followed by those under way from the sink back along
  -- its route, are the flits injected, in order, each once; no other place holds a flit of it
  pub lanes : LanesAreCut s.mesh (shape s) (network_of s)
  pub once : EachOnce (shape s) (network_of s)
  pub elsewhere : LanesAreNowhereElse s.mesh (shape s) (network_of s)
  -- no buffer exceeds its depth, and with its channel's flits on the link it does not either
  pub fits : BuffersFit (shape s) (network_of s)
  pub link_fits : LinksFit (shape s) (network_of s)
  -- after a lane's delivered close mark nothing of it is delivered or under way
  pub marks : EndsDelivered (shape s) (network_of s)
  -- of a packet of any class: its flits delivered, followed by those at each place from the sink back, are its flits,
  -- in order, each once; and where it is open past a buffer, exactly one input channel there is active for it
  pub packets : PacketsAreCut s.mesh (shape s) (network_of s)
  pub whole : PacketsWhole (network_of s)
  pub active : OpenPacketsAreActive s.mesh (shape s) (network_of s)

-- once a lane's close mark was delivered, nothing of the lane ever comes
abbrev pub NothingFollowsMarks : NetState → NetState → Type 0
NothingFollowsMarks old new = EndsForGood (shape old) (network_of old) (network_of new)
