use Rattle.std.proofs.Common.{◌≡◌, ◌+◌, drop}
use Rattle.worm_flit.specs.Channels.{owner_of}
use Rattle.worm_flit.proofs.channels.ClassChannels.owner.Given as goal

abbrev pub invariant-loop-count : goal.invariant-loop-count
invariant-loop-count l =
    (l.class ≡ l.count-index) × (owner_of l.count-items l.channel
    ≡ l.class + owner_of (drop l.count-index l.count-items) l.rest)
