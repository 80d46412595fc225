-- The classes of a network text own channels within the limits.
use Rattle.std.proofs.Common.{◌≡◌, ◌≤◌, length, arith}
use Rattle.worm_flit.specs.Channels.{AreChannels}
use Rattle.worm_text.specs.declared.format.Format.{Format}
use Rattle.worm_text.specs.Network.{Network, Keeps}

pub are_channels : (format : Format) (n : Network) → Keeps format n → AreChannels n.channels
are_channels format n keeps =
    let paired : length n.channels ≡ length n.classes = keeps.classes.paired in
    let some : 1 ≤ length n.classes = keeps.some in
    let few : length n.classes ≤ 4 = keeps.classes.count in
    record {
      some = omega (arith, paired, some);
      few = omega (arith, paired, few);
      each = keeps.classes.each;
      total = keeps.classes.total;
    }
