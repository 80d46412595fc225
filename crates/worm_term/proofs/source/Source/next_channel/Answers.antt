use Rattle.std.proofs.Common.{rules}
use Rattle.worm_term.proofs.source.Source.next_channel.Goals as goal

pub returns : goal.returns
returns c = search rules
