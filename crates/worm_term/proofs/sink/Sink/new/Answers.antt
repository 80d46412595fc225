use Rattle.std.proofs.Common.{rules}
use Rattle.worm_term.proofs.sink.Sink.new.Goals as goal

pub returns : goal.returns
returns c = search rules
