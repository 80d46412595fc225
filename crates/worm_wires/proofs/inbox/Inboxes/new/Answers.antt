use Rattle.std.proofs.Common.{rules}
use Rattle.worm_wires.proofs.inbox.Inboxes.new.Goals as goal

pub invariant_of-result : goal.invariant_of-result
invariant_of-result c = search rules
