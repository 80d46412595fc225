use Rattle.std.proofs.Common.{rules}
use Rattle.worm_term.proofs.queue.Queue.feed.Goals as goal

pub returns-clause-after : goal.returns-clause-after
returns-clause-after c = search rules
