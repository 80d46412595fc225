use Rattle.std.proofs.Common.{rules}
use Rattle.worm_region.proofs.fabric.Fabric.next_link.Goals as goal

pub returns-in_err-to : goal.returns-in_err-to
returns-in_err-to c = search rules

pub returns : goal.returns
returns c = search rules
