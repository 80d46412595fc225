use Rattle.std.proofs.Common.{rules}
use Rattle.worm_script.proofs.script.Script.entries.Goals as goal

pub returns : goal.returns
returns c = search rules
