use Rattle.worm_script.proofs.ScriptKept.{none_is}
use Rattle.worm_script.proofs.script.Script.empty.Goals as goal

pub invariant_of-result : goal.invariant_of-result
invariant_of-result c = none_is c.new.result.items c.new-2.result.items c.new.ensures.items c.new-2.ensures.items
