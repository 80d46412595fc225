use Rattle.worm_report.proofs.Written.{given_more}
use Rattle.worm_report.proofs.writing.put.Goals as goal

pub loop-rest-preserved : goal.loop-rest-preserved
loop-rest-preserved g c = let i = c.loop-rest.invariant in
    given_more _ _ _ c.args.bytes.now i.0 c.loop-rest.rest.now c.in-Ok.taken i.1 i.2 c.in-Ok.ensures.bytes
