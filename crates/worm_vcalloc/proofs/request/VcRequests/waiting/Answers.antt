use Rattle.worm_vcalloc.specs.VcRequest.{blank}
use Rattle.worm_vcalloc.proofs.KeyedTables.{has-keyed}
use Rattle.worm_vcalloc.proofs.request.VcRequests.waiting.Goals as goal

pub returns : goal.returns
returns c = λ p v lp lv. rw (← c.self.view_is)
    (has-keyed blank c.self.inside.waiting c.self.inside.table.rows p v lp lv)
