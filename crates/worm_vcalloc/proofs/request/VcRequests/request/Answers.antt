use Rattle.worm_vcalloc.specs.VcRequest.{blank}
use Rattle.worm_vcalloc.proofs.KeyedTables.{cell-keyed}
use Rattle.worm_vcalloc.proofs.request.VcRequests.request.Goals as goal

pub returns : goal.returns
returns c = rw (← c.self.view_is) (cell-keyed blank c.self.inside.waiting c.self.inside.table.rows c.args.port c.args.vc
    c.requires.port c.requires.vc (rw (← c.self.view_is) at c.requires.waits))
