use Rattle.worm_vcalloc.specs.VcRequest.{blank}
use Rattle.worm_vcalloc.proofs.KeyedTables.{keyed_taken}
use Rattle.worm_vcalloc.proofs.request.VcRequests.remove.Goals as goal

pub returns : goal.returns
returns c = rw (← c.self.view_is) (keyed_taken blank c.self.inside.waiting c.put.new.self c.self.inside.table.rows
    c.args.port c.args.vc c.requires.port c.requires.vc c.put.ensures)
