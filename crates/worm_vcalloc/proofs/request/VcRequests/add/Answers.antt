use Rattle.std.proofs.Common.{arith}
use Rattle.worm_vcalloc.specs.VcRequest.{blank}
use Rattle.worm_vcalloc.proofs.KeyedTables.{keyed_put}
use Rattle.worm_vcalloc.proofs.TableCells.{IsTable-with_cell}
use Rattle.worm_vcalloc.proofs.request.VcRequests.add.Goals as goal

pub invariant_of-self : goal.invariant_of-self
invariant_of-self c = IsTable-with_cell c.self.inside.table.rows c.args.port c.args.vc c.args.request c.self.invariant

pub returns : goal.returns
returns c =
    let shape = c.self.invariant in
    let wide = shape.columns c.args.port c.requires.port in
    rw (← c.self.view_is)
    (keyed_put blank c.self.inside.waiting c.put.new.self c.self.inside.table.rows c.args.port c.args.vc c.args.request
    c.requires.port c.requires.vc (omega (arith, shape.rows)) (omega arith) c.put.ensures)
