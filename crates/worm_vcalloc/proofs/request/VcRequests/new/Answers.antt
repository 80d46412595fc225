use Rattle.std.proofs.Common.{replicate}
use Rattle.worm_vcalloc.specs.VcRequest.{blank}
use Rattle.worm_vcalloc.proofs.KeyedTables.{keyed_none}
use Rattle.worm_vcalloc.proofs.TableCells.{IsTable-replicate}
use Rattle.worm_vcalloc.proofs.request.VcRequests.new.Goals as goal

pub invariant_of-result : goal.invariant_of-result
invariant_of-result c = IsTable-replicate blank

pub returns : goal.returns
returns c = keyed_none blank c.new.result (replicate 7 (replicate 8 blank)) c.new.ensures
