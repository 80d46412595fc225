use Rattle.std.proofs.Common.{rules, sym, ◌∙◌}
use Rattle.worm_vcalloc.specs.VcRequest.{blank}
use Rattle.worm_vcalloc.proofs.KeyedTables.{has-keyed, cell-keyed_none}
use Rattle.worm_vcalloc.proofs.request.VcRequests.get.Goals as goal

pub request-requires-clause-waits : goal.request-requires-clause-waits
request-requires-clause-waits c = rw (← c.self.view_is) (sym (has-keyed blank c.self.inside.waiting
    c.self.inside.table.rows c.args.port c.args.vc c.requires.port c.requires.vc)
    ∙ sym c.contains.ensures ∙ c.if-contains.true)

pub returns-else-contains : goal.returns-else-contains
returns-else-contains c = rw (← c.self.view_is) (cell-keyed_none blank c.self.inside.waiting c.self.inside.table.rows
    c.args.port c.args.vc c.requires.port c.requires.vc (sym c.contains.ensures ∙ c.if-contains.false))

pub returns-then-contains : goal.returns-then-contains
returns-then-contains c = search rules
