use Rattle.std.proofs.Common.{is_some, ap, ◌∙◌}
use Rattle.worm_swalloc.proofs.ReadyCells.{cell_is_out}
use Rattle.worm_swalloc.proofs.ready.Ready.out_port.Goals as goal

pub number-requires-clause-within : goal.number-requires-clause-within
number-requires-clause-within c =
    let within = rw (← c.self.view_is) at c.requires.within in
    ap is_some (cell_is_out c.self.inside.outs.now c.self.inside.among c.args.port c.args.channel c.requires.port
    c.requires.channel within) ∙ within

pub returns : goal.returns
returns c = rw (← c.self.view_is) (c.number.ensures
    ∙ cell_is_out c.self.inside.outs.now c.self.inside.among c.args.port c.args.channel c.requires.port
    c.requires.channel (rw (← c.self.view_is) at c.requires.within))
