use Rattle.std.proofs.Common.{rules, sym, ◌∙◌}
use Rattle.worm_vcalloc.proofs.KeyedTables.{has-keyed, cell-keyed_none}
use Rattle.worm_vcalloc.proofs.channel_map.ChannelMap.get.Goals as goal

pub number-requires-clause-within : goal.number-requires-clause-within
number-requires-clause-within c = rw (← c.self.view_is) (sym (has-keyed 0 c.self.inside.keys c.self.inside.numbers
    c.args.port c.args.channel c.requires.port c.requires.channel) ∙ sym c.contains.ensures ∙ c.if-contains.true)

pub returns-else-contains : goal.returns-else-contains
returns-else-contains c = rw (← c.self.view_is) (cell-keyed_none 0 c.self.inside.keys c.self.inside.numbers
    c.args.port c.args.channel c.requires.port c.requires.channel (sym c.contains.ensures ∙ c.if-contains.false))

pub returns-then-contains : goal.returns-then-contains
returns-then-contains c = search rules
