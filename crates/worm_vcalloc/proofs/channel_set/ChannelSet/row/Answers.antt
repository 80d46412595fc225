use Rattle.worm_vcalloc.proofs.SetMembers.{row_lines}
use Rattle.worm_vcalloc.proofs.channel_set.ChannelSet.row.Goals as goal

pub returns-clause-lines : goal.returns-clause-lines
returns-clause-lines c = λ channel l. rw (← c.self.view_is)
    (row_lines c.self.inside.bits c.args.port c.args.vcs channel c.requires.vcs l)
