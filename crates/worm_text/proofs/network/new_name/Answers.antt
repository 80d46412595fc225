use Rattle.std.proofs.Common.{rules}
use Rattle.worm_text.specs.Stages.{new_name_at}
use Rattle.worm_text.proofs.network.new_name.Goals as goal

pub returns : goal.returns
unfolding new_name_at
returns c = search rules
