use Rattle.std.proofs.Common.{None}
use Rattle.worm_region.proofs.Passages.{turns_more}
use Rattle.worm_alone.proofs.turns.take_turns.Goals as goal

pub returns-in-Err : goal.returns-in-Err
returns-in-Err c = (c.loop-turn-test.true, (c.loop-turn.net, c.loop-turn.invariant, c.in-Err.ensures.exact))

pub loop-turn-preserved : goal.loop-turn-preserved
loop-turn-preserved c = turns_more c.args.script.now c.loop-turn.turn c.args.net.now c.loop-turn.net c.turn.new.self
    None c.loop-turn.invariant c.in_default.ensures.exact
