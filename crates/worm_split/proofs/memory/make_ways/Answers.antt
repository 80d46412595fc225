use Rattle.worm_split.proofs.Ways.{ways_count, ways_each}
use Rattle.worm_split.proofs.memory.make_ways.Goals as goal

pub loop-number-preserved : goal.loop-number-preserved
loop-number-preserved c =
    let was = c.loop-number.invariant in
    record {
      count = ways_count _ _ _ _ c.in_ok-push.ensures.items was.count;
      each = ways_each _ _ _ _ _ c.in_ok-push.ensures.items was.count was.each c.in-Some.ensures;
    }
