use Rattle.std.proofs.Common.{arith, ◌∙◌}
use Rattle.std.proofs.Math.ListN.{length-set}
use Rattle.worm_split.proofs.MadeSoFar.{owner_put}
use Rattle.worm_split.proofs.memory.owners_of.Goals as goal

pub loop-channel-preserved : goal.loop-channel-preserved
loop-channel-preserved c =
    let s = c.loop-channel in
    let few = c.total-channel-end.ensures.sound.total in
    let all = c.total-channel-end.ensures.value in
    let count = s.invariant.count in
    record {
      count = length-set s.owners c.from.result c.owner.result ∙ s.invariant.count;
      each = owner_put c.args.classes.now s.owners s.channel c.from.result c.owner.result c.from.ensures
          c.owner.ensures.value (omega arith) s.invariant.each;
    }
