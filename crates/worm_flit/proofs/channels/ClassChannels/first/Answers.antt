use Rattle.std.proofs.Common.{arith, sum, take, ◌≡◌, ◌≤◌, ◌+◌, get_or}
use Rattle.std.proofs.lemmas.Grind.{common_steps}
use Rattle.std.proofs.lemmas.List.Sums.{sum_by_more_le}
use Rattle.worm_flit.proofs.channels.ClassChannels.first.Goals as goal

pub returns-clause-bound : goal.returns-clause-bound
returns-clause-bound c =
    let total : sum c.args.self.now ≤ 8 = grind (arith, common_steps) in
    let value : c.loop-count.first ≡ sum (take c.args.class c.args.self.now) = grind (arith, common_steps) in
    let more : sum (take c.args.class c.args.self.now) + get_or c.args.self.now c.args.class 0 ≤ sum c.args.self.now =
    sum_by_more_le (λ x. x) c.args.self.now c.args.class 0 c.requires in
    omega arith
