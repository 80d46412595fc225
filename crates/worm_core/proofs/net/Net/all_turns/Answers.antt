use Rattle.std.proofs.Common.{subst}
use Rattle.std.specs.Result.{result_err}
use Rattle.worm_region.specs.State.{NetState}
use Rattle.worm_region.specs.Turns.{Turn}
use Rattle.worm_core.proofs.Lifting.{lift_turn}
use Rattle.worm_core.proofs.net.Net.all_turns.Goals as goal

pub invariant_of-self : goal.invariant_of-self
invariant_of-self c =
    (lift_turn c.args.entries.now c.self.inside.region c.all_turns.new.self (result_err c.all_turns.result)
    c.self.invariant c.all_turns.ensures.exact).0

pub returns-clause-exact : goal.returns-clause-exact
returns-clause-exact c =
    subst (λ (s : NetState). Turn c.args.entries.now s (result_err c.all_turns.result) c.all_turns.new.self)
    c.self.view_is
    (lift_turn c.args.entries.now c.self.inside.region c.all_turns.new.self (result_err c.all_turns.result)
    c.self.invariant c.all_turns.ensures.exact).1
