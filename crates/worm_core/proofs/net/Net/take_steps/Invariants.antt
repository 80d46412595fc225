use Rattle.std.proofs.Common.{◌≡◌, take}
use Rattle.worm_region.specs.Runs.{AreAnswered}
use Rattle.worm_core.proofs.net.Net.take_steps.Given as goal

abbrev pub invariant-loop-step : goal.invariant-loop-step
invariant-loop-step l = (l.done ≡ l.step-index) × AreAnswered l.initial.self (take l.done l.steps) l.self
