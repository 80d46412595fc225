use Rattle.std.proofs.Common.{◌≡◌, ℕ, Option, refl, subst, arith, rules}
use Rattle.worm_script.specs.Script.{due}
use Rattle.worm_region.specs.declared.fault.StepFault.{StepFault}
use Rattle.worm_split.specs.Effects.{SourcesTake, IsRefused}
use Rattle.worm_split.specs.PartTurns.{Turn}
use Rattle.worm_run.specs.Working.{HasTurned, MayPassBelow}
use Rattle.worm_run.proofs.Turning.{turned-none, turned-more}
use Rattle.worm_run.proofs.Stopping.{passes_more, stopped_at}
use Rattle.worm_run.proofs.working.work.Goals as goal

pub loop-turn-init : goal.loop-turn-init
loop-turn-init g c = record {
  turned = turned-none c.args.script.now c.args.part;
  passed = λ turn below. absurd (omega arith);
}

pub returns-in-Err : goal.returns-in-Err
returns-in-Err g c =
    let told = c.in-Err.ensures in
    let before = c.loop-turn.invariant in
    let pass = g.G.Gate.may_pass c.args.gate.now in
    let entries = due c.loop-turn.turn c.args.script.now in
    stopped_at (g.G.Gate.may_stop c.args.gate.now) pass c.args.script.now c.args.turns c.args.worker c.loop-turn.turn
    c.args.part c.loop-turn.part c.turn.new.self c.in-Err.why (omega arith)
    (passes_more pass c.args.worker c.loop-turn.turn c.pass.result before.passed c.pass.ensures.goes (search rules))
    told.stop before.turned (λ fault behind. record {
      exact = subst (λ (f : Option StepFault). Turn entries c.loop-turn.part f c.turn.new.self) behind told.exact;
      same = told.same;
      sources = subst (λ (f : Option StepFault). SourcesTake entries c.loop-turn.part f c.turn.new.self) behind
          told.sources;
      sinks = told.sinks;
      refused = subst (λ (f : Option StepFault). IsRefused entries c.loop-turn.part f c.turn.new.self) behind
          told.refused;
    })

pub loop-turn-preserved : goal.loop-turn-preserved
loop-turn-preserved g c =
    let told = c.in_default.ensures in
    let before = c.loop-turn.invariant in
    record {
      turned = turned-more c.args.script.now c.loop-turn.turn c.recall.ensures c.args.part
          c.loop-turn.part c.turn.new.self before.turned told.exact told.same told.sources told.sinks;
      passed = passes_more (g.G.Gate.may_pass c.args.gate.now) c.args.worker c.loop-turn.turn c.pass.result
          before.passed c.pass.ensures.goes (search rules);
    }

pub returns : goal.returns
returns g c =
    let all : c.loop-turn.turn ≡ c.args.turns = omega arith in
    let before = c.loop-turn.invariant in
    record {
      stops = refl;
      passed = subst (λ (n : ℕ). MayPassBelow (g.G.Gate.may_pass c.args.gate.now) c.args.worker n) all before.passed;
      ends = subst (λ (n : ℕ). HasTurned c.args.script.now n c.args.part c.loop-turn.part) all before.turned;
    }

pub returns-then-not-pass : goal.returns-then-not-pass
returns-then-not-pass g c = search rules
