use Rattle.std.proofs.Common.{◌-◌, None, Some, List, sym, subst, ◌∙◌}
use Rattle.worm_script.specs.Script.{due}
use Rattle.worm_region.specs.Turns.{Turn}
use Rattle.worm_script.specs.declared.entry.Entry.{Entry}
use Rattle.worm_alone.proofs.Draining.{drain_over, drain_on, drain_cut}
use Rattle.worm_alone.proofs.turns.drain.Goals as goal

pub returns-then-is_drained : goal.returns-then-is_drained
returns-then-is_drained c =
    c.loop-turn.invariant None c.loop-turn.net
    (drain_over (c.args.most - c.loop-turn.turn) c.loop-turn.net (sym c.is_drained.ensures ∙ c.if-is_drained.true))

pub returns-in-Err : goal.returns-in-Err
returns-in-Err c =
    c.loop-turn.invariant (Some c.in-Err.fault) c.turn.new.self
    (drain_cut c.args.most c.loop-turn.turn c.loop-turn.net c.turn.new.self c.in-Err.fault c.loop-turn-test.true
    (sym c.is_drained.ensures ∙ c.if-is_drained.false)
    (subst (λ (s : List Entry). Turn (due c.loop-turn.turn s) c.loop-turn.net
    (Some c.in-Err.fault) c.turn.new.self) c.empty-nothing.ensures c.in-Err.ensures.exact))

pub loop-turn-preserved : goal.loop-turn-preserved
loop-turn-preserved c fault new rest =
    c.loop-turn.invariant fault new
    (drain_on c.args.most c.loop-turn.turn c.loop-turn.net c.turn.new.self new fault c.loop-turn-test.true
    (sym c.is_drained.ensures ∙ c.if-is_drained.false)
    (subst (λ (s : List Entry). Turn (due c.loop-turn.turn s) c.loop-turn.net None c.turn.new.self)
    c.empty-nothing.ensures c.in_default.ensures.exact) rest)
