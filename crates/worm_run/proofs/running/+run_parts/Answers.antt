use Rattle.std.proofs.Common.{rules, ◌≡◌, ◌++◌, ◌∷◌, ◌+◌, [], length}
use Rattle.worm_run.specs.Working.{WorkedAs}
use Rattle.worm_run.specs.declared.working.Worked.{Worked}
use Rattle.worm_run.proofs.Workers.{AllWorked-snoc, none_worked}
use Rattle.worm_run.proofs.Counts.{is_zero}
use Rattle.worm_run.proofs.Gathering.{no_items}
use Rattle.worm_run.proofs.running.+run_parts.Goals as goal

pub returns-clause-worked : goal.returns-clause-worked
returns-clause-worked g t c =
    let stop = g.G.Gate.may_stop c.args.gate.now in
    let pass = g.G.Gate.may_pass c.args.gate.now in
    let script = c.args.script.now in
    let promise = c.in_ok-child.child.promise in
    let told = c.in_ok-child.ensures in
    let others = c.start.new.parts.items in
    let back : (worked : Worked) × (c.collect.new.done.items ≡ c.run_parts.new.done.items ++ worked ∷ [])
    × WorkedAs (g.G.Gate.may_stop promise.gate.now) (g.G.Gate.may_pass promise.gate.now) promise.script.now
    promise.turns promise.worker promise.part.value worked
    = c.collect.ensures.worked in
    let kept : WorkedAs stop pass script c.args.turns promise.worker promise.part.value back.0
    = rw (told.gate, told.script, told.turns) at back.2 in
    let last : promise.worker ≡ 0 + length others = search rules in
    rw (told.taken, back.1)
    (AllWorked-snoc stop pass script c.args.turns 0 promise.worker others c.run_parts.new.done.items
    promise.part.value back.0 last c.in_ok-run_parts.ensures.worked kept)

pub returns-then-is_empty-clause-worked : goal.returns-then-is_empty-clause-worked
returns-then-is_empty-clause-worked g t c =
    let parts = c.args.parts.now in
    let done = c.args.done.now in
    none_worked _ _ _ _ parts.items done.items
    (no_items parts.items parts.len parts.ok.0 (is_zero _ c.if-is_empty.ensures))
    (no_items done.items done.len done.ok.0 c.requires.empty)
