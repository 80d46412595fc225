use Rattle.std.proofs.Common.{◌<◌, List, arith, subst, sym}
use Rattle.worm_split.specs.Joins.{AreParts}
use Rattle.worm_split.specs.PartState.{PartState}
use Rattle.worm_run.specs.Runs.{HasWorkers}
use Rattle.worm_run.proofs.Owners.{are_parts}
use Rattle.worm_run.proofs.Results.{later_of, run_of, runs_to}
use Rattle.worm_run.proofs.Counts.{below_all, has_workers, no_room, rooms_for}
use Rattle.worm_run.proofs.running.run.Goals as goal

pub join-net-requires : goal.join-net-requires
join-net-requires g c =
    let ran = c.in-Ok-run_all.ensures.ran in
    let some : 0 < c.args.plan.workers = omega arith in
    subst (λ (ps : List PartState). AreParts ps) (sym ran.gives.parts)
    (are_parts (g.G.Gate.may_stop c.args.gate.now) (g.G.Gate.may_pass c.args.gate.now) c.args.script.now
    c.args.plan.turns c.args.net c.args.plan.workers c.in-Ok-split.parts.items ran.done c.in-Ok-split.ensures.parts
    ran.worked some)

pub returns-in-Ok-run_all-clause-runs : goal.returns-in-Ok-run_all-clause-runs
returns-in-Ok-run_all-clause-runs g c =
    let stop = g.G.Gate.may_stop c.args.gate.now in
    let pass = g.G.Gate.may_pass c.args.gate.now in
    let ran = c.in-Ok-run_all.ran in
    let net = c.join-net.result in
    let has : HasWorkers c.args.net c.args.plan
    = record { some = omega arith; few = omega arith; with_nodes = omega (arith, c.nodes.ensures.value) } in
    runs_to stop pass c.args.script.now c.args.plan c.args.net
    (record { net = net; stops = ran.stops; ended = ran.ended }) has
    (run_of stop pass c.args.script.now c.args.plan c.args.net net c.in-Ok-split.parts.items ran
    c.in-Ok-split.ensures.parts c.in-Ok-run_all.ensures.ran c.join-net.ensures.joined)

pub returns-in-Ok-run_all-clause-later : goal.returns-in-Ok-run_all-clause-later
returns-in-Ok-run_all-clause-later g c =
    later_of (g.G.Gate.may_stop c.args.gate.now) (g.G.Gate.may_pass c.args.gate.now) c.args.script.now
    c.args.plan.turns c.args.net c.join-net.result c.args.plan.workers c.in-Ok-split.parts.items c.in-Ok-run_all.ran
    c.in-Ok-split.ensures.parts c.in-Ok-run_all.ensures.ran (omega arith) c.join-net.ensures.later

pub returns-in_default-clause-fails : goal.returns-in_default-clause-fails
returns-in_default-clause-fails g c =
    no_room c.args.net c.args.plan _ _ c.if-workers-eq0.false c.if-workers-gt16.false c.if-workers-from.false
    c.from.ensures c.nodes.ensures.value

pub returns-in-Err-clause-fails : goal.returns-in-Err-clause-fails
returns-in-Err-clause-fails g c =
    let some = c.if-workers-eq0.false in (
      c.in-Err.ensures.back,
      has_workers _ _ _ _ some c.if-workers-gt16.false c.if-workers-from.false c.from.ensures c.nodes.ensures.value,
    )

pub run_all-requires-after_bounds : goal.run_all-requires-after_bounds
run_all-requires-after_bounds g c κs within =
    rooms_for c.in-Ok.rooms _ _ _ c.in-Ok.ensures c.in-Ok-split.parts.ok.0 c.in-Ok-split.ensures.parts.count

pub returns-in-Err-run_all-clause-fails : goal.returns-in-Err-run_all-clause-fails
returns-in-Err-run_all-clause-fails g c =
    let some = c.if-workers-eq0.false in (
      below_all _ _ _ _ c.in-Err-run_all.ensures.refused c.in-Ok-split.parts.ok.0 c.in-Ok-split.ensures.parts.count,
      has_workers _ _ _ _ some c.if-workers-gt16.false c.if-workers-from.false c.from.ensures c.nodes.ensures.value,
    )
