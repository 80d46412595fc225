use Rattle.std.proofs.Common.{◌*◌, None, Ok, length, refl}
use Rattle.worm_region.specs.Replies.{Attempts}
use Rattle.worm_region.specs.Turns.{GivesCreditBy, mesh_ports}
use Rattle.worm_region.specs.declared.step.Moved.TheVariants.{Done}
use Rattle.worm_region.proofs.AllOwned.{all_within}
use Rattle.worm_region.proofs.LowestGiven.{give_elsewhere, given_still, owing_all, owing_more, owing_next, owing_start}
use Rattle.worm_region.proofs.Passages.{does_for, does_nothing, loop_more}
use Rattle.worm_region.proofs.ReachedBySteps.{whole_after}
use Rattle.worm_region.proofs.TurnInParts.{gives_one}
use Rattle.worm_region.proofs.region.Region.give_credits.Goals as goal

pub loop-port-init : goal.loop-port-init
loop-port-init c =
    let set = c.owing-left in
    let a = c.args.self.now in
    owing_start c.args.node set.result a set.ensures.sound c.requires.node set.ensures.owing
    set.ensures.links (does_nothing a)

pub returns : goal.returns
returns c =
    let x = c.args.node in
    let a = c.args.self.now in
    let b = c.loop-port.self in
    does_for mesh_ports (GivesCreditBy Attempts x) (2 * length a.mesh) (2 * length a.mesh) a b None refl refl
    (owing_all c.loop-port.invariant (given_still x a b) c.in_default.ensures.0)

pub give_owed-requires-clause-there : goal.give_owed-requires-clause-there
give_owed-requires-clause-there c =
    (owing_next c.loop-port.invariant c.in-Some.ensures.0 c.in-Some.ensures.1).there

pub give_owed-requires-clause-owed : goal.give_owed-requires-clause-owed
give_owed-requires-clause-owed c =
    (owing_next c.loop-port.invariant c.in-Some.ensures.0 c.in-Some.ensures.1).owes

pub give_owed-requires-clause-within : goal.give_owed-requires-clause-within
give_owed-requires-clause-within c =
    all_within c.loop-port.self c.args.node c.in-Some.port
    (whole_after c.args.self.now c.loop-port.self c.loop-port.invariant.walked.done.reaches.config c.requires.whole)

pub loop-port-preserved : goal.loop-port-preserved
loop-port-preserved c =
    let x = c.args.node in
    let a = c.args.self.now in
    let b = c.loop-port.self in
    let first = c.in-Some.ensures.0 in
    let p = c.in-Some.port in
    let v = c.in-Some.vc in
    let new = c.give_owed.new.self in
    let lowest = (owing_next c.loop-port.invariant first c.in-Some.ensures.1).lowest in
    let does = gives_one x p v b new (Ok Done) lowest c.give_owed.ensures in
    owing_more c.loop-port.invariant (given_still x a b) first new does.reaches.config c.recall-in-Some.ensures
    (λ given. loop_more (GivesCreditBy Attempts x) p a b new None given does)
    (give_elsewhere b new x p v (Ok Done) c.recall.ensures c.give_owed.ensures)
