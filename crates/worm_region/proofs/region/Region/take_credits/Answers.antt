use Rattle.std.proofs.Common.{Ok, map, refl}
use Rattle.worm_theory.specs.Steps.{TakeCredit}
use Rattle.worm_region.specs.Turns.{mesh_ports}
use Rattle.worm_region.proofs.EachCovered.{covered_all, covered_start, credits, credit_elsewhere, first_linked}
use Rattle.worm_region.proofs.EachCovered.{ports_more}
use Rattle.worm_region.specs.Answers.{moved_of}
use Rattle.worm_region.proofs.Passages.{does_quietly}
use Rattle.worm_region.proofs.region.Region.take_credits.Goals as goal

pub loop-port-init : goal.loop-port-init
loop-port-init c =
    let set = c.credits_in-left in
    record {
      covered = covered_start (credits c.args.node) c.args.self.now set.result set.ensures.sound set.ensures.ports;
      linked = set.ensures.linked;
    }

pub loop-port-preserved : goal.loop-port-preserved
loop-port-preserved c =
    let moved = c.take_credit-moved in
    let answer = Ok (moved_of moved.result) in
    let s = c.loop-port.self in
    let x = c.args.node in
    let p = c.in-Some.port in
    ports_more c.requires c.loop-port.invariant c.in-Some.ensures
    (does_quietly s moved.new.self (TakeCredit x p) answer refl (λ grows. grows) moved.ensures)
    (credit_elsewhere s moved.new.self x p answer c.recall.ensures moved.ensures) c.recall-in-Some.ensures

pub take_credit-moved-requires : goal.take_credit-moved-requires
take_credit-moved-requires c = first_linked c.loop-port.invariant c.in-Some.ensures

pub returns : goal.returns
returns c =
    let x = c.args.node in
    covered_all (credits x) c.args.self.now c.requires c.loop-port.self c.loop-port.left
    (λ s. map (TakeCredit x) (mesh_ports s)) c.loop-port.invariant.covered c.in_default.ensures.0 refl
