use Rattle.std.proofs.Common.{Some, None, inl, inr, refl, sym, subst}
use Rattle.std.proofs.lemmas.Result.{err_from_is_err_and}
use Rattle.worm_router.specs.Allocation.{switch_grants}
use Rattle.worm_region.specs.Prepared.{allocated_at}
use Rattle.worm_region.specs.State.{router_at}
use Rattle.worm_region.specs.Turns.{◌and_then◌}
use Rattle.worm_split.specs.PartState.{PartState}
use Rattle.worm_split.specs.PartTurns.{GivesCredits, NodePasses, SendsGranted}
use Rattle.worm_split.proofs.GrantsSent.{prepared, sent_chosen}
use Rattle.worm_split.proofs.part.Part.node_passes.Goals as goal

pub send_granted-requires-clause-granted : goal.send_granted-requires-clause-granted
send_granted-requires-clause-granted g c =
    let done = c.prepare-granted.ensures.prepares in
    (switch_grants (router_at (allocated_at c.args.node done.came) c.args.node), done.chooses.0)

pub returns-then-rests-clause-passes : goal.returns-then-rests-clause-passes
returns-then-rests-clause-passes g c =
    subst (λ (p : PartState). NodePasses c.args.node c.args.self.now None p) (sym c.rests.ensures.same)
    (c.rests.ensures.passes c.if-rests.true)

pub returns-clause-passes : goal.returns-clause-passes
returns-clause-passes g c =
    let x = c.args.node in
    let a = c.rests.new.self in
    let b = c.prepare-granted.new.self in
    subst (λ (p : PartState). NodePasses x p None c.give_credits.new.self) c.rests.ensures.same
    (prepared x c.prepare-granted.result (SendsGranted x and_then GivesCredits x) a b c.give_credits.new.self None
    c.prepare-granted.ensures.prepares
    (λ s chosen. inr (
      c.send_granted.new.self,
      sent_chosen x c.prepare-granted.result a b c.send_granted.new.self None s
          c.prepare-granted.ensures.within chosen c.in_ok-send_granted.ensures.sends,
      c.give_credits.ensures.gives,
    )))

pub returns-in_err-send_granted-clause-passes : goal.returns-in_err-send_granted-clause-passes
returns-in_err-send_granted-clause-passes g c =
    let x = c.args.node in
    let a = c.rests.new.self in
    let b = c.prepare-granted.new.self in
    let fault = Some c.in_err-send_granted.field-0.0 in
    let p = err_from_is_err_and c.from_residual.result c.from_residual.ensures.1 in
    rw (p.1, p.2)
    (subst (λ (q : PartState). NodePasses x q fault c.send_granted.new.self) c.rests.ensures.same
    (prepared x c.prepare-granted.result (SendsGranted x and_then GivesCredits x) a b c.send_granted.new.self fault
    c.prepare-granted.ensures.prepares
    (λ s chosen. inl (
      refl,
      sent_chosen x c.prepare-granted.result a b c.send_granted.new.self fault s
          c.prepare-granted.ensures.within chosen c.in_err-send_granted.ensures.sends,
    ))))
