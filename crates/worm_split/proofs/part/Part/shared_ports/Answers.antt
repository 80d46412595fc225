use Rattle.std.proofs.Common.{◌≡◌, ℕ, ◌/◌, ◌%◌, false, inl, inr, arith, ap, sym, subst, ◌∙◌}
use Rattle.worm_flit.specs.SmallSet.{has}
use Rattle.worm_mesh.specs.Address.{stride_of}
use Rattle.worm_theory.proofs.Places.{number_cases}
use Rattle.worm_split.specs.PartTurns.{AreShared}
use Rattle.worm_split.specs.PartState.{PartState}
use Rattle.worm_split.proofs.Sharing.{are_shared}
use Rattle.worm_split.proofs.part.Part.shared_ports.Goals as goal

pub loop-port-preserved : goal.loop-port-preserved
loop-port-preserved c =
    let port = c.loop-port.port in
    let terminal = c.terminal-port-end.ensures.bound in
    λ p below unnamed. elim (number_cases p port) [
      | inl here ↦
          let away : c.leads_away.result ≡ false =
          sym c.put.ensures.here ∙ (ap (λ (n : ℕ). has c.put.new.self n) (sym here.1) ∙ unnamed) in
          let same : p / 2 ≡ port / 2 = ap (λ (n : ℕ). n / 2) here.1 in
          ap (λ (d : ℕ). stride_of c.args.self.now.net.mesh d % c.args.self.now.net.own.workers) same
          ∙ c.leads_away.ensures away
      | inr other ↦
          let differs = other.1 in
          c.loop-port.invariant p (omega arith)
          (sym (c.put.ensures.elsewhere p (omega arith) other.1) ∙ unnamed)
    ]

pub returns : goal.returns
returns c =
    let framed = c.recall.ensures.framed in
    subst (λ (p : PartState). AreShared p.net c.loop-port.shared) c.self.view_is
    (are_shared c.self.inside.region c.loop-port.shared framed
    (λ p below unnamed.
    let within = c.loop-port.invariant p (omega (arith, c.terminal-port-end.ensures.value)) unnamed in
    subst (λ (q : PartState). stride_of q.net.mesh (p / 2) % q.net.own.workers ≡ 0) (sym c.self.view_is) within))
