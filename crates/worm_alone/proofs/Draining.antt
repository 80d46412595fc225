-- A drain, turn by turn.
use Rattle.std.proofs.Common.{◌≡◌, ℕ, zero, suc, ◌-◌, ◌+◌, ◌<◌, ◌==◌, true, false, [], Option, Some, None, inl, inr}
use Rattle.std.proofs.Common.{refl, arith, sym, subst}
use Rattle.worm_region.specs.State.{NetState}
use Rattle.worm_region.specs.Totals.{injected_total, delivered_total}
use Rattle.worm_region.specs.Turns.{Turn, Drains}
use Rattle.worm_region.specs.declared.fault.StepFault.{StepFault}

-- nothing is under way
pub drain_over : (n : ℕ) (a : NetState) → (injected_total a == delivered_total a) ≡ true → Drains n a None a
drain_over zero a over = (refl, refl)
drain_over (suc n) a over = rw over (refl, refl)

drain_step : (n : ℕ) (a b c : NetState) (fault : Option StepFault) → (injected_total a == delivered_total a) ≡ false
    → Turn [] a None b → Drains n b fault c → Drains (suc n) a fault c
drain_step n a b c fault on turn rest = rw on (inr (b, turn, rest))

drain_stop : (n : ℕ) (a b : NetState) (e : StepFault) → (injected_total a == delivered_total a) ≡ false
    → Turn [] a (Some e) b → Drains (suc n) a (Some e) b
drain_stop n a b e on turn = rw on (inl (refl, turn))

one_more : (most turn : ℕ) → turn < most → most - turn ≡ suc (most - (turn + 1))
one_more most turn below = omega (arith, below)

-- a turn more of a drain that goes on after it, and one that ends it
pub drain_on : (most turn : ℕ) (a b c : NetState) (fault : Option StepFault) → turn < most
    → (injected_total a == delivered_total a) ≡ false → Turn [] a None b
    → Drains (most - (turn + 1)) b fault c → Drains (most - turn) a fault c
drain_on most turn a b c fault below on done rest =
    subst (λ (n : ℕ). Drains n a fault c) (sym (one_more most turn below))
    (drain_step (most - (turn + 1)) a b c fault on done rest)

pub drain_cut : (most turn : ℕ) (a b : NetState) (e : StepFault) → turn < most
    → (injected_total a == delivered_total a) ≡ false → Turn [] a (Some e) b → Drains (most - turn) a (Some e) b
drain_cut most turn a b e below on stopped =
    subst (λ (n : ℕ). Drains n a (Some e) b) (sym (one_more most turn below))
    (drain_stop (most - (turn + 1)) a b e on stopped)
