-- Nodes whose numbers are a multiple of the number of workers apart have one owner.
use Rattle.std.proofs.Common.{◌≡◌, ℕ, ◌+◌, ◌-◌, ◌*◌, ◌/◌, ◌%◌, ◌==◌, ◌<◌, false, inl, inr, List, length}
use Rattle.std.proofs.Common.{Option, Some, arith, ap, sym, subst, ◌∙◌, refl}
use Rattle.std.proofs.Math.Nat.{add-mul-mod_self_left, div-add-mod}
use Rattle.std.specs.Prelude.{IsSome}
use Rattle.worm_flit.specs.SmallSet.{has}
use Rattle.worm_mesh.specs.Address.{neighbour_of, stride_of}
use Rattle.worm_theory.proofs.Places.{number_cases}
use Rattle.worm_region.specs.State.{IsFramed, NetState}
use Rattle.worm_region.specs.Owned.{owned_by}
use Rattle.worm_region.specs.declared.owner.Owner.{Owner}
use Rattle.worm_region.proofs.LinksThere.{leader}
use Rattle.worm_wires.proofs.StepsAdd.{step_down, step_up}
use Rattle.worm_split.specs.PartState.{PartState, IsSamePart}
use Rattle.worm_split.specs.PartTurns.{AreShared}

same_rest : (y s w : ℕ) → s % w ≡ 0 → (y + s) % w ≡ y % w
same_rest y s w none =
    let whole : s ≡ w * (s / w) = omega (arith, div-add-mod s w, none) in
    ap (λ (n : ℕ). (y + n) % w) whole ∙ add-mul-mod_self_left y w (s / w)

pub are_shared : (net : NetState) (shared : ℕ) → IsFramed net
    → ((p : ℕ) → p < 2 * length net.mesh → has shared p ≡ false
    → stride_of net.mesh (p / 2) % net.own.workers ≡ 0) → AreShared net shared
are_shared net shared framed each x o y linked unnamed =
    let radices = framed.radices in
    let there : IsSome (neighbour_of net.mesh x o) = subst IsSome (sym linked) refl in
    let lead = leader net x o y framed linked in
    let s = stride_of net.mesh (o / 2) in
    let rest : s % net.own.workers ≡ 0 = each o lead.port_in unnamed in
    elim (number_cases (o % 2) 0) [
      | inl even ↦
          let down = step_down net.mesh x o radices there even.1 in
          let same : ◌≡◌ {A = Option ℕ} (Some y) (Some (x - s)) = sym linked ∙ down.1 in
          let at : y ≡ x - s = cc in
          let back : y + s ≡ x = omega (arith, down.0, at) in
          ap (λ (r : ℕ). r == net.own.worker) (sym (same_rest y s net.own.workers rest)
          ∙ ap (λ (n : ℕ). n % net.own.workers) back)
      | inr away ↦
          let odd : o % 2 ≡ 1 = omega (arith, away.1) in
          let up = step_up net.mesh x o radices there odd in
          let same : ◌≡◌ {A = Option ℕ} (Some y) (Some (x + s)) = sym linked ∙ up.1 in
          let at : y ≡ x + s = cc in
          ap (λ (r : ℕ). r == net.own.worker) (ap (λ (n : ℕ). n % net.own.workers) at
          ∙ same_rest x s net.own.workers rest)
    ]

-- the ports of a part stay so while the part is the same
pub still_shared : (old new : PartState) (shared : ℕ) → IsSamePart old new → AreShared old.net shared
    → AreShared new.net shared
still_shared old new shared same are x o y linked unnamed =
    subst (λ (w : Owner). owned_by w y ≡ owned_by w x) (sym same.config.own)
    (are x o y (subst (λ (mesh : List ℕ). neighbour_of mesh x o ≡ Some y) same.config.mesh linked) unnamed)
