-- How many workers there are.
use Rattle.std.proofs.Common.{◌≡◌, ◌==◌, ℕ, ◌<◌, ◌≤◌, true, arith, refl, subst, sym, ◌∙◌}
use Rattle.worm_mesh.specs.Address.{node_count}
use Rattle.worm_region.specs.State.{NetState}
use Rattle.worm_run.specs.Runs.{HasRooms, HasWorkers}
use Rattle.worm_run.specs.declared.plan.RunPlan.{RunPlan}
use Rattle.worm_run.specs.declared.running.Rooms.{Rooms}

-- what the tests of a run say
pub has_workers : (net : NetState) (plan : RunPlan) (nodes from : ℕ) → (plan.workers ≡ 0 → ⊥) → plan.workers ≤ 16 →
    plan.workers ≤ from → from ≡ nodes → nodes ≡ node_count net.mesh → HasWorkers net plan
has_workers net plan nodes from some few with_nodes same all = record {
  some = omega arith;
  few = few;
  with_nodes = omega arith;
}

-- a run that found no memory
pub no_room : (net : NetState) (plan : RunPlan) (nodes from : ℕ) → (plan.workers ≡ 0 → ⊥) → plan.workers ≤ 16 →
    plan.workers ≤ from → from ≡ nodes → nodes ≡ node_count net.mesh → (net ≡ net) × HasWorkers net plan
no_room net plan nodes from some few with_nodes same all =
    (refl, has_workers net plan nodes from some few with_nodes same all)

-- as many rooms as parts
pub rooms_for : (rooms : Rooms) (workers count len : ℕ) → HasRooms workers rooms → len ≡ count → count ≡ workers →
    HasRooms len rooms
rooms_for rooms workers count len has same all = subst (λ (n : ℕ). HasRooms n rooms) (sym (same ∙ all)) has

-- a worker that did not start is one of them
pub below_all : (worker len items workers : ℕ) → worker < len → len ≡ items → items ≡ workers → worker < workers
below_all worker len items workers below same all = omega arith

-- an empty list's length
pub is_zero : (n : ℕ) → true ≡ (n == 0) → n ≡ 0
is_zero n test = grind (arith, test)
