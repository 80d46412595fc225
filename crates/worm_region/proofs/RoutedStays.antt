-- Where each channel of a node with a flit has its route, trying to route changes nothing.
use Rattle.std.proofs.Common.{◌≡◌, ℕ, zero, suc, ◌+◌, ◌*◌, ◌<◌, ◌≤◌, false, ◌⊎◌, inl, inr}
use Rattle.std.proofs.Common.{length, map, sum, Option, Some, None, Ok, Err, refl, arith, sym, subst}
use Rattle.std.specs.Prelude.{IsSome}
use Rattle.std.specs.List.{range_with_len}
use Rattle.worm_mesh.specs.Address.{node_count, neighbour_of}
use Rattle.worm_router.specs.Router.{terminal, width, can_route}
use Rattle.worm_router.specs.Rest.{RoutesNothing}
use Rattle.worm_theory.specs.Steps.{Route, IsPort}
use Rattle.worm_theory.proofs.Places.{number_cases}
use Rattle.worm_region.specs.Shape.{net_shape}
use Rattle.worm_region.specs.State.{NetState, router_at, shape}
use Rattle.worm_region.specs.Workable.{IsWorkable}
use Rattle.worm_region.specs.Replies.{Attempts}
use Rattle.worm_region.specs.Turns.{Passage, Each, RoutesPortBy, RoutesChannelsBy}
use Rattle.worm_region.specs.declared.step.Moved.TheVariants.{Idle}
use Rattle.worm_region.specs.declared.fault.StepFault.TheVariants.{NoSuchPlace}
use Rattle.worm_region.proofs.RouteAgrees.{route_answers}

-- one place of two numbers, or another
pub places_same : (p q v c : ℕ) → ((p ≡ q) × (v ≡ c)) ⊎ (p ≡ q → v ≡ c → ⊥)
places_same p q v c = elim (number_cases p q) [
  | inl port ↦ elim (number_cases v c) [
    | inl channel ↦ inl (port.1, channel.1)
    | inr away ↦ inr (λ e f. away.1 f)
  ]
  | inr away ↦ inr (λ e f. away.1 e)
]

-- passages that change nothing, one after another

pub each_still : {A : Type 0} (P : A → Passage) (f : ℕ → A) (s : NetState) (n from : ℕ) →
    ((i : ℕ) → i < from + n → P (f i) s None s) → Each P (map f (range_with_len from n)) s None s
each_still P f s zero from still = (refl, refl)
each_still P f s (suc n) from still =
    inr (s, still from (omega arith), each_still P f s n (from + 1) (λ i below. still i (omega arith)))

pub numbers_still : (P : ℕ → Passage) (s : NetState) (n from : ℕ) → ((i : ℕ) → i < from + n → P i s None s) →
    Each P (range_with_len from n) s None s
numbers_still P s zero from still = (refl, refl)
numbers_still P s (suc n) from still =
    inr (s, still from (omega arith), numbers_still P s n (from + 1) (λ i below. still i (omega arith)))

-- a route that is tried where there is nothing to route

port_there : (s : NetState) (x p : ℕ) (n : Option ℕ) → neighbour_of s.mesh x p ≡ n →
    (IsPort (shape s) x p) ⊎ (IsPort (shape s) x p → ⊥)
unfolding net_shape
port_there s x p (Some y) e = inl (inr (subst IsSome (sym e) refl))
port_there s x p None e = elim (number_cases p (2 * length s.mesh)) [
  | inl here ↦ inl (inl here.1)
  | inr away ↦ inr (λ port. elim port [
    | inl at ↦ away.1 at
    | inr some ↦ let none : IsSome {T = ℕ} None = subst IsSome e some in absurd (cc)
  ])
]

pub route_still : (s : NetState) (x p v : ℕ) → IsWorkable s → x < node_count s.mesh → v < sum s.channels →
    can_route (router_at s x) p v ≡ false → Attempts (Route x p v) s None s
unfolding net_shape
route_still s x p v net x_in v_in can = elim (port_there s x p (neighbour_of s.mesh x p) refl) [
  | inl port ↦
      (Ok Idle, (route_answers s x p v net (x_in, port, v_in) false (sym can)).1, refl)
  | inr away ↦ (Err NoSuchPlace, (λ there. away there.1, refl), refl)
]

port_still : (s : NetState) (x p : ℕ) → IsWorkable s → x < node_count s.mesh → p ≤ 2 * length s.mesh →
    RoutesNothing (router_at s x) → RoutesPortBy Attempts x p s None s
port_still s x p net x_in p_in nothing =
    let all = net.framed.all_nodes in
    let node = net.framed.each_node x (omega arith) in
    each_still Attempts (Route x p) s (sum s.channels) 0 (λ v below.
    let p_there : p ≤ terminal (router_at s x) = rw node.same_mesh p_in in
    let v_there : v < width (router_at s x) = rw node.same_channels (omega arith) in
    route_still s x p v net x_in (omega arith)
    (nothing p v (omega (arith, p_in, net.framed.radices.few_dims))
    (omega (arith, below, net.framed.classes.total)) p_there v_there))

pub node_still : (s : NetState) (x : ℕ) → IsWorkable s → x < node_count s.mesh → RoutesNothing (router_at s x) →
    RoutesChannelsBy Attempts x s None s
node_still s x net x_in nothing =
    numbers_still (RoutesPortBy Attempts x) s (2 * length s.mesh + 1) 0
    (λ p below. port_still s x p net x_in (omega arith) nothing)
