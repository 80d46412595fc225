-- What a step by each port adds to a node's number.
use Rattle.std.proofs.Common.{ℕ, zero, suc, ◌≡◌, ◌+◌, ◌-◌, ◌*◌, ◌/◌, ◌%◌, ◌<◌, ◌≤◌, List, [], ◌∷◌, length, get_or, Bool}
use Rattle.std.proofs.Common.{true, false, ◌≢◌, Some, None, IsSome, arith, refl, ap, sym, ◌∙◌, set, take, below_more}
use Rattle.std.proofs.Common.{inl, inr, get_or-set_other, get_or-set_same, length-set, mod-lt, subst}
use Rattle.std.proofs.lemmas.Bool.{cases_lt}
use Rattle.std.proofs.Math.Nat.{div-add-mod, zero-div, zero-mod}
use Rattle.std.proofs.lemmas.Nat.{mul-le}
use Rattle.worm_mesh.specs.Address.{AreRadices, digit_of, has_neighbour, neighbour_of, node_count, stride_of}
use Rattle.worm_mesh.proofs.Digits.{AreLarge, AreLarge-from_radices, digit_of_is}
use Rattle.worm_mesh.proofs.Neighbours.{IsLink-from_test, down, has_up, neighbour_of-none, neighbour_of-some, up}
use Rattle.worm_wires.specs.Wiring.{AreSteps}

nodes_there : (ks : List ℕ) → AreLarge ks → 0 < node_count ks
nodes_there [] l = omega arith
nodes_there (k ∷ ks) l = omega (arith, mul-le 1 1 k (node_count ks) (omega arith) (nodes_there ks l.1))

large_at : (ks : List ℕ) (d : ℕ) → AreLarge ks → d < length ks → 2 ≤ get_or ks d 0
large_at [] d l h = absurd (omega arith)
large_at (k ∷ ks) zero l h = l.0
large_at (k ∷ ks) (suc d) l h = large_at ks d l.1 (omega arith)

no_digit : (ks : List ℕ) (d : ℕ) → d < length ks → digit_of ks 0 d ≡ 0
no_digit ks d h = digit_of_is ks 0 d h ∙ rw (zero-div (stride_of ks d), zero-mod (get_or ks d 0)) refl

-- node 0 has a neighbour on the plus side of each dimension, as far as one step
pub step_from_zero : (ks : List ℕ) (d port : ℕ) → AreRadices ks → d < length ks → port ≡ 2 * d + 1
    → neighbour_of ks 0 port ≡ Some (stride_of ks d)
step_from_zero ks d port radices h same =
    let large = AreLarge-from_radices ks radices.radices in
    let odd : port % 2 ≡ 1 = omega (arith, same) in
    let dim : port / 2 ≡ d = omega (arith, same) in
    let below : port < 2 * length ks = omega (arith, same, h) in
    let room : digit_of ks 0 (port / 2) + 1 < get_or ks (port / 2) 0 =
    rw dim (rw (no_digit ks d h) (omega (arith, large_at ks d large h))) in
    let there = has_up ks 0 port (nodes_there ks large) below odd room in
    let far : 0 + stride_of ks (port / 2) ≡ stride_of ks d = rw dim (omega arith) in
    neighbour_of-some ks 0 port (0 + stride_of ks (port / 2)) large (up ks 0 port large there odd)
    ∙ ap (λ (y : ℕ). Some y) far

neighbour_there : (ks : List ℕ) (x port : ℕ) → IsSome (neighbour_of ks x port) → has_neighbour ks x port ≡ true
neighbour_there ks x port some = by_test (has_neighbour ks x port) refl
  where
    by_test : (b : Bool) → has_neighbour ks x port ≡ b → has_neighbour ks x port ≡ true
    by_test true t = t
    by_test false t = let none : neighbour_of ks x port ≡ None = neighbour_of-none ks x port t in absurd (cc)

-- the neighbour on the minus side is a step below, on the plus side a step above
pub step_down : (ks : List ℕ) (x port : ℕ) → AreRadices ks → IsSome (neighbour_of ks x port) → port % 2 ≡ 0
    → (stride_of ks (port / 2) ≤ x) × (neighbour_of ks x port ≡ Some (x - stride_of ks (port / 2)))
step_down ks x port radices some even =
    let large = AreLarge-from_radices ks radices.radices in
    let joins = down ks x port large (neighbour_there ks x port some) even in
    (joins.0, neighbour_of-some ks x port (x - stride_of ks (port / 2)) large joins.1)

pub step_up : (ks : List ℕ) (x port : ℕ) → AreRadices ks → IsSome (neighbour_of ks x port) → port % 2 ≡ 1
    → (x + stride_of ks (port / 2) < 256) × (neighbour_of ks x port ≡ Some (x + stride_of ks (port / 2)))
step_up ks x port radices some odd =
    let large = AreLarge-from_radices ks radices.radices in
    let joins = up ks x port large (neighbour_there ks x port some) odd in (
      omega (arith, joins.to_node, radices.few_nodes),
      neighbour_of-some ks x port (x + stride_of ks (port / 2)) large joins,
    )

-- a step moves to another node
some_nodes : (ks : List ℕ) (d : ℕ) → AreLarge ks → 0 < node_count (take d ks)
some_nodes ks zero l = omega arith
some_nodes [] (suc d) l = omega arith
some_nodes (k ∷ ks) (suc d) l =
    omega (arith, mul-le 1 1 k (node_count (take d ks)) (omega arith) (some_nodes ks d l.1))

pub stride_some : (ks : List ℕ) (d : ℕ) → AreRadices ks → 0 < stride_of ks d
stride_some ks d radices = some_nodes ks d (AreLarge-from_radices ks radices.radices)

-- the steps of one dimension more
pub steps_more : (ks steps : List ℕ) (dim i j below_step step : ℕ) → length steps ≡ 6 → dim < 3 → i ≡ 2 * dim
    → j ≡ 2 * dim + 1 → below_step + stride_of ks dim ≡ 256 → step ≡ stride_of ks dim
    → ((d : ℕ) → d < dim → (get_or steps (2 * d) 0 + stride_of ks d ≡ 256)
    × (get_or steps (2 * d + 1) 0 ≡ stride_of ks d))
    → (d : ℕ) → d < dim + 1 → (get_or (set (set steps i below_step) j step) (2 * d) 0 + stride_of ks d ≡ 256)
    × (get_or (set (set steps i below_step) j step) (2 * d + 1) 0 ≡ stride_of ks d)
steps_more ks steps dim i j below_step step all few at_i at_j lower upper before =
    let here : i < length steps = omega arith in
    let apart : 2 * dim ≢ j = omega arith in
    let there : j < length (set steps i below_step) = rw length-set (omega arith) in
    below_more _ _ (λ d below.
    let even_j : 2 * d ≢ j = omega arith in
    let even_i : 2 * d ≢ i = omega arith in
    let odd_j : 2 * d + 1 ≢ j = omega arith in
    let odd_i : 2 * d + 1 ≢ i = omega arith in (
      rw get_or-set_other (rw get_or-set_other (before d below).0),
      rw get_or-set_other (rw get_or-set_other (before d below).1),
    )) (
      rw get_or-set_other (rw (← at_i) (rw get_or-set_same lower)),
      rw (← at_j) (rw get_or-set_same upper),
    )

-- the neighbour by a port is where its step leads

module _ (ks now steps : List ℕ) (x port : ℕ) (kept : AreSteps ks steps) (same : ks ≡ now) (radices : AreRadices now)
    (some : IsSome (neighbour_of now x port)) where
  within : port / 2 < length ks
  within =
      let large = AreLarge-from_radices now radices.radices in
      let link = IsLink-from_test now x port large (neighbour_there now x port some) in
      let here : port / 2 < length now = omega (arith, div-add-mod port 2, link.1.mesh_port) in
      rw same here

  down_by : port % 2 ≡ 0 → get_or steps port 0 + stride_of now (port / 2) ≡ 256
  down_by even =
      let at : 2 * (port / 2) ≡ port = omega (arith, even, div-add-mod port 2) in
      subst (λ (i : ℕ). get_or steps i 0 + stride_of now (port / 2) ≡ 256) at
      (subst (λ (m : List ℕ). get_or steps (2 * (port / 2)) 0 + stride_of m (port / 2) ≡ 256) same
      (kept (port / 2) within).0)

  up_by : port % 2 ≡ 1 → get_or steps port 0 ≡ stride_of now (port / 2)
  up_by odd =
      let at : 2 * (port / 2) + 1 ≡ port = omega (arith, odd, div-add-mod port 2) in
      subst (λ (i : ℕ). get_or steps i 0 ≡ stride_of now (port / 2)) at
      (subst (λ (m : List ℕ). get_or steps (2 * (port / 2) + 1) 0 ≡ stride_of m (port / 2)) same
      (kept (port / 2) within).1)

  pub stepped : x < 256 → Some ((x + get_or steps port 0) % 256) ≡ neighbour_of now x port
  stepped x_in = elim (cases_lt (port % 2) 1) [
    | inl low ↦
        let even : port % 2 ≡ 0 = omega arith in
        let down = step_down now x port radices some even in
        let moved : (x + get_or steps port 0) % 256 ≡ x - stride_of now (port / 2) =
        omega (arith, down_by even, down.0) in
        ap (λ (y : ℕ). Some y) moved ∙ sym down.1
    | inr high ↦
        let odd : port % 2 ≡ 1 = omega (arith, mod-lt) in
        let up = step_up now x port radices some odd in
        let moved : (x + get_or steps port 0) % 256 ≡ x + stride_of now (port / 2) =
        omega (arith, up_by odd, up.0) in
        ap (λ (y : ℕ). Some y) moved ∙ sym up.1
  ]
