-- Links that routes cross, by the digits of addresses: a relation on lists of digits, and the test that says it.
use Rattle.std.proofs.Common.{ℕ, ◌≡◌, ◌≢◌, ◌+◌, ◌-◌, ◌*◌, ◌/◌, ◌%◌, ◌<◌, ◌≤◌, ◌⊎◌, inl, inr, true, eqb, ltb, leb, List}
use Rattle.std.proofs.Common.{[], ◌∷◌, length, arith, refl, ap, sym, ◌∙◌}
use Rattle.std.proofs.Math.Nat.{mul_comm, div-add-mod, mod-lt, mul-le-mul_left}
use Rattle.std.proofs.lemmas.Nat.{div_below}
use Rattle.std.proofs.lemmas.Bool.{cases_eq, cases_order, eq-eqb, ne_eqb, lt-ltb, le-ltb, le-leb, and_parts, and_from}
use Rattle.std.proofs.lemmas.Bool.{ltb-true, leb-true, eqb-true}
use Rattle.worm_mesh.specs.Address.{node_count, address_of}
use Rattle.worm_mesh.proofs.Digits.{AreLarge, same_node}
use Rattle.worm_route.specs.Route.{port_from}
use Rattle.worm_route.proofs.Legs.{next_address, tail_differs}
use Rattle.worm_route.proofs.Onward.{port_from_up}
use Rattle.worm_route.specs.Crossing.{steps_down, steps_up, crosses}

-- the address agrees with t below the port's dimension and with s above, and there lies from s to t, t itself left out
abbrev pub IsCrossed : ℕ → List ℕ → List ℕ → List ℕ → Type 0
IsCrossed port [] s t = ⊥
IsCrossed port (x ∷ xs) [] t = ⊥
IsCrossed port (x ∷ xs) (a ∷ s) [] = ⊥
IsCrossed port (x ∷ xs) (a ∷ s) (b ∷ t) =
    ((port ≡ 0) × (x ≤ a) × (b < x) × (xs ≡ s))
    ⊎ (((port ≡ 1) × (a ≤ x) × (x < b) × (xs ≡ s)) ⊎ ((r : ℕ) × (port ≡ r + 2) × (x ≡ b) × IsCrossed r xs s t))

-- from t to t nothing is crossed
pub not_crossed : (port : ℕ) (xs t : List ℕ) → IsCrossed port xs t t → ⊥
not_crossed port [] t h = h
not_crossed port (x ∷ xs) [] h = h
not_crossed port (x ∷ xs) (b ∷ t) h =
    elim h [
      | inl m ↦ let le = m.1 in let lt = m.2 in absurd (omega arith)
      | inr g ↦ elim g [
        | inl m ↦ let le = m.1 in let lt = m.2 in absurd (omega arith)
        | inr m ↦ not_crossed m.0 xs t m.3
      ]
    ]

-- a link that is crossed from s is the first, or is crossed from the next address
abbrev FirstOrLater : ℕ → List ℕ → List ℕ → List ℕ → Type 0
FirstOrLater port xs s t = ((xs ≡ s) × (port ≡ port_from 0 s t)) ⊎ IsCrossed port xs (next_address s t) t

pub crossed_first : (port : ℕ) (xs s t : List ℕ) → IsCrossed port xs s t → FirstOrLater port xs s t
crossed_first port [] s t h = absurd h
crossed_first port (x ∷ xs) [] t h = absurd h
crossed_first port (x ∷ xs) (a ∷ s) [] h = absurd h
crossed_first port (x ∷ xs) (a ∷ s) (b ∷ t) h =
    elim (cases_order a b) [
      | inl same ↦ elim h [
        | inl m ↦ let le = m.1 in let lt = m.2 in absurd (omega arith)
        | inr g ↦ elim g [
          | inl m ↦ let le = m.1 in let lt = m.2 in absurd (omega arith)
          | inr m ↦
              let num = m.1 in
              let digit : x ≡ a = m.2 ∙ sym same in
              rw (eq-eqb a b same) (elim (crossed_first m.0 xs s t m.3) [
                | inl first ↦ let up = port_from_up 0 s t in let here = first.1 in
                    inl (rw (digit, first.0) refl, omega arith)
                | inr later ↦ inr (inr (inr (m.0, num, m.2, later)))
              ])
        ]
      ]
      | inr order ↦ elim order [
        | inl up ↦
            let differ : a ≡ b → ⊥ = λ e. absurd (omega arith) in
            rw (ne_eqb a b differ, lt-ltb a b up) (elim h [
              | inl m ↦ let le = m.1 in let lt = m.2 in absurd (omega arith)
              | inr g ↦ elim g [
                | inl m ↦
                    let le = m.1 in let lt = m.2 in let num = m.0 in
                    elim (cases_eq x a) [
                      | inl at ↦ inl (rw (at, m.3) refl, num)
                      | inr ne ↦ inr (inr (inl (num, omega arith, lt, m.3)))
                    ]
                | inr m ↦ inr (inr (inr m))
              ]
            ])
        | inr down ↦
            let differ : a ≡ b → ⊥ = λ e. absurd (omega arith) in
            rw (ne_eqb a b differ, le-ltb a b (omega arith)) (elim h [
              | inl m ↦
                  let le = m.1 in let lt = m.2 in let num = m.0 in
                  elim (cases_eq x a) [
                    | inl at ↦ inl (rw (at, m.3) refl, num)
                    | inr ne ↦ inr (inl (num, omega arith, lt, m.3))
                  ]
              | inr g ↦ elim g [
                | inl m ↦ let le = m.1 in let lt = m.2 in absurd (omega arith)
                | inr m ↦ inr (inr (inr m))
              ]
            ])
      ]
    ]

-- what is crossed from the next address is crossed from s
pub crossed_later : (port : ℕ) (xs s t : List ℕ) → IsCrossed port xs (next_address s t) t → IsCrossed port xs s t
crossed_later port [] s t h = absurd h
crossed_later port (x ∷ xs) [] t h = absurd h
crossed_later port (x ∷ xs) (a ∷ s) [] h = absurd h
crossed_later port (x ∷ xs) (a ∷ s) (b ∷ t) h =
    elim (cases_order a b) [
      | inl same ↦
          let g : IsCrossed port (x ∷ xs) (a ∷ next_address s t) (b ∷ t) = rw (eq-eqb a b same) at h in
          elim g [
            | inl m ↦ let le = m.1 in let lt = m.2 in absurd (omega arith)
            | inr k ↦ elim k [
              | inl m ↦ let le = m.1 in let lt = m.2 in absurd (omega arith)
              | inr m ↦ inr (inr (m.0, m.1, m.2, crossed_later m.0 xs s t m.3))
            ]
          ]
      | inr order ↦ elim order [
        | inl up ↦
            let differ : a ≡ b → ⊥ = λ e. absurd (omega arith) in
            let g : IsCrossed port (x ∷ xs) ((a + 1) ∷ s) (b ∷ t) = rw (ne_eqb a b differ, lt-ltb a b up) at h in
            elim g [
              | inl m ↦ let le = m.1 in let lt = m.2 in absurd (omega arith)
              | inr k ↦ elim k [
                | inl m ↦ let le = m.1 in inr (inl (m.0, omega arith, m.2, m.3))
                | inr m ↦ inr (inr m)
              ]
            ]
        | inr down ↦
            let differ : a ≡ b → ⊥ = λ e. absurd (omega arith) in
            let g : IsCrossed port (x ∷ xs) ((a - 1) ∷ s) (b ∷ t) =
            rw (ne_eqb a b differ, le-ltb a b (omega arith)) at h in
            elim g [
              | inl m ↦ let le = m.1 in inl (m.0, omega arith, m.2, m.3)
              | inr k ↦ elim k [
                | inl m ↦ let le = m.1 in let lt = m.2 in absurd (omega arith)
                | inr m ↦ inr (inr m)
              ]
            ]
      ]
    ]

-- the first hop is crossed
pub crossed_here : (s t : List ℕ) → length s ≡ length t → s ≢ t → IsCrossed (port_from 0 s t) s s t
crossed_here [] [] e ne = absurd (ne refl)
crossed_here [] (b ∷ t) e ne = absurd (omega arith)
crossed_here (a ∷ s) [] e ne = absurd (omega arith)
crossed_here (a ∷ s) (b ∷ t) e ne =
    elim (cases_order a b) [
      | inl same ↦
          let rest = crossed_here s t (omega arith) (tail_differs a b s t same ne) in
          rw (eq-eqb a b same) (inr (inr (port_from 0 s t, port_from_up 0 s t, same, rest)))
      | inr order ↦ elim order [
        | inl up ↦
            let differ : a ≡ b → ⊥ = λ e. absurd (omega arith) in
            rw (ne_eqb a b differ, lt-ltb a b up) (inr (inl (refl, omega arith, up, refl)))
        | inr down ↦
            let differ : a ≡ b → ⊥ = λ e. absurd (omega arith) in
            rw (ne_eqb a b differ, le-ltb a b (omega arith)) (inl (refl, omega arith, down, refl))
      ]
    ]

-- the test on nodes says this of their addresses
pub crosses-crossed : (ks : List ℕ) (x port s t : ℕ) → crosses ks x port s t ≡ true
    → IsCrossed port (address_of ks x) (address_of ks s) (address_of ks t)
crosses-crossed [] x port s t h = cc
crosses-crossed (k ∷ ks) x port s t h =
    elim (cases_eq port 0) [
      | inl is_minus ↦
          let g = rw (eq-eqb port 0 is_minus) at h in
          let one = and_parts (steps_down (x % k) (s % k) (t % k)) (eqb (x / k) (s / k)) g in
          let two = and_parts (leb (x % k) (s % k)) (ltb (t % k) (x % k)) one.0 in
          inl (
            is_minus,
            leb-true (x % k) (s % k) two.0,
            ltb-true (t % k) (x % k) two.1,
            ap (address_of ks) (eqb-true (x / k) (s / k) one.1),
          )
      | inr not_minus ↦ elim (cases_eq port 1) [
        | inl is_plus ↦
            let g = rw (ne_eqb port 0 not_minus, eq-eqb port 1 is_plus) at h in
            let one = and_parts (steps_up (x % k) (s % k) (t % k)) (eqb (x / k) (s / k)) g in
            let two = and_parts (leb (s % k) (x % k)) (ltb (x % k) (t % k)) one.0 in
            inr (inl (
              is_plus,
              leb-true (s % k) (x % k) two.0,
              ltb-true (x % k) (t % k) two.1,
              ap (address_of ks) (eqb-true (x / k) (s / k) one.1),
            ))
        | inr not_plus ↦
            let g = rw (ne_eqb port 0 not_minus, ne_eqb port 1 not_plus) at h in
            let one = and_parts (eqb (x % k) (t % k)) (crosses ks (x / k) (port - 2) (s / k) (t / k)) g in
            inr (inr (
              port - 2,
              omega arith,
              eqb-true (x % k) (t % k) one.0,
              crosses-crossed ks (x / k) (port - 2) (s / k) (t / k) one.1,
            ))
      ]
    ]

below_next : (k : ℕ) (ks : List ℕ) (x : ℕ) → 2 ≤ k → x < node_count (k ∷ ks) → x / k < node_count ks
below_next k ks x large p = div_below x k (node_count ks) (omega arith) (omega (arith, mul_comm k (node_count ks)))

pub crossed-crosses : (ks : List ℕ) (x port s t : ℕ) → AreLarge ks → x < node_count ks → s < node_count ks
    → IsCrossed port (address_of ks x) (address_of ks s) (address_of ks t) → crosses ks x port s t ≡ true
crossed-crosses [] x port s t l p q h = absurd h
crossed-crosses (k ∷ ks) x port s t l p q h =
    let above : address_of ks (x / k) ≡ address_of ks (s / k)
    → x / k ≡ s / k = λ e. same_node ks (x / k) (s / k) l.1 (below_next k ks x l.0 p) (below_next k ks s l.0 q) e in
    elim h [
      | inl m ↦ rw (eq-eqb port 0 m.0) (and_from (steps_down (x % k) (s % k) (t % k)) (eqb (x / k) (s / k))
          (and_from (leb (x % k) (s % k)) (ltb (t % k) (x % k)) (le-leb (x % k) (s % k) m.1)
          (lt-ltb (t % k) (x % k) m.2)) (eq-eqb (x / k) (s / k) (above m.3)))
      | inr g ↦ elim g [
        | inl m ↦
            let num = m.0 in
            rw (
              ne_eqb port 0 (λ e. absurd (omega arith)),
              eq-eqb port 1 num,
            ) (and_from (steps_up (x % k) (s % k) (t % k)) (eqb (x / k) (s / k))
            (and_from (leb (s % k) (x % k)) (ltb (x % k) (t % k)) (le-leb (s % k) (x % k) m.1)
            (lt-ltb (x % k) (t % k) m.2)) (eq-eqb (x / k) (s / k) (above m.3)))
        | inr m ↦
            let num = m.1 in
            let back : port - 2 ≡ m.0 = omega arith in
            let rest = crossed-crosses ks (x / k) m.0 (s / k) (t / k) l.1 (below_next k ks x l.0 p)
            (below_next k ks s l.0 q) m.3 in
            rw (
              ne_eqb port 0 (λ e. absurd (omega arith)),
              ne_eqb port 1 (λ e. absurd (omega arith)),
              back,
            ) (and_from (eqb (x % k) (t % k)) (crosses ks (x / k) m.0 (s / k) (t / k))
            (eq-eqb (x % k) (t % k) m.2) rest)
      ]
    ]

-- only nodes of the mesh pass the test
pub crosses-inside : (ks : List ℕ) (x port s t : ℕ) → AreLarge ks → s < node_count ks → crosses ks x port s t ≡ true
    → x < node_count ks
crosses-inside [] x port s t l q h = cc
crosses-inside (k ∷ ks) x port s t l q h =
    elim (cases_eq port 0) [
      | inl is_minus ↦
          let g = rw (eq-eqb port 0 is_minus) at h in
          let one = and_parts (steps_down (x % k) (s % k) (t % k)) (eqb (x / k) (s / k)) g in
          inside (rw (eqb-true (x / k) (s / k) one.1) (below_next k ks s l.0 q))
      | inr not_minus ↦ elim (cases_eq port 1) [
        | inl is_plus ↦
            let g = rw (ne_eqb port 0 not_minus, eq-eqb port 1 is_plus) at h in
            let one = and_parts (steps_up (x % k) (s % k) (t % k)) (eqb (x / k) (s / k)) g in
            inside (rw (eqb-true (x / k) (s / k) one.1) (below_next k ks s l.0 q))
        | inr not_plus ↦
            let g = rw (ne_eqb port 0 not_minus, ne_eqb port 1 not_plus) at h in
            let one = and_parts (eqb (x % k) (t % k)) (crosses ks (x / k) (port - 2) (s / k) (t / k)) g in
            inside (crosses-inside ks (x / k) (port - 2) (s / k) (t / k) l.1 (below_next k ks s l.0 q) one.1)
      ]
    ]
  where
    inside : x / k < node_count ks → x < k * node_count ks
    inside below =
        let p : 0 < k = omega (arith, l.0) in
        omega (arith, div-add-mod x k, mod-lt x p, mul-le-mul_left k below)
