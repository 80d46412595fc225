-- A shape that is a mesh: two nodes in a line, one class of some channels. So what the theory asks of a mesh can be
-- met.
use Rattle.std.proofs.Common.{◌≡◌, ℕ, suc, ◌<◌, cond, inl, inr, ◌==◌, Some, None, refl, arith}
use Rattle.worm_theory.specs.Shape.{Shape, IsMesh}
use Rattle.worm_theory.specs.Network.{same}
use Rattle.worm_theory.proofs.Places.{number_cases, place_cases, same-false}

-- port 1 of node 0 and port 0 of node 1 lead to the other node, and port 2 is the terminal
abbrev pub line : ℕ → ℕ → Shape
line vcs depth = record {
  nodes = 2;
  classes = 1;
  vcs = vcs;
  depth = depth;
  terminal = 2;
  neighbour = λ x p. cond (same x p 0 1) (Some 1) (cond (same x p 1 0) (Some 0) None);
  opposite = λ p. cond (p == 0) 1 0;
  next_port = λ x d. cond (x == d) 2 (cond (x == 0) 1 0);
  hops = λ x d. cond (x == d) 0 1;
  owner = λ c. 0;
  first = λ k. 0;
}

module _ (vcs depth : ℕ) where
  abbrev own : Shape
  own = line vcs depth

  both_ways : (x p y : ℕ) → own.neighbour x p ≡ Some y
      → (own.neighbour y (own.opposite p) ≡ Some x) × (own.opposite (own.opposite p) ≡ p)
  both_ways x p y e =
      elim (place_cases x p 0 1) [
        | inl a ↦ let at = rw a.0 at e in let one : y ≡ 1 = cc in rw (one, a.1, a.2) (refl, refl)
        | inr a ↦ elim (place_cases x p 1 0) [
          | inl b ↦ let at = rw (a.0, b.0) at e in let nought : y ≡ 0 = cc in rw (nought, b.1, b.2) (refl, refl)
          | inr b ↦ let at = rw (a.0, b.0) at e in cc
        ]
      ]

  line_goes : (x d n : ℕ) → x < 2 → d < 2 → own.hops x d ≡ suc n
      → (y : ℕ) × (own.neighbour x (own.next_port x d) ≡ Some y) × (y < 2) × (own.hops y d ≡ n)
  line_goes x d n in_x in_d e =
      elim (number_cases x d) [
        | inl a ↦ let none = rw a.0 at e in absurd (omega arith)
        | inr a ↦
            let last = rw a.0 at e in
            let apart = a.1 in
            let left : 0 ≡ n = omega arith in
            elim (number_cases x 0) [
              | inl b ↦ let there : d ≡ 1 = grind arith in (1, rw (a.0, b.1) refl, omega arith, rw there left)
              | inr b ↦ let here : x ≡ 1 = omega arith in let there : d ≡ 0 = grind arith in
                  (0, rw (a.0, here) refl, omega arith, rw there left)
            ]
      ]

  line_ends : (x d : ℕ) → own.hops x d ≡ 0 → (x ≡ d) × (own.next_port x d ≡ 2)
  line_ends x d e =
      elim (number_cases x d) [
        | inl a ↦ (a.1, rw a.0 refl)
        | inr a ↦ let more = rw a.0 at e in absurd (omega arith)
      ]

  pub line_is_mesh : 0 < vcs → IsMesh (line vcs depth)
  line_is_mesh some = record {
    link_back = λ x p y e. (both_ways x p y e).0;
    opposite_twice = λ x p y e. (both_ways x p y e).1;
    terminal_alone = λ x. rw (
      same-false x 2 0 1 (λ _ e. absurd (omega arith)),
      same-false x 2 1 0 (λ _ e. absurd (omega arith)),
    ) refl;
    first_owned = λ k h. (some, omega arith);
    arrives = λ x d _ _ e. line_ends x d e;
    goes_on = λ x d n in_x in_d e. line_goes x d n in_x in_d e;
  }
