-- What comes to a node of a part is asked for by the ports of a set, rising. No other is looked at: to ask for nothing
-- is a way in which a port is asked.
use Rattle.std.proofs.Common.{◌≡◌, ℕ, ◌+◌, ◌-◌, ◌*◌, ◌≤◌, inl, inr, List, length, Option, Some, None, refl}
use Rattle.std.proofs.Common.{arith, ap, sym, subst, ◌∙◌}
use Rattle.std.specs.List.{range_with_len}
use Rattle.std.proofs.lemmas.Bool.{cases_lt}
use Rattle.worm_flit.specs.SmallSet.{has, IsFirst}
use Rattle.worm_flit.proofs.SmallSets.{has_none}
use Rattle.worm_mesh.specs.Address.{neighbour_of}
use Rattle.worm_mesh.proofs.Neighbours.{neighbour_of-none, no_port}
use Rattle.worm_region.specs.Turns.{Each}
use Rattle.worm_region.specs.Turns.{mesh_ports}
use Rattle.worm_region.proofs.SetWalked.{IsOut, Walked, number_taken, walked_all, walked_more, walked_start}
use Rattle.worm_split.specs.PartState.{PartState, IsSamePart}
use Rattle.worm_split.specs.PartTurns.{PartPassage, PullsCredit, PullsFlit}
use Rattle.worm_split.proofs.PartLoops.{of_more, of_rest, same_on, same_still}

-- a port may be asked for nothing, and one behind those of the mesh can be asked for nothing else
pub record Asks (P : ℕ → PartPassage) : Type 1 where
  pub still : (p : ℕ) (a : PartState) → P p a None a
  pub behind : (p : ℕ) (a b : PartState) → 2 * length a.net.mesh ≤ p → P p a None b → b ≡ a

no_link : (mesh : List ℕ) (x o y : ℕ) → 2 * length mesh ≤ o → neighbour_of mesh x o ≡ Some y → ⊥
no_link mesh x o y past linked =
    let none : ◌≡◌ {A = Option ℕ} None (Some y) = sym (neighbour_of-none mesh x o (no_port mesh x o past)) ∙ linked in
    absurd (cc)

pub asks_credits : (x : ℕ) → Asks (PullsCredit x)
asks_credits x = record {
  still = λ p a. (refl, inl refl);
  behind = λ p a b past pulls. elim pulls.1 [
    | inl same ↦ same
    | inr comes ↦ absurd (no_link a.net.mesh x p comes.beyond past comes.linked)
  ];
}

pub asks_flits : (x : ℕ) → Asks (PullsFlit x)
asks_flits x = record {
  still = λ p a. (refl, inl refl);
  behind = λ p a b past pulls. elim pulls.1 [
    | inl same ↦ same
    | inr comes ↦ absurd (no_link a.net.mesh x p comes.beyond past comes.linked)
  ];
}

-- the ports of the mesh below one were asked
pub record AskedBelow (P : ℕ → PartPassage) (a b : PartState) (n : ℕ) : Type 0 where
  pub each : Each P (range_with_len 0 (2 * length a.net.mesh - (2 * length a.net.mesh - n))) a None b
  pub same : IsSamePart a b

-- how far the ports have come
abbrev pub Asked : (ℕ → PartPassage) → PartState → PartState → ℕ → Type 0
Asked P a b left = Walked (AskedBelow P a b) (λ p. Unit {0}) (IsOut left) 8

module _ (P : ℕ → PartPassage) (asks : Asks P) (a : PartState) where
  pub asked_start : (all : ℕ) → Asked P a a all
  asked_start all =
      let none : 0 ≡ 2 * length a.net.mesh - (2 * length a.net.mesh - 0) = omega arith in
      walked_start (record {
        each = subst (λ (n : ℕ). Each P (range_with_len 0 n) a None a) none (refl, refl);
        same = same_still a;
      })
      (λ p past few. absurd (omega arith)) (λ p few. tt)

  -- one more was asked; behind the ports of the mesh that changes nothing
  asked_one : (b c : PartState) (p : ℕ) → P p b None c → IsSamePart b c → AskedBelow P a b p
      → AskedBelow P a c (p + 1)
  asked_one b c p pulls same asked = record {
    each = elim (cases_lt p (2 * length a.net.mesh)) [
      | inl within ↦
          let now : 2 * length a.net.mesh - (2 * length a.net.mesh - p) ≡ p = omega arith in
          let then : p + 1 ≡ 2 * length a.net.mesh - (2 * length a.net.mesh - (p + 1)) = omega arith in
          subst (λ (n : ℕ). Each P (range_with_len 0 n) a None c) then
          (of_more P p a b c (subst (λ (n : ℕ). Each P (range_with_len 0 n) a None b) now asked.each) pulls)
      | inr past ↦
          let mesh = ap (λ (m : List ℕ). length m) asked.same.config.mesh in
          let kept : 2 * length a.net.mesh - (2 * length a.net.mesh - p)
          ≡ 2 * length a.net.mesh - (2 * length a.net.mesh - (p + 1)) = omega arith in
          subst (λ (n : ℕ). Each P (range_with_len 0 n) a None c) kept
          (subst (λ (q : PartState). Each P (range_with_len 0 (2 * length a.net.mesh - (2 * length a.net.mesh - p))) a
          None q) (sym (asks.behind p b c (omega arith) pulls)) asked.each)
    ];
    same = same_on a b c asked.same same;
  }

  pub asked_more : (b c : PartState) (left new port : ℕ) → Asked P a b left → IsFirst left new port → P port b None c
      → IsSamePart b c → Asked P a c new
  asked_more b c left new port asked first pulls same =
      walked_more (λ p few _ _. asked_one b b p (asks.still p b) (same_still b)) port asked (number_taken first)
      (asked_one b c port pulls same) (λ p above few _. tt)

  -- all were asked
  pub asked_all : (b : PartState) (left : ℕ) → Asked P a b left → left ≡ 0 → Each P (mesh_ports a.net) a None b
  asked_all b left asked none =
      of_rest P (2 * length a.net.mesh - (2 * length a.net.mesh - 8)) (2 * length a.net.mesh) a b (omega arith)
      (walked_all (λ p few _ _. asked_one b b p (asks.still p b) (same_still b)) asked
      (λ p few. ap (λ (s : ℕ). has s p) none ∙ has_none 0 p refl)).each
      (λ p above below. asks.still p b)
