-- A link has room where nothing is on it, since there is a channel and each buffer has a place.
use Rattle.std.proofs.Common.{◌≡◌, ℕ, zero, suc, ◌+◌, ◌*◌, ◌<◌, ◌≤◌, List, [], ◌∷◌, length, sum}
use Rattle.std.proofs.Common.{Option, Some, None, refl, arith, ap}
use Rattle.std.specs.Prelude.{All, IsSome}
use Rattle.std.proofs.lemmas.List.Elements.{All-head}
use Rattle.std.proofs.lemmas.List.Sums.{sum_by-cons}
use Rattle.worm_mesh.specs.Address.{neighbour_of, opposite_of}
use Rattle.worm_mesh.specs.Links.{links_before}
use Rattle.worm_region.specs.Moves.{link_into, link_out}
use Rattle.worm_wires.specs.Wiring.{into_from}
use Rattle.worm_region.specs.State.{NetState, IsFramed, link_at}
use Rattle.worm_region.proofs.LinksThere.{feeder, leader}

-- each class has a channel, and there is a class
some_channel : (counts : List ℕ) → 1 ≤ length counts → All (λ n. (1 ≤ n) × (n ≤ 8)) counts → 1 ≤ sum counts
some_channel [] some each = absurd (omega arith)
some_channel (n ∷ counts) some each =
    let first = (All-head (λ n. (1 ≤ n) × (n ≤ 8)) n counts each).0 in
    let whole : sum (n ∷ counts) ≡ n + sum counts = sum_by-cons (λ (x : ℕ). x) n counts in
    omega (arith, first, whole)

times : (a b : ℕ) → 1 ≤ a → 1 ≤ b → 1 ≤ a * b
times zero b some_a some_b = absurd (omega arith)
times (suc a) zero some_a some_b = absurd (omega arith)
times (suc a) (suc b) some_a some_b = omega arith

some_room : (s : NetState) (k : ℕ) → IsFramed s → k < length s.links → 0 < (link_at s k).room
some_room s k framed there =
    let room = framed.rooms k there in
    let some =
    times (sum s.channels) s.depth (some_channel s.channels framed.classes.some framed.classes.each)
    framed.least_depth in
    omega arith

none_long : {A : Type 0} (xs : List A) (n : ℕ) → xs ≡ [] → 0 < n → length xs < n
none_long {A} xs n empty some = let none = ap (λ (l : List A). length l) empty in omega arith

pub flit_room : (s : NetState) (x p : ℕ) → IsFramed s → IsSome (neighbour_of s.mesh x p) →
    (link_at s (link_into s x p)).flits ≡ []
    → length (link_at s (link_into s x p)).flits < (link_at s (link_into s x p)).room
flit_room s x p framed linked empty = by_link (neighbour_of s.mesh x p) refl linked empty where
  by_link : (n : Option ℕ) → neighbour_of s.mesh x p ≡ n → IsSome n → (link_at s (into_from s.mesh p n)).flits ≡ []
      → length (link_at s (into_from s.mesh p n)).flits < (link_at s (into_from s.mesh p n)).room
  by_link None e some none = absurd (cc)
  by_link (Some y) e some none =
      let fed = feeder s x p y framed e in
      let k = links_before s.mesh y (opposite_of p) in
      none_long (link_at s k).flits (link_at s k).room none (some_room s k framed fed.bound)

pub credit_room : (s : NetState) (x o : ℕ) → IsFramed s → IsSome (neighbour_of s.mesh x o) →
    (link_at s (link_out s x o)).credits ≡ []
    → length (link_at s (link_out s x o)).credits < (link_at s (link_out s x o)).room
credit_room s x o framed linked empty = by_link (neighbour_of s.mesh x o) refl linked where
  by_link : (n : Option ℕ) → neighbour_of s.mesh x o ≡ n → IsSome n
      → length (link_at s (link_out s x o)).credits < (link_at s (link_out s x o)).room
  by_link None e some = absurd (cc)
  by_link (Some y) e some =
      let lead = leader s x o y framed e in
      let k = link_out s x o in
      none_long (link_at s k).credits (link_at s k).room empty (some_room s k framed lead.bound)
