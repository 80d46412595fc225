-- How many nodes a mesh has, counted radix by radix.
use Rattle.std.proofs.Common.{◌≡◌, ℕ, suc, ◌+◌, ◌*◌, ◌<◌, ◌≤◌, List, [], ◌∷◌, ◌++◌, length, get_or, take, drop, fold}
use Rattle.std.proofs.Common.{All, sym, ap, ◌∙◌, arith}
use Rattle.std.proofs.Math.Nat.{mul_assoc, mul-one, one-mul}
use Rattle.std.proofs.lemmas.List.{take-append-drop, get_or-drop, length-drop}
use Rattle.std.proofs.lemmas.List.Sums.{fold_more, fold-append}
use Rattle.std.proofs.lemmas.Nat.{mul-le}
use Rattle.worm_mesh.specs.Address.{node_count}
use Rattle.worm_text.specs.Network.{IsBetween}

-- the product from the left is the product from the right
product : (a : ℕ) (radices : List ℕ) → fold ◌*◌ a radices ≡ a * node_count radices
product a [] = sym (mul-one a)
product a (k ∷ radices) = product (a * k) radices ∙ mul_assoc a k (node_count radices)

counted : (radices : List ℕ) → fold ◌*◌ 1 radices ≡ node_count radices
counted radices = product 1 radices ∙ one-mul (node_count radices)

-- one dimension behind the others
pub nodes_push : (radices : List ℕ) (k : ℕ) → node_count (radices ++ k ∷ []) ≡ node_count radices * k
nodes_push [] k = omega arith
nodes_push (r ∷ radices) k = ap (λ n. r * n) (nodes_push radices k) ∙ sym (mul_assoc r (node_count radices) k)

-- a product of numbers from 1 on does not fall
fold-grows : (a : ℕ) (ks : List ℕ) → All (λ k. 1 ≤ k) ks → a ≤ fold ◌*◌ a ks
fold-grows a [] h = omega arith
fold-grows a (k ∷ ks) h =
    let one : 1 ≤ k = h 0 0 (omega arith) in
    let rest = fold-grows (a * k) ks (λ i d lt. h (suc i) d (omega arith)) in
    omega (arith, rest, mul-le a 1 a k (omega arith) one)

-- the first dimensions have no more nodes than all
pub nodes_front : (radices ks : List ℕ) → All (λ k. 1 ≤ k) ks → node_count (radices ++ ks) ≤ 256
    → node_count radices ≤ 256
nodes_front radices ks h few =
    omega (
      arith,
      counted (radices ++ ks),
      counted radices,
      fold-append ◌*◌ 1 radices ks,
      fold-grows (fold ◌*◌ 1 radices) ks h,
    )

-- one dimension more
pub nodes_more : (radices : List ℕ) (i : ℕ) → i < length radices → All (λ k. 1 ≤ k) radices
    → node_count radices ≤ 256 → (node_count (take (i + 1) radices) ≡ node_count (take i radices) * get_or radices i 0)
    × (node_count (take (i + 1) radices) ≤ 256)
nodes_more radices i lt h few =
    let rest = drop (i + 1) radices in
    let some : All (λ k. 1 ≤ k) rest =
    λ j d inside. rw get_or-drop (h (i + 1 + j) d (omega (arith, length-drop (i + 1) radices))) in
    let whole : node_count (take (i + 1) radices ++ rest) ≤ 256 =
    rw (take-append-drop (i + 1) radices) few in (
      sym (counted (take (i + 1) radices)) ∙ fold_more ◌*◌ 1 radices i 0 lt
          ∙ ap (λ n. n * get_or radices i 0) (counted (take i radices)),
      nodes_front (take (i + 1) radices) rest some whole,
    )

pub nodes_some : (radices : List ℕ) → All (IsBetween 2 16) radices → 1 ≤ node_count radices
nodes_some radices h =
    omega (arith, counted radices, fold-grows 1 radices (λ i d lt. omega (arith, (h i d lt).0)))
