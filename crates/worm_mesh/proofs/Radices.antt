-- The limits on radices: what is stored is small, and what is refused is no mesh.
use Rattle.std.proofs.Common.{ℕ, ◌≡◌, ◌-◌, ◌*◌, ◌^◌, ◌<◌, ◌≤◌, List, take, drop, replicate, arith}
use Rattle.std.proofs.Common.{take-append-drop}
use Rattle.std.specs.Prelude.{All}
use Rattle.std.proofs.lemmas.Nat.{mul-le}
use Rattle.std.proofs.lemmas.List.Elements.{All-append, All-replicate, All-weaker}
use Rattle.worm_mesh.specs.Address.{IsRadix}

abbrev pub IsSmall : ℕ → Type 0
IsSmall k = (1 ≤ k) × (k ≤ 16)

pub small_stored : (xs : List ℕ) (dims : ℕ) → All IsRadix (take dims xs) → drop dims xs ≡ replicate (3 - dims) 1
    → All IsSmall xs
small_stored xs dims h e =
    let front : All IsSmall (take dims xs) =
    All-weaker IsRadix IsSmall (λ x p. (omega arith, omega arith)) (take dims xs) h in
    let back : All IsSmall (drop dims xs) = rw e (All-replicate IsSmall (3 - dims) 1 (omega arith, omega arith)) in
    rw take-append-drop at (All-append IsSmall (take dims xs) (drop dims xs) front back)

pub product_small : (a b c : ℕ) → a ≤ 16 → b ≤ 16 → c ≤ 16 → a * b * c < 2 ^ 16
product_small a b c p q r = omega (arith, mul-le a b 16 16 p q, mul-le (a * b) c 256 16 (mul-le a b 16 16 p q) r)
