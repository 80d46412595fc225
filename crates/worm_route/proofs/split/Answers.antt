-- one less than a power of two is the mask of all below it
use Rattle.std.proofs.Common.{◌≡◌, ◌-◌, ◌^◌, ◌%◌, bit_and, arith, subst}
use Rattle.std.specs.Int.{trailing_zeros, w8}
use Rattle.std.proofs.lemmas.Nat.{and_mask, one_shl}
use Rattle.std.proofs.lemmas.Nat.Bits.{bit_at-trailing_zeros}
use Rattle.worm_route.proofs.split.Goals as goal

pub returns-then-bits-radix-clause-digit : goal.returns-then-bits-radix-clause-digit
returns-then-bits-radix-clause-digit c =
    let within = bit_at-trailing_zeros w8 c.args.radix c.requires c.ranges.radix.fits in
    let power : 2 ^ trailing_zeros w8 c.args.radix ≡ c.args.radix =
    omega (arith, one_shl (trailing_zeros w8 c.args.radix) 8 within.0) in
    subst (λ n. bit_and c.args.address (n - 1) ≡ c.args.address % n) power
    (and_mask c.args.address (trailing_zeros w8 c.args.radix))
