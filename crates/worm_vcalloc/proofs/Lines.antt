-- Lemmas on the lines of input channels, and on shifted rows.
use Rattle.std.proofs.Common.{◌≡◌, ℕ, suc, ◌+◌, ◌*◌, ◌/◌, ◌%◌, ◌^◌, ◌<◌, ◌≤◌, ◌-◌}
use Rattle.std.proofs.Common.{ap, ◌∙◌, arith, pow_pos}
use Rattle.std.specs.Int.{bit_at}
use Rattle.std.proofs.lemmas.Nat.{div-mul-add, mod-mul-add, mul-le}
use Rattle.std.proofs.lemmas.Nat.Bits.{bit_at_cat_low}
use Rattle.std.proofs.lemmas.Nat.Bits.{bit_at_cat_high, bit_at-zero}
use Rattle.std.proofs.Math.Nat.{div-lt_iff_lt-mul, mod-lt}
use Rattle.worm_vcalloc.specs.Places.{line_of}

-- the bits of a row that is shifted
pub shifted_low : (row n i : ℕ) → i < n → bit_at (row * 2 ^ n) i ≡ 0
shifted_low row n i below = ap (λ m. bit_at m i) (omega arith) ∙ bit_at_cat_low row n 0 i below ∙ bit_at-zero i

pub shifted_high : (row n i : ℕ) → n ≤ i → bit_at (row * 2 ^ n) i ≡ bit_at row (i - n)
shifted_high row n i above = let some = pow_pos n in
    ap (λ m. bit_at m i) (omega arith) ∙ bit_at_cat_high row n 0 i (omega arith) above

-- what a function of a place says at the line of the place
pub at_line : {X : Type 0} (f : ℕ → ℕ → X) (row width column : ℕ) → column < width
    → f ((row * width + column) / width) ((row * width + column) % width) ≡ f row column
at_line f row width column within =
    ap (λ i. f i ((row * width + column) % width)) (div-mul-add row width column within)
    ∙ ap (λ j. f row j) (mod-mul-add row width column within)

-- a line of the arbiters stands for an input channel
pub line_within : (ports vcs port vc : ℕ) → port < ports → vc < vcs → port * vcs + vc < ports * vcs
line_within ports vcs port vc lp lv =
    let most : suc port * vcs ≤ ports * vcs = mul-le (suc port) vcs ports vcs lp (omega arith) in
    let next : suc port * vcs ≡ port * vcs + vcs = omega arith in
    omega arith

-- and each line for one
pub line_port : (ports vcs line : ℕ) → 0 < vcs → line < ports * vcs
    → (line / vcs < ports) × (line % vcs < vcs)
line_port ports vcs line some l = ((div-lt_iff_lt-mul some).1 l, mod-lt line some)

-- the line of a place that is named by port and channel
pub line_of_place : (vcs port vc : ℕ) → vc < 8 → line_of vcs (8 * port + vc) ≡ port * vcs + vc
line_of_place vcs port vc within =
    let p : (8 * port + vc) / 8 ≡ port = omega arith in
    let v : (8 * port + vc) % 8 ≡ vc = omega arith in
    ap (λ k. k * vcs + (8 * port + vc) % 8) p ∙ ap (λ k. port * vcs + k) v
