-- A number in four columns.
use Rattle.std.proofs.Common.{◌≡◌, ◌==◌, ◌-◌, ℕ, false, List, [], ◌∷◌, length, refl, arith}
use Rattle.std.proofs.lemmas.List.{append-nil}
use Rattle.std.specs.List.{repeat}
use Rattle.std.specs.Char.{encode_utf8}
use Rattle.std.specs.Fmt.{char_count, decimal, format_spec, padded_integral, styled_decimal}
use Rattle.worm_picture.specs.Map.{count_text}

pub in_four_columns : (n : ℕ) → (n ≡ 0 → ⊥)
    → styled_decimal (format_spec 32 3 0 4 18446744073709551615) n ≡ count_text n
unfolding padded_integral char_count encode_utf8
in_four_columns n some =
    let other : n == 0 ≡ false = grind (arith, some) in
    let front : 4 - length (decimal n) - 0 - 0 ≡ 4 - length (decimal n) = omega arith in
    let behind : 4 - length (decimal n) - (4 - length (decimal n)) ≡ 0 = omega arith in
    let spaces : List ℕ = repeat {A = ℕ} (4 - length (decimal n)) (32 ∷ []) in
    rw (
      other,
      front,
      behind,
      append-nil (decimal n),
      append-nil spaces,
      append-nil spaces,
      append-nil spaces,
    ) refl
