-- The lowest channel of a port that owes a credit, from the lines of the port.
use Rattle.std.proofs.Common.{ℕ, ◌^◌, ◌≤◌, ◌<◌, ◌≡◌, ◌==◌, nat_lt, true, false, arith, sym, ap, subst, ◌∙◌, inl, inr}
use Rattle.std.specs.Int.{bit_at, trailing_zeros, w64}
use Rattle.std.proofs.lemmas.Bool.{cases_lt, eq-eqb}
use Rattle.std.proofs.lemmas.Nat.{pow_below}
use Rattle.std.proofs.lemmas.Nat.Bits.{bit_at_above, bit_at-trailing_zeros}
use Rattle.worm_vcalloc.specs.Arbiter.{line_requests}
use Rattle.worm_vcalloc.specs.ChannelSet.{has}
use Rattle.worm_router.specs.Router.{RouterState, terminal, width, input_at}
use Rattle.worm_router.specs.Busy.{IsSetOf, owes}

-- the lines of a port, a bit for each channel that owes
pub record AreLines (r : RouterState) (set port lines : ℕ) : Type 0 where
  pub owing : IsSetOf owes r set
  pub port_in : port ≤ terminal r
  pub few : lines < 2 ^ width r
  pub are : (k : ℕ) → k < width r → line_requests lines k ≡ has set port k
  pub few_channels : width r ≤ 8

-- the lines that were read of a router
pub lines_of : (r s : RouterState) (set port lines n : ℕ) → r ≡ s → IsSetOf owes s set → port ≤ terminal s → n ≡ width r
    → width r ≤ 8 → lines < 2 ^ n
    → ((k : ℕ) → k < n → line_requests lines k ≡ has set port k) → AreLines s set port lines
lines_of r s set port lines n same owing port_in all few fits are =
    let all_of : n ≡ width s = all ∙ ap width same in
    record {
      owing = owing;
      port_in = port_in;
      few = subst (λ m. lines < 2 ^ m) all_of fits;
      are = subst (λ m. (k : ℕ) → k < m → line_requests lines k ≡ has set port k) all_of are;
      few_channels = subst (λ (q : RouterState). width q ≤ 8) same few;
    }

owes_at : (r : RouterState) (set port lines k : ℕ) → AreLines r set port lines → k < width r → bit_at lines k ≡ 1
    → 0 < (input_at r port k).owed
owes_at r set port lines k l k_in bit =
    let e : nat_lt 0 (input_at r port k).owed ≡ true =
    sym (l.are k k_in ∙ l.owing.inside port k l.port_in k_in) ∙ eq-eqb (bit_at lines k) 1 bit in
    grind arith

owes_not : (r : RouterState) (set port lines k : ℕ) → AreLines r set port lines → k < width r → bit_at lines k ≡ 0
    → (input_at r port k).owed ≡ 0
owes_not r set port lines k l k_in bit =
    let e : nat_lt 0 (input_at r port k).owed ≡ false =
    sym (l.are k k_in ∙ l.owing.inside port k l.port_in k_in) ∙ ap (λ b. b == 1) bit in
    grind arith

pub none_owing : (r : RouterState) (set port lines k : ℕ) → AreLines r set port lines → lines ≡ 0 → k < width r
    → (input_at r port k).owed ≡ 0
none_owing r set port lines k l none k_in =
    owes_not r set port lines k l k_in (ap (λ n. bit_at n k) none ∙ bit_at_above 0 0 k (omega arith) (omega arith))

pub lowest_in : (r : RouterState) (set port lines : ℕ) → AreLines r set port lines → 0 < lines
    → trailing_zeros w64 lines < width r
lowest_in r set port lines l some =
    let few_channels = l.few_channels in
    let fits : 2 ^ width r < 2 ^ 64 = pow_below (width r) 64 (omega arith) in
    let lowest = bit_at-trailing_zeros w64 lines some (let few = l.few in omega arith) in
    elim (cases_lt (trailing_zeros w64 lines) (width r)) [
      | inl below ↦ below
      | inr above ↦ let none = bit_at_above lines (width r) (trailing_zeros w64 lines) l.few above in
          absurd (omega (arith, lowest.1))
    ]

pub lowest_owes : (r : RouterState) (set port lines : ℕ) → AreLines r set port lines → 0 < lines
    → 0 < (input_at r port (trailing_zeros w64 lines)).owed
lowest_owes r set port lines l some =
    let few_channels = l.few_channels in
    let fits : 2 ^ width r < 2 ^ 64 = pow_below (width r) 64 (omega arith) in
    let lowest = bit_at-trailing_zeros w64 lines some (let few = l.few in omega arith) in
    owes_at r set port lines (trailing_zeros w64 lines) l (lowest_in r set port lines l some) lowest.1

pub lower_owe_not : (r : RouterState) (set port lines : ℕ) → AreLines r set port lines → 0 < lines → (k : ℕ)
    → k < trailing_zeros w64 lines → (input_at r port k).owed ≡ 0
lower_owe_not r set port lines l some k below =
    let few_channels = l.few_channels in
    let fits : 2 ^ width r < 2 ^ 64 = pow_below (width r) 64 (omega arith) in
    let lowest = bit_at-trailing_zeros w64 lines some (let few = l.few in omega arith) in
    let within = lowest_in r set port lines l some in
    owes_not r set port lines k l (omega arith) (lowest.2 k below)
