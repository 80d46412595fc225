-- The port of a route by the lowest digits of its ends.
use Rattle.std.proofs.Common.{ℕ, ◌≡◌, ◌+◌, ◌%◌, ◌<◌, true, false, List, [], ◌∷◌, length, cond, nat_lt}
use Rattle.std.proofs.Common.{◌==◌, ◌≤◌, ◌/◌, suc, arith, ap, sym, ◌∙◌}
use Rattle.std.proofs.lemmas.Bool.Decides.{nat_tests}
use Rattle.std.proofs.Math.Nat.{mod-eq_of_lt, mod_self, suc-mod}
use Rattle.worm_mesh.specs.Address.{address_of, digit_of}
use Rattle.worm_route.specs.Route.{port_from, port_of}

-- where the lowest digits differ, the route goes through dimension 0, up where that of the destination is above
port_by : (ks : List ℕ) (here dst : ℕ) → 0 < length ks → (digit_of ks here 0 == digit_of ks dst 0) ≡ false
    → port_of ks here dst ≡ cond (nat_lt (digit_of ks here 0) (digit_of ks dst 0)) 1 0
port_by [] here dst some unlike = absurd (omega (arith, some))
port_by (k ∷ ks) here dst some unlike =
    ap (λ b. cond b (port_from 2 (address_of ks (here / k)) (address_of ks (dst / k)))
    (cond (nat_lt (here % k) (dst % k)) 1 0)) unlike

pub port_up : (ks : List ℕ) (here dst own lowest : ℕ) → 0 < length ks → own ≡ digit_of ks here 0
    → lowest ≡ digit_of ks dst 0 → own < lowest → 1 ≡ port_of ks here dst
port_up ks here dst own lowest some mine its below =
    let unlike : (digit_of ks here 0 == digit_of ks dst 0) ≡ false = grind (arith, nat_tests) in
    let up : nat_lt (digit_of ks here 0) (digit_of ks dst 0) ≡ true = grind (arith, nat_tests) in
    sym (port_by ks here dst some unlike ∙ ap (λ b. cond b 1 0) up)

pub port_down : (ks : List ℕ) (here dst own lowest : ℕ) → 0 < length ks → own ≡ digit_of ks here 0
    → lowest ≡ digit_of ks dst 0 → (lowest ≡ own → ⊥) → lowest ≤ own → 0 ≡ port_of ks here dst
port_down ks here dst own lowest some mine its other above =
    let unlike : (digit_of ks here 0 == digit_of ks dst 0) ≡ false = grind (arith, nat_tests) in
    let down : nat_lt (digit_of ks here 0) (digit_of ks dst 0) ≡ false = grind (arith, nat_tests) in
    sym (port_by ks here dst some unlike ∙ ap (λ b. cond b 1 0) down)

add_one : (n radix : ℕ) → (n % radix + 1) % radix ≡ (n + 1) % radix
add_one n radix =
    let here : suc n ≡ n + 1 = omega arith in
    let there : suc (n % radix) ≡ n % radix + 1 = omega arith in
    sym (ap (λ k. k % radix) there) ∙ sym (suc-mod n radix) ∙ ap (λ k. k % radix) here

-- the lowest digit is counted on, and starts anew past the last
pub counted : (n digit radix : ℕ) → digit ≡ n % radix → digit + 1 < radix → digit + 1 ≡ (n + 1) % radix
counted n digit radix here more =
    sym (mod-eq_of_lt more) ∙ ap (λ k. (k + 1) % radix) here ∙ add_one n radix

pub started : (n digit radix : ℕ) → digit ≡ n % radix → digit < radix → radix ≤ digit + 1 → 0 ≡ (n + 1) % radix
started n digit radix here within top =
    let whole : digit + 1 ≡ radix = omega (arith, within, top) in
    sym (ap (λ k. k % radix) whole ∙ mod_self radix) ∙ ap (λ k. (k + 1) % radix) here ∙ add_one n radix
