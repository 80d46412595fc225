-- Lemmas on a walk over the ports of a set of channels.
use Rattle.std.proofs.Common.{◌≡◌, ℕ, ◌+◌, ◌<◌, ◌≤◌, false, refl, sym, ap, ◌∙◌, arith, inl, inr}
use Rattle.std.proofs.lemmas.Bool.{cases_eq, cases_lt, true≢false}
use Rattle.worm_vcalloc.specs.ChannelSet.{has, IsFirstPort}
use Rattle.worm_vcalloc.proofs.SetMembers.{has-zero}

-- the ports below n have come out of the set, and those from n on are in it as at first
pub record IsWalked (all left n ports : ℕ) : Type 0 where
  pub few : n ≤ ports
  pub gone : (p c : ℕ) → p < n → c < 8 → has left p c ≡ false
  pub kept : (p c : ℕ) → n ≤ p → p < ports → c < 8 → has left p c ≡ has all p c

pub walked_start : (all ports : ℕ) → IsWalked all all 0 ports
walked_start all ports = record { few = omega arith; gone = λ p c l _. absurd (omega arith); kept = λ p c _ _ _. refl }

-- the next port is none of those
pub walked_from : (all left left' n ports port : ℕ) → IsWalked all left n ports → IsFirstPort left left' port → n ≤ port
walked_from all left left' n ports port w f = elim (cases_lt port n) [
  | inl below ↦ absurd (true≢false (sym f.some_in.2 ∙ w.gone port f.some_in.0 below f.some_in.1))
  | inr above ↦ above
]

-- the ports that it passes over have nothing in the set
pub walked_over : (all left left' n ports port p c : ℕ) → IsWalked all left n ports → IsFirstPort left left' port
    → n ≤ p → p < port → p < ports → c < 8 → has all p c ≡ false
walked_over all left left' n ports port p c w f from below within lc =
    sym (w.kept p c from within lc) ∙ f.none_before p c below lc

-- after it
pub walked_more : (all left left' n ports port : ℕ) → IsWalked all left n ports → IsFirstPort left left' port
    → port < ports → ports ≤ 7 → IsWalked all left' (port + 1) ports
walked_more all left left' n ports port w f within few =
    let from = walked_from all left left' n ports port w f in
    record {
      few = omega arith;
      gone = λ p c l lc. elim (cases_eq p port) [
        | inl same ↦ ap (λ k. has left' k c) same ∙ f.taken c lc
        | inr other ↦ f.elsewhere p c (omega arith) lc other ∙ f.none_before p c (omega arith) lc
      ];
      kept = λ p c l l' lc. f.elsewhere p c (omega arith) lc (λ e. absurd (omega arith))
          ∙ w.kept p c (omega arith) l' lc;
    }

-- and in the end none is left
pub walked_all : (all left n ports p c : ℕ) → IsWalked all left n ports → left ≡ 0 → n ≤ p → p < ports → c < 8
    → has all p c ≡ false
walked_all all left n ports p c w e from within lc =
    sym (w.kept p c from within lc) ∙ ap (λ s. has s p c) e ∙ has-zero p c
