-- A set of those channels of a router that pass a test: what a write of one input channel leaves of it.
use Rattle.std.proofs.Common.{◌≡◌, ℕ, ◌≤◌, Bool, slice_set, slice_index_or, inl, inr}
use Rattle.std.proofs.Common.{List, arith, ap, sym, ◌∙◌, refl, replicate, false, subst}
use Rattle.std.proofs.lemmas.Grind.{get_or-set_at}
use Rattle.std.proofs.lemmas.Bool.{cases_eq}
use Rattle.std.proofs.lemmas.Nat.{same_from_place}
use Rattle.std.proofs.lemmas.List.{get_or-set_other}
use Rattle.worm_records.specs.declared.OutRecord.{OutRecord}
use Rattle.worm_vcalloc.specs.ChannelSet.{has}
use Rattle.worm_vcalloc.proofs.SetMembers.{has-zero}
use Rattle.worm_router.specs.Router.{RouterState, ChannelState, IsPlace, terminal, width, line, fresh_channel, input_at}
use Rattle.worm_router.specs.Busy.{AreThose, IsFiled}
use Rattle.worm_router.proofs.NothingReady.{get_or-replicate_same}
use Rattle.worm_router.proofs.Places.{IsInput}

-- none, where all are fresh
pub fresh_those : (test : ℕ → ChannelState → Bool) (r : RouterState) (count : ℕ)
    → ((p : ℕ) → test p (fresh_channel r.depth) ≡ false)
    → r.inputs ≡ replicate count (fresh_channel r.depth) → AreThose test r 0
fresh_those test r count none all = record {
  each = λ p v p_in v_in. has-zero p v ∙ sym (none p) ∙ sym (ap (test p)
      (ap (λ (l : List ChannelState). slice_index_or l (line r p v) (fresh_channel r.depth)) all
      ∙ get_or-replicate_same count (line r p v) (fresh_channel r.depth)));
}

pub unfiled : (set port vc : ℕ) (within : Bool) → has set port vc ≡ within → IsFiled set set port vc within
unfiled set port vc within is = record { here = is; elsewhere = λ p c p_in c_in other. refl }

module _ (r : RouterState) (port vc i : ℕ) (had now : ChannelState) (input : IsInput r port vc i had)
    (few_ports : terminal r ≤ 6) (few_channels : width r ≤ 8) where
  abbrev written : List OutRecord → RouterState
  written outputs = record r { inputs = slice_set r.inputs i now; outputs = outputs }

  -- whether it passed the test
  those_of : (test : ℕ → ChannelState → Bool) (set : ℕ) → AreThose test r set → has set port vc ≡ test port had
  those_of test set those =
      those.each port vc input.place.port_in input.place.channel_in
      ∙ sym (ap (test port) (input.was ∙ ap (λ k. slice_index_or r.inputs k (fresh_channel r.depth)) input.at))

  -- the set changes at that channel alone, and all others pass the new test as they passed the old one
  pub those_filed : (was is : ℕ → ChannelState → Bool) (outputs : List OutRecord) (old new : ℕ)
      → IsFiled old new port vc (is port now)
      → ((p v : ℕ) → IsPlace r p v → ((line r p v ≡ i) → ⊥) → is p (input_at r p v) ≡ was p (input_at r p v))
      → AreThose was r old → AreThose is (written outputs) new
  those_filed was is outputs old new filed others those = record {
    each = λ p v p_in v_in. elim (cases_eq (line r p v) i) [
      | inl same ↦
          let at = same_from_place p v port vc (width r) v_in input.place.channel_in (same ∙ input.at) in
          ap (λ k. has new k v) at.0 ∙ ap (λ k. has new port k) at.1 ∙ filed.here
          ∙ sym (ap (λ k. is k now) at.0)
          ∙ sym (ap (is p) (get_or-set_at r.inputs i (line r p v) now (fresh_channel r.depth) same input.within))
      | inr other ↦
          filed.elsewhere p v (omega arith) (omega arith)
          (λ a b. other (ap (λ k. line r k v) a ∙ ap (λ k. line r port k) b ∙ sym input.at))
          ∙ those.each p v p_in v_in
          ∙ sym (others p v (record { port_in = p_in; channel_in = v_in }) other)
          ∙ sym (ap (is p) (get_or-set_other r.inputs i (line r p v) now (fresh_channel r.depth) other))
    ];
  }

  -- it passes the test as before
  pub those_stay : (test : ℕ → ChannelState → Bool) (outputs : List OutRecord) (old new : ℕ) → new ≡ old
      → test port now ≡ test port had → AreThose test r old → AreThose test (written outputs) new
  those_stay test outputs old new same passes those =
      those_filed test test outputs old new
      (subst (λ k. IsFiled old k port vc (test port now)) (sym same)
      (unfiled old port vc (test port now) (those_of test old those ∙ sym passes))) (λ p v _ _. refl) those
