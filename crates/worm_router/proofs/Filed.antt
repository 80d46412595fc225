-- What filing one channel leaves of the sets of busy channels.
use Rattle.std.proofs.Common.{ℕ, ◌+◌, ◌*◌, ◌≤◌, ◌<◌, ◌≡◌, ◌==◌, List, length, slice_set, slice_index_or, replicate}
use Rattle.std.proofs.Common.{Bool, ◌⊎◌, ◌&&◌, ◌||◌, not, nat_lt}
use Rattle.std.proofs.Common.{true, false, None, arith, inl, inr, refl, sym, ap, subst, ◌∙◌}
use Rattle.std.proofs.lemmas.Grind.{get_or-set_at}
use Rattle.std.proofs.lemmas.Bool.{cases_eq, eq-eqb, ne_eqb, lt-ltb, le-ltb}
use Rattle.std.proofs.Math.Bool.{and-true, and-false}
use Rattle.std.proofs.lemmas.Nat.{same_from_place, mul-add-lt}
use Rattle.std.proofs.lemmas.List.{get_or-set_other, get_or-replicate}
use Rattle.worm_vcalloc.specs.ChannelSet.{has, IsPut}
use Rattle.worm_vcalloc.proofs.SetMembers.{has-zero}
use Rattle.worm_router.specs.declared.busy.BusyChannels.{BusyChannels}
use Rattle.worm_router.specs.Router.{ChannelState, RouterState, terminal, width, fresh_channel}
use Rattle.worm_router.proofs.Places.{IsInput, same_at}
use Rattle.worm_router.specs.Busy.{IsSetIn, IsFiled, AreBusy, is_occupied, owes}

pub filed : (old new port vc : ℕ) (within : Bool) → IsPut old new port vc within → IsFiled old new port vc within
filed old new port vc within put = record { here = put.here; elsewhere = put.elsewhere }

-- one set
pub set_filed : (test : ChannelState → Bool) (t w depth : ℕ) (inputs : List ChannelState) (old new port vc i : ℕ)
    (c : ChannelState)
    → IsSetIn test t w depth inputs old → IsFiled old new port vc (test c) → t ≤ 6 → w ≤ 8
    → port ≤ t → vc < w → i ≡ port * w + vc → i < length inputs
    → IsSetIn test t w depth (slice_set inputs i c) new
set_filed test t w depth inputs old new port vc i c sound put few_ports few_channels port_in vc_in place within =
    record {
      inside = λ p v p_in v_in. elim (cases_eq (p * w + v) i) [
        | inl same ↦
            let at = same_from_place p v port vc w v_in vc_in (same ∙ place) in
            ap (λ k. has new k v) at.0 ∙ ap (λ k. has new port k) at.1 ∙ put.here
            ∙ ap test (sym (get_or-set_at inputs i (p * w + v) c (fresh_channel depth) same within))
        | inr other ↦
            put.elsewhere p v (omega arith) (omega arith)
            (λ a b. other (ap (λ k. k * w + v) a ∙ ap (λ k. port * w + k) b ∙ sym place))
            ∙ sound.inside p v p_in v_in
            ∙ ap test (sym (get_or-set_other inputs i (p * w + v) c (fresh_channel depth) other))
      ];
      outside = λ p v p_in v_in is. elim (cases_eq (p * w + v) i) [
        | inl same ↦ elim (cases_eq p port) [
          | inl a ↦ elim (cases_eq v vc) [
            | inl b ↦ (omega arith, omega arith)
            | inr ne ↦ sound.outside p v p_in v_in (sym (put.elsewhere p v p_in v_in (λ a b. ne b)) ∙ is)
          ]
          | inr ne ↦ sound.outside p v p_in v_in (sym (put.elsewhere p v p_in v_in (λ a b. ne a)) ∙ is)
        ]
        | inr other ↦ sound.outside p v p_in v_in
            (sym (put.elsewhere p v p_in v_in (λ a b. other
            (ap (λ k. k * w + v) a ∙ ap (λ k. port * w + k) b ∙ sym place)))
            ∙ is)
      ];
    }

-- a set of a test that the channel passes as before
pub set_kept : (test : ChannelState → Bool) (t w depth : ℕ) (inputs : List ChannelState) (set i : ℕ)
    (had now : ChannelState)
    → IsSetIn test t w depth inputs set → i < length inputs → had ≡ slice_index_or inputs i (fresh_channel depth)
    → test now ≡ test had
    → IsSetIn test t w depth (slice_set inputs i now) set
set_kept test t w depth inputs set i had now sound within was same = record {
  inside = λ p v p_in v_in. sound.inside p v p_in v_in
      ∙ sym (same_at test inputs i (p * w + v) now (fresh_channel depth) within (same ∙ ap test was));
  outside = sound.outside;
}

-- whether a set has a channel that was read
pub inside_of : (test : ChannelState → Bool) (r : RouterState) (port vc i set : ℕ) (had : ChannelState)
    → IsInput r port vc i had
    → IsSetIn test (terminal r) (width r) r.depth r.inputs set → has set port vc ≡ test had
inside_of test r port vc i set had input is =
    is.inside port vc input.place.port_in input.place.channel_in
    ∙ ap test (sym (input.was ∙ ap (λ k. slice_index_or r.inputs k (fresh_channel r.depth)) input.at))

-- what owed, and has given one, owes still where its count is not zero
pub owes_still : (owed : ℕ) (owing : Bool) → owing ≡ true → (owing && not (owed == 0)) ≡ nat_lt 0 owed
owes_still owed owing e = elim (cases_eq owed 0) [
  | inl none ↦
      ap (λ b. owing && not b) (eq-eqb owed 0 none) ∙ and-false owing ∙ sym (le-ltb 0 owed (omega arith))
  | inr some ↦
      ap (λ b. owing && not b) (ne_eqb owed 0 some) ∙ and-true owing ∙ e ∙ sym (lt-ltb 0 owed (omega arith))
]

-- what owes more owes, whether it did before or not
pub owes_more : (owed more : ℕ) (owing : Bool) → owing ≡ nat_lt 0 owed
    → (owing || nat_lt 0 more) ≡ nat_lt 0 (owed + more)
owes_more owed more owing e = elim (cases_eq owed 0) [
  | inl none ↦
      let all : more ≡ owed + more = omega (arith, none) in
      ap (λ b. b || nat_lt 0 more) (e ∙ ap (nat_lt 0) none) ∙ ap (nat_lt 0) all
  | inr some ↦
      ap (λ b. b || nat_lt 0 more) (e ∙ lt-ltb 0 owed (omega arith)) ∙ sym (lt-ltb 0 (owed + more) (omega arith))
]

-- a set is filed anew at the channel, or the channel passes its test as before
abbrev pub IsFiledBy : (ChannelState → Bool) → ℕ → ℕ → ℕ → ℕ → ChannelState → ChannelState → Type 0
IsFiledBy test old new port vc had now = IsFiled old new port vc (test now) ⊎ ((new ≡ old) × (test now ≡ test had))

set_by : (test : ChannelState → Bool) (r : RouterState) (old new port vc i : ℕ) (had now : ChannelState)
    → IsInput r port vc i had
    → terminal r ≤ 6 → width r ≤ 8 → IsSetIn test (terminal r) (width r) r.depth r.inputs old
    → IsFiledBy test old new port vc had now
    → IsSetIn test (terminal r) (width r) r.depth (slice_set r.inputs i now) new
set_by test r old new port vc i had now input few_ports few_channels sound (inl put) =
    set_filed test (terminal r) (width r) r.depth r.inputs old new port vc i now sound put few_ports few_channels
    input.place.port_in input.place.channel_in input.at input.within
set_by test r old new port vc i had now input few_ports few_channels sound (inr kept) =
    subst (IsSetIn test (terminal r) (width r) r.depth (slice_set r.inputs i now)) (sym kept.0)
    (set_kept test (terminal r) (width r) r.depth r.inputs old i had now sound input.within input.was kept.1)

pub busy_filed : (r : RouterState) (old new : BusyChannels) (port vc i : ℕ) (had now : ChannelState)
    → IsInput r port vc i had
    → AreBusy (terminal r) (width r) r.depth r.inputs old
    → IsFiledBy is_occupied old.occupied new.occupied port vc had now
    → IsFiledBy owes old.owing new.owing port vc had now
    → AreBusy (terminal r) (width r) r.depth (slice_set r.inputs i now) new
busy_filed r old new port vc i had now input sound occupied owing = record {
  few_ports = sound.few_ports;
  few_channels = sound.few_channels;
  occupied = set_by is_occupied r _ _ port vc i had now input sound.few_ports sound.few_channels sound.occupied
      occupied;
  owing = set_by owes r _ _ port vc i had now input sound.few_ports sound.few_channels sound.owing owing;
}

-- the same sets beside other marks
pub busy_as : (t w depth : ℕ) (inputs : List ChannelState) (old new : BusyChannels) → AreBusy t w depth inputs old
    → new.occupied ≡ old.occupied → new.owing ≡ old.owing
    → AreBusy t w depth inputs new
busy_as t w depth inputs old new sound occupied owing = record {
  few_ports = sound.few_ports;
  few_channels = sound.few_channels;
  occupied = subst (IsSetIn is_occupied t w depth inputs) (sym occupied) sound.occupied;
  owing = subst (IsSetIn owes t w depth inputs) (sym owing) sound.owing;
}

-- the empty set, where no channel passes
set_fresh : (test : ChannelState → Bool) (t w depth count : ℕ) (inputs : List ChannelState)
    → test (fresh_channel depth) ≡ false
    → inputs ≡ replicate count (fresh_channel depth) → count ≡ (t + 1) * w → IsSetIn test t w depth inputs 0
set_fresh test t w depth count inputs none all counted = record {
  inside = λ p v p_in v_in.
      let room = mul-add-lt p w v (t + 1) (omega arith) v_in in
      let within : p * w + v < count = omega arith in
      has-zero p v ∙ sym (rw (
        all,
        get_or-replicate count (p * w + v) (fresh_channel depth)
            (fresh_channel depth) within,
      ) none);
  outside = λ p v p_in v_in is. let no : true ≡ false = sym is ∙ has-zero p v in absurd (cc);
}

pub fresh_busy : (t w depth count : ℕ) (inputs : List ChannelState) (sets : BusyChannels) → t ≤ 6 → w ≤ 8
    → inputs ≡ replicate count (fresh_channel depth) → count ≡ (t + 1) * w
    → sets ≡ record {
      outs = replicate 7 (replicate 8 None);
      no_credit = 0;
      owes_all = 0;
      occupied = 0;
      owing = 0;
      full = 0;
    }
    → AreBusy t w depth inputs sets
fresh_busy t w depth count inputs sets few_ports few_channels all counted none = rw none record {
  few_ports = few_ports;
  few_channels = few_channels;
  occupied = set_fresh is_occupied t w depth count inputs refl all counted;
  owing = set_fresh owes t w depth count inputs refl all counted;
}
