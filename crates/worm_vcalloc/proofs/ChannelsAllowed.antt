-- Lemmas on an input channel that is filed for each channel that it allows.
use Rattle.std.proofs.Common.{◌≡◌, ℕ, ◌<◌, ◌||◌, ◌&&◌, Bool, true, false, not, List, slice_index_or, slice_set, length}
use Rattle.std.proofs.Common.{get_or-set_same, get_or-set_other, refl, sym, ap, ◌∙◌, inl, inr}
use Rattle.std.proofs.lemmas.Bool.{cases_eq, true≢false}
use Rattle.std.proofs.lemmas.List.{get_or_default}
use Rattle.worm_flit.specs.SmallSet as small
use Rattle.worm_vcalloc.specs.ChannelSet.{has, IsPut}

-- it is filed for each channel that it allows but those that are left
pub record AreAllowedBut (old new : List ℕ) (port vc allowed left : ℕ) : Type 0 where
  pub here : (channel : ℕ) → channel < 8 → has (slice_index_or new channel 0) port vc
      ≡ (has (slice_index_or old channel 0) port vc || (small.has allowed channel && not (small.has left channel)))
  pub elsewhere : (channel p v : ℕ) → channel < 8 → p < 7 → v < 8 → ((p ≡ port) → (v ≡ vc) → ⊥)
      → has (slice_index_or new channel 0) p v ≡ has (slice_index_or old channel 0) p v
  pub kept : (channel : ℕ) → channel < 8 → small.has left channel ≡ true → small.has allowed channel ≡ true

or_both : (b a l : Bool) → a ≡ true → l ≡ false → true ≡ (b || (a && not l))
or_both true a l e e' = refl
or_both false true false e e' = refl
or_both false false l e e' = absurd (cc)
or_both false true true e e' = absurd (cc)

-- it is put into the set of the first channel that is left
pub allowed_more : (old new : List ℕ) (port vc allowed left left' channel d set : ℕ)
    → AreAllowedBut old new port vc allowed left → small.IsFirst left left' channel → channel < length new
    → IsPut (slice_index_or new channel d) set port vc true
    → AreAllowedBut old (slice_set new channel set) port vc allowed left'
allowed_more old new port vc allowed left left' channel d set b f long put = record {
  here = λ k below. elim (cases_eq k channel) [
    | inl same ↦
        ap (λ i. has (slice_index_or (slice_set new channel set) i 0) port vc) same
        ∙ ap (λ s. has s port vc) (get_or-set_same new channel set 0 long) ∙ put.here
        ∙ or_both (has (slice_index_or old k 0) port vc) (small.has allowed k) (small.has left' k)
        (b.kept k below (ap (small.has left) same ∙ f.was_in)) (ap (small.has left') same ∙ f.taken.here)
    | inr other ↦
        ap (λ s. has s port vc) (get_or-set_other new channel k set 0 other) ∙ b.here k below
        ∙ ap (λ l. has (slice_index_or old k 0) port vc || (small.has allowed k && not l))
        (sym (f.taken.elsewhere k below other))
  ];
  elsewhere = λ k p v below lp lv apart. elim (cases_eq k channel) [
    | inl same ↦
        ap (λ i. has (slice_index_or (slice_set new channel set) i 0) p v) same
        ∙ ap (λ s. has s p v) (get_or-set_same new channel set 0 long) ∙ put.elsewhere p v lp lv apart
        ∙ ap (λ s. has s p v) (sym (get_or_default new channel 0 d long))
        ∙ ap (λ i. has (slice_index_or new i 0) p v) (sym same) ∙ b.elsewhere k p v below lp lv apart
    | inr other ↦ ap (λ s. has s p v) (get_or-set_other new channel k set 0 other)
        ∙ b.elsewhere k p v below lp lv apart
  ];
  kept = λ k below e. elim (cases_eq k channel) [
    | inl same ↦ absurd (true≢false (sym e ∙ ap (small.has left') same ∙ f.taken.here))
    | inr other ↦ b.kept k below (sym (f.taken.elsewhere k below other) ∙ e)
  ];
}
