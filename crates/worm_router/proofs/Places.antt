-- One input channel or one output channel of a router that is written, and what that leaves of all others.
use Rattle.std.proofs.Common.{ℕ, ◌<◌, ◌≡◌, List, length, slice_set, get_or, inl, inr, sym, subst, ap, ◌∙◌}
use Rattle.std.proofs.lemmas.Grind.{get_or-set_at}
use Rattle.std.proofs.lemmas.Bool.{cases_eq}
use Rattle.std.proofs.lemmas.List.{get_or-set_other, get_or_default}
use Rattle.worm_records.specs.declared.OutRecord.{OutRecord}
use Rattle.worm_router.specs.Router.{RouterState, ChannelState, IsPlace, line, fresh_channel, free_output, output_at}

-- the input channel of a place, as it was read
pub record IsInput (r : RouterState) (port vc i : ℕ) (had : ChannelState) : Type 0 where
  pub place : IsPlace r port vc
  pub at : i ≡ line r port vc
  pub within : i < length r.inputs
  pub was : had ≡ get_or r.inputs i (fresh_channel r.depth)

-- the output channel of a place, as it was read
pub record IsOutput (r : RouterState) (out vc o : ℕ) (had : OutRecord) : Type 0 where
  pub place : IsPlace r out vc
  pub at : o ≡ line r out vc
  pub within : o < length r.outputs
  pub was : had ≡ get_or r.outputs o (free_output r.depth)

pub input_of : (r s : RouterState) (port vc i : ℕ) (had : ChannelState) → r ≡ s → IsPlace s port vc → i ≡ line s port vc
    → i < length s.inputs
    → had ≡ get_or r.inputs i had → IsInput r port vc i had
input_of r s port vc i had same place at within read =
    let here : i < length r.inputs = subst (λ (q : RouterState). i < length q.inputs) (sym same) within in
    record {
      place = subst (λ (q : RouterState). IsPlace q port vc) (sym same) place;
      at = at ∙ ap (λ (q : RouterState). line q port vc) (sym same);
      within = here;
      was = read ∙ get_or_default r.inputs i had (fresh_channel r.depth) here;
    }

pub output_of : (r s : RouterState) (out vc o : ℕ) (had : OutRecord) → r ≡ s → IsPlace s out vc → o ≡ line s out vc
    → o < length s.outputs
    → had ≡ get_or r.outputs o had → IsOutput r out vc o had
output_of r s out vc o had same place at within read =
    let here : o < length r.outputs = subst (λ (q : RouterState). o < length q.outputs) (sym same) within in
    record {
      place = subst (λ (q : RouterState). IsPlace q out vc) (sym same) place;
      at = at ∙ ap (λ (q : RouterState). line q out vc) (sym same);
      within = here;
      was = read ∙ get_or_default r.outputs o had (free_output r.depth) here;
    }

-- an output channel that was read at a place
pub output_read : (r s : RouterState) (out vc o : ℕ) (had : OutRecord) → r ≡ s → had ≡ get_or r.outputs o had
    → o ≡ line s out vc → o < length s.outputs → had ≡ output_at s out vc
output_read r s out vc o had same read at within =
    read ∙ ap (λ (q : RouterState). get_or q.outputs o had) same
    ∙ get_or_default s.outputs o had (free_output s.depth) within
    ∙ ap (λ k. get_or s.outputs k (free_output s.depth)) at

-- what a write leaves as it was at its own place, it leaves so at all places
pub same_at : {A B : Type 0} (h : A → B) (l : List A) (i j : ℕ) (x d : A) → i < length l → h x ≡ h (get_or l i d)
    → h (get_or (slice_set l i x) j d) ≡ h (get_or l j d)
same_at h l i j x d within same = elim (cases_eq j i) [
  | inl e ↦ ap h (get_or-set_at l i j x d e within) ∙ same ∙ ap (λ k. h (get_or l k d)) (sym e)
  | inr ne ↦ ap h (get_or-set_other l i j x d ne)
]
