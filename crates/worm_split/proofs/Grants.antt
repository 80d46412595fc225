-- What a pass of the switch allocator grants: each grant is of a channel that holds a channel of the port granted, and
-- no port is granted to two others.
use Rattle.std.proofs.Common.{◌≡◌, ◌≢◌, ℕ, ◌&&◌, Bool, true, false, nat_lt, if◌then◌else◌, inl, inr, List, []}
use Rattle.std.proofs.Common.{Option, Some, None, refl, sym, ap, ◌∙◌}
use Rattle.std.specs.Prelude.{replicate, slice_index_or}
use Rattle.std.specs.Option.{option_map}
use Rattle.std.proofs.lemmas.Bool.{cases_lt, eqb-true}
use Rattle.worm_flit.specs.declared.Flit.{Flit}
use Rattle.worm_records.specs.declared.InRecord.{InRecord}
use Rattle.worm_records.specs.declared.InRecord.TheVariants.{Active}
use Rattle.worm_vcalloc.specs.Table.{cell}
use Rattle.worm_swalloc.specs.declared.grant.SwGrant.{SwGrant}
use Rattle.worm_swalloc.specs.Front.{with_front}
use Rattle.worm_swalloc.specs.SwAlloc.{SwAllocState, all_named, chosen, granted, if_chosen, is_line, named}
use Rattle.worm_swalloc.specs.SwAlloc.{named_channel, request_of}
use Rattle.worm_swalloc.proofs.FrontGiven.{slice_index_or-with_front_below, slice_index_or-with_front_past}
use Rattle.worm_swalloc.proofs.SwitchPass.{get_or-replicate_same}
use Rattle.worm_router.specs.Allocation.{ready_at, ready_outs, switch_grants}
use Rattle.worm_router.specs.Router.{RouterState, IsPlace, after_leaving, input_at, leaving, let_out, owed_for}
use Rattle.worm_router.proofs.TableRows.{cell_has}
use Rattle.worm_router.proofs.Laws.{input_at-other}
use Rattle.worm_router.proofs.Leaving.{leaves_by_state}

-- the channel of the grant holds a channel of the port that it is granted
pub record IsHolding (r : RouterState) (p : ℕ) (g : SwGrant) : Type 0 where
  pub place : IsPlace r p g.vc
  pub channel : ℕ
  pub active : (input_at r p g.vc).state ≡ Active g.out channel

-- what it lets out leaves by that port
pub leaves_by : (r : RouterState) (p : ℕ) (g : SwGrant) (d : ℕ × Flit) → IsHolding r p g →
    leaving r p g.vc ≡ Some d → d.0 ≡ g.out
leaves_by r p g d holding is =
    let by : (input_at r p g.vc).state ≡ Active d.0 d.1.vc =
    leaves_by_state r p (input_at r p g.vc) (input_at r p g.vc).state (input_at r p g.vc).buffer d is in
    let same : ◌≡◌ {A = InRecord} (Active d.0 d.1.vc) (Active g.out holding.channel) = sym by ∙ holding.active in
    cc

-- and goes on to, whatever left by another port
pub holding_still : (r : RouterState) (p v : ℕ) (d : Option (ℕ × Flit)) (q : ℕ) (g : SwGrant) → IsPlace r p v → q ≢ p →
    IsHolding r q g → IsHolding (after_leaving r p v d) q g
holding_still r p v None q g here away holding = holding
holding_still r p v (Some d) q g here away holding =
    record {
      place = record { port_in = holding.place.port_in; channel_in = holding.place.channel_in };
      channel = holding.channel;
      active = ap (λ c. c.state)
          (input_at-other r p v q g.vc (let_out (input_at r p v) d.1 (owed_for r p)) here holding.place (inl away))
          ∙ holding.active;
    }

-- what the front of a list of nothing has
front_has : {X : Type 0} (n : ℕ) (f : ℕ → Option X) (p : ℕ) (x : X) →
    slice_index_or (with_front n f (replicate 7 None)) p None ≡ Some x → f p ≡ Some x
front_has {X} n f p x is = elim (cases_lt p n) [
  | inl below ↦ sym (slice_index_or-with_front_below n p f (replicate 7 None) None below) ∙ is
  | inr past ↦
      let none : ◌≡◌ {A = Option X} None (Some x) =
      sym (get_or-replicate_same 7 p None)
      ∙ (sym (slice_index_or-with_front_past n p f (replicate 7 None) None past) ∙ is) in
      absurd (cc)
]

line_is : (o : Option ℕ) (p : ℕ) → is_line o p ≡ true → o ≡ Some p
line_is None p e = absurd (cc)
line_is (Some q) p e = ap (λ (n : ℕ). Some n) (eqb-true q p e)

-- a granted request was made, and its port chose it
chosen_of : (s : SwAllocState) (requests : List (Option SwGrant)) (n p : ℕ) (o : Option SwGrant) (g : SwGrant) →
    if_chosen s requests n p o ≡ Some g → (o ≡ Some g) × (chosen s requests g.out ≡ Some p)
chosen_of s requests n p None g e = absurd (cc)
chosen_of s requests n p (Some h) g e =
    by_tests (nat_lt h.out n) (is_line (chosen s requests h.out) p) refl e where
      by_tests : (a b : Bool) → is_line (chosen s requests h.out) p ≡ b → (if a && b then Some h else None) ≡ Some g →
          (Some h ≡ Some g) × (chosen s requests g.out ≡ Some p)
      by_tests true true line is =
          let same : h ≡ g = cc in
          (is, ap (λ (k : SwGrant). chosen s requests k.out) (sym same) ∙ line_is (chosen s requests h.out) p line)
      by_tests true false line is = absurd (cc)
      by_tests false b line is = absurd (cc)

-- a request names the output port of its channel
request_has : (row : List (Option ℕ)) (v : Option ℕ) (g : SwGrant) → request_of row v ≡ Some g →
    slice_index_or row g.vc None ≡ Some g.out
request_has row None g e = absurd (cc)
request_has row (Some v) g e = by_row (slice_index_or row v None) refl e where
  by_row : (o : Option ℕ) → slice_index_or row v None ≡ o →
      option_map (λ (out : ℕ). record { vc = v; out = out }) o ≡ Some g → slice_index_or row g.vc None ≡ Some g.out
  by_row None at is = absurd (cc)
  by_row (Some out) at is =
      let made : SwGrant = record { vc = v; out = out } in
      let same : ◌≡◌ {A = SwGrant} made g = cc in
      ap (λ (h : SwGrant). slice_index_or row h.vc None) (sym same) ∙ (at ∙ ap (λ (h : SwGrant). Some h.out) same)

-- what leaves at a place of the router
ready_holds : (r : RouterState) (p v out : ℕ) → cell (ready_outs r) p v None ≡ Some out →
    IsPlace r p v × ((channel : ℕ) × ((input_at r p v).state ≡ Active out channel))
ready_holds r p v out =
    cell_has (λ (o : Option ℕ). o ≡ Some out
    → IsPlace r p v × ((channel : ℕ) × ((input_at r p v).state ≡ Active out channel)))
    r None (ready_at r) p v (λ none. absurd (cc)) (λ place is. (place, held (leaving r p v) refl is)) where
      held : (o : Option (ℕ × Flit)) → leaving r p v ≡ o → option_map (λ (d : ℕ × Flit). d.0) o ≡ Some out →
          (channel : ℕ) × ((input_at r p v).state ≡ Active out channel)
      held None at is = absurd (cc)
      held (Some d) at is =
          let same : d.0 ≡ out = cc in (
            d.1.vc,
            leaves_by_state r p (input_at r p v) (input_at r p v).state (input_at r p v).buffer d at
                ∙ ap (λ (o : ℕ). Active o d.1.vc) same,
          )

module _ (r : RouterState) where
  asked_of : (p : ℕ) (g : SwGrant) → slice_index_or (switch_grants r) p None ≡ Some g →
      (slice_index_or (all_named r.switch_alloc (ready_outs r)) p None ≡ Some g)
      × (chosen r.switch_alloc (all_named r.switch_alloc (ready_outs r)) g.out ≡ Some p)
  asked_of p g is =
      let s = r.switch_alloc in
      let requests = all_named s (ready_outs r) in
      chosen_of s requests s.ports p (slice_index_or requests p None) g
      (front_has s.ports (granted s requests s.ports) p g is)

  pub grants_hold : (p : ℕ) (g : SwGrant) → slice_index_or (switch_grants r) p None ≡ Some g → IsHolding r p g
  grants_hold p g is =
      let s = r.switch_alloc in
      let ready = ready_outs r in
      let asks : named s ready p ≡ Some g = front_has s.ports (named s ready) p g (asked_of p g is).0 in
      let at = request_has (slice_index_or ready p []) (named_channel s ready p) g asks in
      let held = ready_holds r p g.vc g.out at in
      record { place = held.0; channel = held.1.0; active = held.1.1 }

  pub granted_once : (p q : ℕ) (g h : SwGrant) → slice_index_or (switch_grants r) p None ≡ Some g →
      slice_index_or (switch_grants r) q None ≡ Some h → g.out ≡ h.out → p ≡ q
  granted_once p q g h one other same =
      let s = r.switch_alloc in
      let requests = all_named s (ready_outs r) in
      let both : ◌≡◌ {A = Option ℕ} (Some p) (Some q) =
      sym (asked_of p g one).1 ∙ (ap (λ (out : ℕ). chosen s requests out) same ∙ (asked_of q h other).1) in
      cc
