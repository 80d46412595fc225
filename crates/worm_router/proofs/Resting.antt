-- Where the sets of busy channels show that a router is at rest.
use Rattle.std.proofs.Common.{◌≡◌, ℕ, ◌&&◌, ◌==◌, true, false, List, [], ◌∷◌, length, not, nat_lt, replicate, None}
use Rattle.std.proofs.Common.{refl, arith, sym, ◌∙◌, subst, ap, Bool, ◌<◌, ◌≤◌}
use Rattle.std.proofs.lemmas.Bool.Decides.{nat_tests}
use Rattle.worm_flit.specs.declared.Flit.{Flit}
use Rattle.worm_records.specs.declared.InRecord.{InRecord}
use Rattle.worm_records.specs.declared.InRecord.TheVariants.{Idle, Waiting, Active}
use Rattle.worm_vcalloc.specs.ChannelSet.{has}
use Rattle.worm_vcalloc.proofs.SetMembers.{has-empty}
use Rattle.worm_router.specs.Router.{RouterState, ChannelState, input_at, is_idle, opens_front, terminal, width}
use Rattle.worm_router.specs.Demand.{DemandView}
use Rattle.worm_router.specs.Busy.{AreReady, IsKept, IsSetOf, holds, is_active, is_occupied, is_waiting, lacks_route}
use Rattle.worm_router.specs.Busy.{owes, waits}
use Rattle.worm_router.specs.Allocation.{switch_grants, after_choose}
use Rattle.worm_router.specs.Rest.{OwesNothing, SendsNothing}
use Rattle.worm_router.specs.declared.busy.BusyChannels.{BusyChannels}
use Rattle.worm_router.proofs.ReadyOuts.{none_ready}
use Rattle.worm_router.proofs.NothingReady.{idle_grants, idle_choose}

-- a channel with a flit that neither waits nor holds an output channel is idle
idle_left : (state : InRecord) (full : Bool) → ((full && not (waits state)) && not (holds state))
    ≡ (is_idle state && full)
idle_left Idle true = refl
idle_left Idle false = refl
idle_left (Waiting o) true = refl
idle_left (Waiting o) false = refl
idle_left (Active o c) true = refl
idle_left (Active o c) false = refl

-- what is left of a set, when one set and then another was taken from it, was in it
was_in : (a b c : Bool) → ((a && not b) && not c) ≡ true → a ≡ true
was_in true b c e = refl
was_in false b c e = e

-- of the channels with a flit those are left that lack a route
module _ {s : RouterState} (r : RouterState) {occupied waiting active : ℕ} (same : s ≡ r) (few_ports : terminal s ≤ 6)
    (few_channels : width s ≤ 8) (has_flit : IsSetOf is_occupied r occupied) (waits_in : IsSetOf is_waiting r waiting)
    (holds_in : IsSetOf is_active r active) where
  pub unrouted_set : (over left : ℕ)
      → ((p v : ℕ) → p < 7 → v < 8 → has over p v ≡ (has occupied p v && not (has waiting p v)))
      → ((p v : ℕ) → p < 7 → v < 8 → has left p v ≡ (has over p v && not (has active p v)))
      → IsSetOf lacks_route r left
  unrouted_set over left first then = record {
    inside = λ p v p_in v_in.
        let ports = subst (λ (r : RouterState). terminal r ≤ 6) same few_ports in
        let vcs = subst (λ (r : RouterState). width r ≤ 8) same few_channels in
        let flit = has_flit.inside p v p_in v_in in
        let waits_here = waits_in.inside p v p_in v_in in
        let holds_here = holds_in.inside p v p_in v_in in
        is_left p v (omega (arith, p_in, ports)) (omega (arith, v_in, vcs))
        ∙ (λ t. ((flit t) && not (waits_here t)) && not (holds_here t))
        ∙ idle_left (input_at r p v).state (is_occupied (input_at r p v));
    outside = λ p v p_few v_few on. has_flit.outside p v p_few v_few
        (was_in (has occupied p v) (has waiting p v) (has active p v) (sym (is_left p v p_few v_few) ∙ on));
  } where
    is_left : (p v : ℕ) → p < 7 → v < 8
        → has left p v ≡ ((has occupied p v && not (has waiting p v)) && not (has active p v))
    is_left p v p_few v_few = then p v p_few v_few
        ∙ ap (λ (b : Bool). b && not (has active p v)) (first p v p_few v_few)

-- a channel that does not lack a route has nothing to route
routed_by : (state : InRecord) (buffer : List Flit) → (is_idle state && nat_lt 0 (length buffer)) ≡ false
    → (is_idle state && opens_front buffer) ≡ false
routed_by Idle [] none = refl
routed_by Idle (f ∷ fs) none = let some : nat_lt 0 (length (f ∷ fs)) ≡ true = grind (arith, nat_tests) in absurd (cc)
routed_by (Waiting o) buffer none = refl
routed_by (Active o c) buffer none = refl

pub routes_none : (c : ChannelState) → lacks_route c ≡ false → (is_idle c.state && opens_front c.buffer) ≡ false
routes_none c none = routed_by c.state c.buffer none

pub owes_none : (r : RouterState) (owing : ℕ) → IsSetOf owes r owing → (owing == 0) ≡ true → OwesNothing r
owes_none r owing is none = λ p v p_in v_in.
    let e : nat_lt 0 (input_at r p v).owed ≡ false = sym (is.inside p v p_in v_in) ∙ has-empty owing p v none in
    grind (arith, nat_tests)

-- a router in which no channel is kept as ready
pub record IsUnready (r : RouterState) : Type 0 where
  pub sends : SendsNothing r
  pub chooses : after_choose r ≡ r
  pub grants : switch_grants r ≡ replicate 7 None

pub unready : (r s : RouterState) (sets : BusyChannels) (asked : DemandView) (masks : List ℕ) (ready : ℕ)
    → r ≡ s → IsKept r sets asked masks → AreReady sets ready → (ready == 0) ≡ true → IsUnready s
unready r s sets asked masks ready same kept are none =
    let ports = kept.router.allocators.switch_ports in
    let few = kept.busy.few_ports in
    let sends = none_ready r sets asked masks ready kept are none in
    subst IsUnready same (record {
      sends = sends;
      chooses = idle_choose r (omega arith) kept.arbiters sends;
      grants = idle_grants r (omega arith) sends;
    })
