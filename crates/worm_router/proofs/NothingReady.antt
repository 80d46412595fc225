-- A pass of the switch allocator in which no channel may send grants nothing and moves no arbiter.
use Rattle.std.proofs.Common.{◌≡◌, ℕ, ◌≤◌, cond, List, [], Option, None, is_some, replicate}
use Rattle.std.proofs.Common.{slice_index_or, inl, inr, refl, ap, sym, ◌∙◌, arith}
use Rattle.std.specs.Option.{option_map}
use Rattle.std.proofs.lemmas.Bool.{cases_lt}
use Rattle.std.proofs.lemmas.List.{get_or-replicate, length-replicate, get_or_past}
use Rattle.worm_flit.specs.declared.Flit.{Flit}
use Rattle.worm_vcalloc.specs.Arbiter.{no_arbiter, after_pick}
use Rattle.worm_vcalloc.specs.Table.{cell}
use Rattle.worm_vcalloc.proofs.TableCells.{cell-replicate, IsTable-replicate}
use Rattle.worm_swalloc.specs.declared.grant.SwGrant.{SwGrant}
use Rattle.worm_swalloc.specs.Front.{with_front}
use Rattle.worm_swalloc.specs.SwAlloc.{SwAllocState, named, all_named, named_channel, request_of}
use Rattle.worm_swalloc.specs.SwAlloc.{is_for, granted, if_chosen, sw_grants, sw_after, input_after, output_after}
use Rattle.worm_vcalloc.proofs.TableRows.{same_tables, IsTable-table}
use Rattle.worm_swalloc.proofs.FrontGiven.{with_front_kept, length-with_front}
use Rattle.worm_router.specs.Router.{RouterState}
use Rattle.worm_router.specs.Allocation.{within, ready_at, ready_outs, switch_grants, after_choose}
use Rattle.worm_router.specs.Busy.{HasArbiters}
use Rattle.worm_router.specs.Rest.{SendsNothing}
use Rattle.worm_router.proofs.NothingWaits.{no_winner}
use Rattle.worm_router.proofs.TableRows.{cell_has}

abbrev none_ready : List (List (Option ℕ))
none_ready = replicate 7 (replicate 8 None)

abbrev none_named : List (Option SwGrant)
none_named = replicate 7 None

pub get_or-replicate_same : {X : Type 0} (n i : ℕ) (x : X) → slice_index_or (replicate n x) i x ≡ x
get_or-replicate_same n i x = elim (cases_lt i n) [
  | inl within ↦ get_or-replicate n i x x within
  | inr past ↦ get_or_past (replicate n x) i x (let e = length-replicate n x in omega arith)
]

nothing_named : (s : SwAllocState) (port : ℕ) → named s none_ready port ≡ None
nothing_named s port =
    ap (request_of (slice_index_or none_ready port []))
    (no_winner (slice_index_or s.inputs port no_arbiter) (λ vc. is_some (cell none_ready port vc None))
    (λ vc. ap is_some (cell-replicate 7 8 port vc None)))

none_are_named : (s : SwAllocState) → s.ports ≤ 7 → all_named s none_ready ≡ none_named
none_are_named s few =
    with_front_kept s.ports (named s none_ready) none_named None few
    (λ i l. nothing_named s i ∙ sym (get_or-replicate_same 7 i None))

pub nothing_granted : (s : SwAllocState) → s.ports ≤ 7 → sw_grants s none_ready ≡ replicate 7 None
nothing_granted s few =
    with_front_kept s.ports (granted s (all_named s none_ready) s.ports) none_named None few
    (λ i l. ap (if_chosen s (all_named s none_ready) s.ports i)
    (ap (λ xs. slice_index_or xs i None) (none_are_named s few) ∙ get_or-replicate_same 7 i None)
    ∙ sym (get_or-replicate_same 7 i None))

pub nothing_moves : (s : SwAllocState) → s.ports ≤ 7 → HasArbiters s → sw_after s none_ready ≡ s
nothing_moves s few has =
    ap (λ i. record s { inputs = i; outputs = with_front s.ports (output_after s (all_named s none_ready)) s.outputs })
    (with_front_kept s.ports (input_after s none_ready (sw_grants s none_ready)) s.inputs no_arbiter has.inputs
    (λ i l. ap (λ o. cond (is_some o) (after_pick (slice_index_or s.inputs i no_arbiter) (named_channel s none_ready i))
    (slice_index_or s.inputs i no_arbiter))
    (ap (λ xs. slice_index_or xs i None) (nothing_granted s few) ∙ get_or-replicate_same 7 i None)))
    ∙ ap (λ o. record s { outputs = o })
    (with_front_kept s.ports (output_after s (all_named s none_ready)) s.outputs no_arbiter has.outputs
    (λ i l.
    ap (after_pick (slice_index_or s.outputs i no_arbiter))
    (no_winner (slice_index_or s.outputs i no_arbiter)
    (λ port. is_for (slice_index_or (all_named s none_ready) port None) i)
    (λ port. ap (λ o. is_for o i) (ap (λ xs. slice_index_or xs port None) (none_are_named s few)
    ∙ get_or-replicate_same 7 port None)))))

pub none_may_send : (r : RouterState) → SendsNothing r → ready_outs r ≡ none_ready
none_may_send r none =
    same_tables None (ready_outs r) none_ready (IsTable-table (within r None (ready_at r))) (IsTable-replicate None)
    (λ p v p_in v_in.
    cell_has (λ o. o ≡ None) r None (ready_at r) p v refl
    (λ place. ap (λ (o : Option (ℕ × Flit)). option_map (λ leave. leave.0) o) (none p v place.port_in place.channel_in))
    ∙ sym (cell-replicate 7 8 p v None))

pub idle_grants : (r : RouterState) → r.switch_alloc.ports ≤ 7 → SendsNothing r → switch_grants r ≡ replicate 7 None
idle_grants r few none = ap (sw_grants r.switch_alloc) (none_may_send r none) ∙ nothing_granted r.switch_alloc few

pub idle_choose : (r : RouterState) → r.switch_alloc.ports ≤ 7 → HasArbiters r.switch_alloc → SendsNothing r
    → after_choose r ≡ r
idle_choose r few has none =
    ap (λ (ready : List (List (Option ℕ))). record r { switch_alloc = sw_after r.switch_alloc ready })
    (none_may_send r none)
    ∙ ap (λ (s : SwAllocState). record r { switch_alloc = s }) (nothing_moves r.switch_alloc few has)

-- a pass leaves as many arbiters as there were
pub arbiters_stay : (s : SwAllocState) (ready : List (List (Option ℕ))) → HasArbiters s → HasArbiters (sw_after s ready)
arbiters_stay s ready has =
    let ins = length-with_front s.ports (input_after s ready (sw_grants s ready)) s.inputs has.inputs in
    let outs = length-with_front s.ports (output_after s (all_named s ready)) s.outputs has.outputs in
    let ins_has = has.inputs in
    let outs_has = has.outputs in
    record { inputs = omega arith; outputs = omega arith }
