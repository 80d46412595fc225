-- A pass of the channel allocator leaves nothing to grant.
use Rattle.std.proofs.Common.{◌≡◌, ℕ, true, false, is_none, inl, inr, List, Option, None, Some, refl, arith}
use Rattle.std.proofs.Common.{ap, sym, subst, ◌∙◌}
use Rattle.std.proofs.lemmas.Bool.{cases_Bool, true≢false}
use Rattle.worm_records.specs.declared.InRecord.{InRecord}
use Rattle.worm_records.specs.declared.InRecord.TheVariants.{Waiting}
use Rattle.worm_records.specs.declared.OutRecord.{OutRecord}
use Rattle.worm_vcalloc.specs.VcRequest.{may_use}
use Rattle.worm_vcalloc.specs.Table.{cell}
use Rattle.worm_vcalloc.specs.VcAlloc.{HasWon}
use Rattle.worm_router.specs.Router.{RouterState, ChannelState, IsPlace, input_at, output_at}
use Rattle.worm_router.specs.Allocation.{asking, request_at, requests, is_free, free_channels, WasGranted}
use Rattle.worm_router.specs.Demand.{DemandView, GrantsNothing, IsDemandOf}
use Rattle.worm_router.proofs.Grantable.{waits_for, IsGrantable}
use Rattle.worm_router.proofs.GrantsHeld.{IsPassed}
use Rattle.worm_router.proofs.TableRows.{cell_is, cell_has}

-- an input channel waits for one port
one_port : (s : InRecord) (o out : ℕ) → s ≡ Waiting o → s ≡ Waiting out → out ≡ o
one_port s o out here there = let same : Waiting out ≡ Waiting o = sym there ∙ here in cc

module _ (r new : RouterState) (grants : List (List (Option ℕ))) (given : IsGrantable r grants)
    (passed : IsPassed r new grants) where
  -- an output channel that an input channel has won is held
  won_held : (p v o c : ℕ) → HasWon (requests r) grants p v o c → is_free new o c ≡ false
  won_held p v o c won =
      let w = given.matching.requested p v c won.granted in
      let place : IsPlace r p v = record { port_in = omega (arith, w.3); channel_in = w.4 } in
      let uses : may_use (request_at r p v) o c ≡ true =
      ap (λ q. may_use q o c) (sym (cell_is r None (request_at r) p v given.few_ports given.few place))
      ∙ won.requested in
      let had = passed.held p v c won.granted in
      let same = one_port (input_at r p v).state o had.out
      (waits_for r (input_at r p v).state (input_at r p v).buffer o c uses) had.waited in
      ap is_none (ap (λ k. (output_at new k c).holder) (sym same) ∙ had.held)

  -- one that was held before was granted to nobody
  not_granted : (o c : ℕ) → is_free r o c ≡ false → WasGranted r grants o c → ⊥
  not_granted o c held was =
      let had = passed.held was.port was.vc c was.granted in
      let same = one_port (input_at r was.port was.vc).state o had.out was.waited had.waited in
      true≢false (sym (ap is_none (ap (λ k. (output_at r k c).holder) (sym same) ∙ had.free)) ∙ held)

  -- one that is free still is asked for by nobody: it would have been granted
  unasked : (p v o c : ℕ) → IsPlace r p v → IsPlace r o c → is_free new o c ≡ true
      → may_use (request_at new p v) o c ≡ true → ⊥
  unasked p v o c place out_place free uses = by_grant (cell grants p v None) refl where
    by_grant : (g : Option ℕ) → cell grants p v None ≡ g → ⊥
    by_grant (Some d) granted =
        let had = passed.held p v d granted in
        true≢false (sym uses ∙ ap (λ s. may_use (asking new.channels s (input_at new p v).buffer) o c) had.active)
    by_grant None none = elim (cases_Bool (is_free r o c)) [
      | inl was_free ↦
          let p_in = place.port_in in
          let out_in = out_place.port_in in
          let asked : may_use (cell (requests r) p v None) o c ≡ true =
          ap (λ q. may_use q o c) (cell_is r None (request_at r) p v given.few_ports given.few place)
          ∙ ap (λ (x : ChannelState). may_use (asking r.channels x.state x.buffer) o c)
          (sym (passed.rest.ungranted p v place none))
          ∙ ap (λ l. may_use (asking l (input_at new p v).state (input_at new p v).buffer) o c)
          (sym passed.same.same_channels)
          ∙ uses in
          let won = given.matching.complete o c p v (omega arith) out_place.channel_in (omega arith) place.channel_in
          (cell_is r false (is_free r) o c given.few_ports given.few out_place ∙ was_free) asked none in
          true≢false (sym free ∙ won_held won.0 won.1 o c won.2)
      | inr was_held ↦
          let kept = passed.rest.free o c out_place (not_granted o c was_held) in
          true≢false (sym free ∙ ap (λ (u : OutRecord). is_none u.holder) kept ∙ was_held)
    ]

  place_of : (p v : ℕ) → IsPlace new p v → IsPlace r p v
  place_of p v place = record {
    port_in = rw passed.same.same_mesh at place.port_in;
    channel_in = rw passed.same.same_channels at place.channel_in;
  }

  left_none : GrantsNothing (requests new) (free_channels new)
  left_none = λ o c p v unheld. elim (cases_Bool (may_use (cell (requests new) p v None) o c)) [
    | inr unused ↦ unused
    | inl uses ↦
        let asks : IsPlace new p v × (may_use (request_at new p v) o c ≡ true) =
        cell_has (λ q. may_use q o c ≡ true → IsPlace new p v × (may_use (request_at new p v) o c ≡ true)) new None
        (request_at new) p v (λ no. absurd (true≢false (sym no))) (λ place yes. (place, yes)) uses in
        let free : IsPlace new o c × (is_free new o c ≡ true) =
        cell_has (λ b. b ≡ true → IsPlace new o c × (is_free new o c ≡ true)) new false (is_free new) o c
        (λ no. absurd (true≢false (sym no))) (λ place yes. (place, yes)) unheld in
        absurd (unasked p v o c (place_of p v asks.0) (place_of o c free.0) free.1 asks.1)
  ]

pub nothing_left : (r new s : RouterState) (grants : List (List (Option ℕ))) (d : DemandView) → IsGrantable r grants
    → IsPassed r new grants → s ≡ new → IsDemandOf s d → GrantsNothing d.requests d.free
nothing_left r new s grants d given passed same are =
    subst (λ t. GrantsNothing t d.free) (sym are.requests) (subst (GrantsNothing (requests s)) (sym are.free)
    (subst (λ (q : RouterState). GrantsNothing (requests q) (free_channels q)) (sym same)
    (left_none r new grants given passed)))
