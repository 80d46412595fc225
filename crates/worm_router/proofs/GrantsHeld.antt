-- What a pass of the channel allocator grants is held after it, and all else is as it was: an invariant of the grants
-- written one by one.
use Rattle.std.proofs.Common.{◌≡◌, ℕ, zero, suc, ◌+◌, ◌*◌, ◌/◌, ◌%◌, ◌<◌, ◌≤◌, Bool, true, is_none, is_some}
use Rattle.std.proofs.Common.{inl, inr, List, length, slice_set, slice_index_or, replicate, Option, None, Some}
use Rattle.std.proofs.Common.{refl, arith, ap, sym, subst, ◌∙◌}
use Rattle.std.proofs.lemmas.Bool.{cases_eq}
use Rattle.std.proofs.lemmas.Nat.{same_from_place}
use Rattle.std.proofs.lemmas.List.{get_or-set_other, length-set}
use Rattle.std.proofs.lemmas.Grind.{get_or-set_at}
use Rattle.worm_records.specs.declared.InRecord.TheVariants.{Waiting, Active}
use Rattle.worm_records.specs.declared.OutRecord.{OutRecord}
use Rattle.worm_vcalloc.specs.declared.request.VcRequest.{VcRequest}
use Rattle.worm_vcalloc.specs.ChannelSet.{IsFirst}
use Rattle.worm_vcalloc.specs.VcRequest.{may_use}
use Rattle.worm_vcalloc.specs.Table.{cell}
use Rattle.worm_vcalloc.specs.VcAlloc.{VcAllocState, VcPass, HasWon, IsChannelMatching, vc_pass}
use Rattle.worm_router.specs.Router.{RouterState, ChannelState, IsPlace, terminal, width, places, line, fresh_channel}
use Rattle.worm_router.specs.Router.{free_output, in_state, input_at, output_at, granting, can_grant, after_granting}
use Rattle.worm_router.specs.Allocation.{request_at, requests, is_free, written, with_grants, after_allocate}
use Rattle.worm_router.specs.Allocation.{IsSameSize, IsGranted, AreHeld, LeavesRest}
use Rattle.worm_router.specs.Busy.{IsKept}
use Rattle.worm_router.specs.Demand.{DemandView}
use Rattle.worm_router.specs.declared.busy.BusyChannels.{BusyChannels}
use Rattle.worm_router.proofs.Demanded.{pass_of}
use Rattle.worm_router.proofs.Grantable.{waits_for, choice_by, is_unheld, IsGrantable, grantable, MayHold}
use Rattle.worm_router.proofs.GrantsWritten.{written_to, written_none, written_one, with_grants_to, AreWritten}
use Rattle.worm_router.proofs.GrantsWritten.{writing_reaches, has_grant, writing_goes_on, writing_ends}
use Rattle.worm_router.proofs.Laws.{line-places}
use Rattle.worm_router.proofs.TableRows.{cell_is}

module _ (r : RouterState) (a : VcAllocState) (grants : List (List (Option ℕ))) (given : IsGrantable r grants) where
  -- the router with these channels
  abbrev at : List ChannelState → List OutRecord → RouterState
  at is os = record r { inputs = is; outputs = os; channel_alloc = a }

  -- an input channel that the grants give a free output channel that it asked for
  record Wins (p v o c : ℕ) : Type 0 where
    place : IsPlace r p v
    out_place : IsPlace r o c
    won : HasWon (requests r) grants p v o c
    free : is_free r o c ≡ true
    uses : may_use (request_at r p v) o c ≡ true

  -- and that has it in a router
  record Got (s : RouterState) (p v c : ℕ) : Type 0 where
    out : ℕ
    wins : Wins p v out c
    active : (input_at s p v).state ≡ Active out c
    held : (output_at s out c).holder ≡ Some (p, v)

  -- the grants of the first places are written, eight to a port, and no others
  record Far (is : List ChannelState) (os : List OutRecord) (n : ℕ) : Type 0 where
    inputs : length is ≡ places r
    outputs : length os ≡ places r
    ahead : (p v : ℕ) → IsPlace r p v → n ≤ 8 * p + v → input_at (at is os) p v ≡ input_at r p v
    untaken : (o c : ℕ) → IsPlace r o c
        → ((p v : ℕ) → IsPlace r p v → 8 * p + v < n → HasWon (requests r) grants p v o c → ⊥)
        → output_at (at is os) o c ≡ output_at r o c
    got : (p v c : ℕ) → IsPlace r p v → 8 * p + v < n → cell grants p v None ≡ Some c → Got (at is os) p v c
    states : (p v : ℕ) → IsPlace r p v
        → input_at (at is os) p v ≡ in_state (input_at r p v) (input_at (at is os) p v).state
    left : (p v : ℕ) → IsPlace r p v → cell grants p v None ≡ None → input_at (at is os) p v ≡ input_at r p v
    credits : (o c : ℕ) → IsPlace r o c → (output_at (at is os) o c).credits ≡ (output_at r o c).credits

  -- a router in which they are written
  abbrev Written : RouterState → ℕ → Type 0
  Written s n = (is : List ChannelState) × (os : List OutRecord) × (s ≡ at is os) × Far is os n

  winner : (p v c : ℕ) → cell grants p v None ≡ Some c → (o : ℕ) × Wins p v o c
  winner p v c granted =
      let w = given.matching.requested p v c granted in
      let place : IsPlace r p v = record { port_in = omega (arith, w.3); channel_in = w.4 } in
      let out_place : IsPlace r w.0 c = record { port_in = omega (arith, w.5); channel_in = w.6 } in (
        w.0,
        record {
          place = place;
          out_place = out_place;
          won = w.1;
          free = sym (cell_is r _ (is_free r) w.0 c given.few_ports given.few out_place) ∙ w.2;
          uses = ap (λ q. may_use q w.0 c) (sym (cell_is r None (request_at r) p v given.few_ports given.few place))
              ∙ w.1.requested;
        },
      )

  -- two lines of places are two places
  one_place : (p v q w : ℕ) → IsPlace r p v → IsPlace r q w → line r q w ≡ line r p v → (q ≡ p) × (w ≡ v)
  one_place p v q w here there same = same_from_place q w p v (width r) there.channel_in here.channel_in same

  one_winner : (p v q w o c : ℕ) → HasWon (requests r) grants p v o c → HasWon (requests r) grants q w o c
      → line r q w ≡ line r p v
  one_winner p v q w o c won also =
      let same = given.matching.once q w p v o c also won in
      ap (λ k. k * width r + w) same.0 ∙ ap (λ k. p * width r + k) same.1

  -- a place without a grant is passed
  passed_on : (is : List ChannelState) (os : List OutRecord) (p v : ℕ) → v < 8 → cell grants p v None ≡ None
      → Far is os (8 * p + v)
      → Far is os (8 * p + v + 1)
  passed_on is os p v v_in none far = record {
    inputs = far.inputs;
    outputs = far.outputs;
    ahead = λ q w there after. far.ahead q w there (omega (arith, after));
    untaken = λ o c there nobody. far.untaken o c there
        (λ q w at_place before. nobody q w at_place (omega (arith, before)));
    got = λ q w c there before granted. elim (cases_eq (8 * q + w) (8 * p + v)) [
      | inl same ↦
          let few = given.few in
          let w_in = there.channel_in in
          let port : q ≡ p = omega (arith, same, v_in) in
          let channel : w ≡ v = omega (arith, same, v_in) in
          let clash : None ≡ Some c =
          sym none ∙ ap (λ k. cell grants k v None) (sym port) ∙ ap (λ k. cell grants q k None) (sym channel)
          ∙ granted in
          absurd (cc)
      | inr other ↦ far.got q w c there (omega (arith, before, other)) granted
    ];
    states = far.states;
    left = far.left;
    credits = far.credits;
  }

  -- what is written where an input channel gets an output channel
  abbrev in_held : List ChannelState → ℕ → ℕ → ℕ → ℕ → List ChannelState
  in_held is p v o c = slice_set is (line r p v)
      (in_state (slice_index_or is (line r p v) (fresh_channel r.depth)) (Active o c))

  abbrev out_held : List OutRecord → ℕ → ℕ → ℕ → ℕ → List OutRecord
  out_held os p v o c = slice_set os (line r o c)
      (record (slice_index_or os (line r o c) (free_output r.depth)) { holder = Some (p, v) })

  module _ (is : List ChannelState) (os : List OutRecord) (p v o c : ℕ) (wins : Wins p v o c)
      (far : Far is os (8 * p + v)) where
    in_there : line r p v < length is
    in_there = let k = line-places r p v wins.place in omega (arith, far.inputs, k)

    out_there : line r o c < length os
    out_there = let k = line-places r o c wins.out_place in omega (arith, far.outputs, k)

    abbrev now : RouterState
    now = at (in_held is p v o c) (out_held os p v o c)

    got_here : Got now p v c
    got_here = record {
      out = o;
      wins = wins;
      active = ap (λ (x : ChannelState). x.state)
          (get_or-set_at is (line r p v) (line r p v) _ (fresh_channel r.depth) refl in_there);
      held = ap (λ (u : OutRecord). u.holder)
          (get_or-set_at os (line r o c) (line r o c) _ (free_output r.depth) refl out_there);
    }

    got_there : (q w d : ℕ) → (line r q w ≡ line r p v → ⊥) → Got (at is os) q w d → Got now q w d
    got_there q w d other had =
        let apart : line r had.out d ≡ line r o c → ⊥ = λ same.
        let here = one_place o c had.out d wins.out_place had.wins.out_place same in
        let also : HasWon (requests r) grants q w o c =
        subst (HasWon (requests r) grants q w o) here.1
        (subst (λ k. HasWon (requests r) grants q w k d) here.0 had.wins.won) in
        other (one_winner p v q w o c wins.won also) in
        record {
          out = had.out;
          wins = had.wins;
          active = ap (λ (x : ChannelState). x.state)
              (get_or-set_other is (line r p v) (line r q w) _ (fresh_channel r.depth) other) ∙ had.active;
          held = ap (λ (u : OutRecord). u.holder)
              (get_or-set_other os (line r o c) (line r had.out d) _ (free_output r.depth) apart) ∙ had.held;
        }

    same_got : (q w d : ℕ) → (q ≡ p) × (w ≡ v) → c ≡ d → Got now q w d
    same_got q w d here same =
        subst (λ k. Got now k w d) (sym here.0)
        (subst (λ k. Got now p k d) (sym here.1) (subst (Got now p v) same got_here))

    -- of an input channel only the record is written
    states_now : (q w : ℕ) → IsPlace r q w → input_at now q w ≡ in_state (input_at r q w) (input_at now q w).state
    states_now q w there = elim (cases_eq (line r q w) (line r p v)) [
      | inl same ↦
          let is_now = get_or-set_at is (line r p v) (line r q w)
          (in_state (slice_index_or is (line r p v) (fresh_channel r.depth)) (Active o c)) (fresh_channel r.depth) same
          in_there in
          is_now ∙ ap (λ x. in_state x (Active o c)) (far.ahead p v wins.place (omega arith))
          ∙ ap (λ k. in_state (slice_index_or r.inputs k (fresh_channel r.depth)) (Active o c)) (sym same)
          ∙ ap (λ (x : ChannelState). in_state (input_at r q w) x.state) (sym is_now)
      | inr other ↦
          let as_before = get_or-set_other is (line r p v) (line r q w)
          (in_state (slice_index_or is (line r p v) (fresh_channel r.depth)) (Active o c)) (fresh_channel r.depth)
          other in
          as_before ∙ far.states q w there
          ∙ ap (λ (x : ChannelState). in_state (input_at r q w) x.state) (sym as_before)
    ]

    -- and none of one without a grant
    left_now : (q w : ℕ) → IsPlace r q w → cell grants q w None ≡ None → input_at now q w ≡ input_at r q w
    left_now q w there none = elim (cases_eq (line r q w) (line r p v)) [
      | inl same ↦
          let here = one_place p v q w wins.place there same in
          let clash : Some c ≡ None =
          sym wins.won.granted ∙ ap (λ k. cell grants k v None) (sym here.0)
          ∙ ap (λ k. cell grants q k None) (sym here.1) ∙ none in
          absurd (cc)
      | inr other ↦
          get_or-set_other is (line r p v) (line r q w) _ (fresh_channel r.depth) other ∙ far.left q w there none
    ]

    -- and of an output channel only the holder
    credits_now : (out d : ℕ) → IsPlace r out d → (output_at now out d).credits ≡ (output_at r out d).credits
    credits_now out d there = elim (cases_eq (line r out d) (line r o c)) [
      | inl same ↦
          ap (λ (u : OutRecord). u.credits)
          (get_or-set_at os (line r o c) (line r out d) _ (free_output r.depth) same out_there)
          ∙ far.credits o c wins.out_place
          ∙ ap (λ k. (slice_index_or r.outputs k (free_output r.depth)).credits) (sym same)
      | inr other ↦
          ap (λ (u : OutRecord). u.credits)
          (get_or-set_other os (line r o c) (line r out d) _ (free_output r.depth) other)
          ∙ far.credits out d there
    ]

    -- no other place is written before or after this one
    apart : (q w : ℕ) → IsPlace r q w → (line r q w ≡ line r p v → ⊥) → 8 * q + w ≡ 8 * p + v → ⊥
    apart q w there other same =
        let few = given.few in
        let v_in = wins.place.channel_in in
        let w_in = there.channel_in in
        let port : q ≡ p = omega arith in
        let channel : w ≡ v = omega arith in
        other (ap (λ k. k * width r + w) port ∙ ap (λ k. p * width r + k) channel)

    held_now : Far (in_held is p v o c) (out_held os p v o c) (8 * p + v + 1)
    held_now = record {
      inputs = length-set is (line r p v) _ ∙ far.inputs;
      outputs = length-set os (line r o c) _ ∙ far.outputs;
      ahead = λ q w there after.
          get_or-set_other is (line r p v) (line r q w) _ (fresh_channel r.depth)
          (λ same. let here = one_place p v q w wins.place there same in absurd (omega (arith, here.0, here.1, after)))
          ∙ far.ahead q w there (omega (arith, after));
      untaken = λ out d there nobody. elim (cases_eq (line r out d) (line r o c)) [
        | inl same ↦
            let here = one_place o c out d wins.out_place there same in
            let also : HasWon (requests r) grants p v out d =
            subst (HasWon (requests r) grants p v out) (sym here.1)
            (subst (λ k. HasWon (requests r) grants p v k c) (sym here.0) wins.won) in
            absurd (nobody p v wins.place (omega arith) also)
        | inr other ↦
            get_or-set_other os (line r o c) (line r out d) _ (free_output r.depth) other
            ∙ far.untaken out d there (λ q w at_place before. nobody q w at_place (omega (arith, before)))
      ];
      got = λ q w d there before granted. elim (cases_eq (line r q w) (line r p v)) [
        | inl same ↦
            let here = one_place p v q w wins.place there same in
            let both : Some c ≡ Some d =
            sym wins.won.granted ∙ ap (λ k. cell grants k v None) (sym here.0)
            ∙ ap (λ k. cell grants q k None) (sym here.1) ∙ granted in
            let one : c ≡ d = cc in
            same_got q w d here one
        | inr other ↦ got_there q w d other
            (far.got q w d there (let ne = apart q w there other in omega (arith, before, ne)) granted)
      ];
      states = states_now;
      left = left_now;
      credits = credits_now;
    }

    -- the output channel is free still
    unheld : is_free (at is os) o c ≡ true
    unheld =
        let nobody : (q w : ℕ) → IsPlace r q w → 8 * q + w < 8 * p + v → HasWon (requests r) grants q w o c → ⊥ =
        λ q w there before also. let same = given.matching.once q w p v o c also wins.won in absurd
        (omega (arith, same.0, same.1, before)) in
        ap (λ (u : OutRecord). is_none u.holder) (far.untaken o c wins.out_place nobody) ∙ wins.free

    -- the grant can be done
    can : can_grant (at is os) p v c ≡ Some o
    can =
        let had = input_at r p v in
        ap (λ (x : ChannelState). granting (at is os) x.state x.buffer c) (far.ahead p v wins.place (omega arith))
        ∙ choice_by (at is os) had.state had.buffer o c unheld wins.uses

  -- one place more
  step : (is : List ChannelState) (os : List OutRecord) (p v : ℕ) → v < 8 → Far is os (8 * p + v)
      → (g : Option ℕ) → cell grants p v None ≡ g
      → Written (written (at is os) p v g) (8 * p + v + 1)
  step is os p v v_in far None none = (is, os, refl, passed_on is os p v v_in none far)
  step is os p v v_in far (Some c) granted =
      let w = winner p v c granted in (
        in_held is p v w.0 c,
        out_held os p v w.0 c,
        ap (after_granting (at is os) p v c)
            (can is os p v w.0 c w.1 far),
        held_now is os p v w.0 c w.1 far,
      )

  abbrev start : RouterState
  start = at r.inputs r.outputs

  begun : Far r.inputs r.outputs 0
  begun = record {
    inputs = given.inputs;
    outputs = given.outputs;
    ahead = λ p v place after. refl;
    untaken = λ o c place nobody. refl;
    got = λ p v c place before granted. absurd (omega (arith, before));
    states = λ p v place. refl;
    left = λ p v place none. refl;
    credits = λ o c place. refl;
  }

  -- the grants place by place
  far_to : (n : ℕ) → Written (written_to grants start n) n
  far_to zero = (r.inputs, r.outputs, written_none grants start, begun)
  far_to (suc n) =
      let had = far_to n in
      let p = n / 8 in
      let v = n % 8 in
      let place : 8 * p + v ≡ n = omega arith in
      let after : 8 * p + v + 1 ≡ suc n = omega arith in
      let next = step had.0 had.1 p v (omega arith) (subst (Far had.0 had.1) (sym place) had.3)
      (cell grants p v None) refl in (
        next.0,
        next.1,
        ap (written_to grants start) (sym after) ∙ written_one grants start p v (omega arith)
            ∙ ap (λ m. written (written_to grants start m) p v (cell grants p v None)) place
            ∙ ap (λ s. written s p v (cell grants p v None)) had.2 ∙ next.2,
        subst (Far next.0 next.1) after next.3,
      )

  -- the port that a granted input channel waited for
  waited : (p v o c : ℕ) → Wins p v o c → (input_at r p v).state ≡ Waiting o
  waited p v o c wins = waits_for r (input_at r p v).state (input_at r p v).buffer o c wins.uses

  granted_by : (s : RouterState) (p v c : ℕ) → Got s p v c → IsGranted r s p v c
  granted_by s p v c had = record {
    out = had.out;
    waited = waited p v had.out c had.wins;
    free = is_unheld (output_at r had.out c).holder had.wins.free;
    active = had.active;
    held = had.held;
  }

  -- the grant that comes next out of those that are left
  module _ (here : RouterState) (left new p v : ℕ) (so : AreWritten start here grants left)
      (first : IsFirst left new p v) where
    abbrev before : Written (written_to grants start (8 * p + v)) (8 * p + v)
    before = far_to (8 * p + v)

    here_is : here ≡ at before.0 before.1
    here_is = writing_reaches start grants here left so new p v first ∙ before.2

    -- is of a place of the router
    pub next_place : IsPlace here p v
    next_place = by_grant (cell grants p v None) refl (has_grant start grants here left so new p v first) where
      by_grant : (g : Option ℕ) → cell grants p v None ≡ g → is_some g ≡ true → IsPlace here p v
      by_grant None none some = absurd (cc)
      by_grant (Some c) granted some =
          let place = (winner p v c granted).1.place in
          subst (λ (s : RouterState). IsPlace s p v) (sym here_is)
          (record { port_in = place.port_in; channel_in = place.channel_in })

    -- for an input channel that waits still
    pub next_waits : (c : ℕ) → cell grants p v None ≡ Some c → (o : ℕ) × ((input_at here p v).state ≡ Waiting o)
    next_waits c granted =
        let w = winner p v c granted in (
          w.0,
          ap (λ (s : RouterState). (input_at s p v).state) here_is
              ∙ ap (λ (x : ChannelState). x.state) (before.3.ahead p v w.1.place (omega arith)) ∙ waited p v w.0 c w.1,
        )

    -- and that can hold what it was granted
    pub next_held : (o c : ℕ) → cell grants p v None ≡ Some c → (input_at here p v).state ≡ Waiting o
        → MayHold here p v o c
    unfolding next_waits
    next_held o c granted waits =
        let w = winner p v c granted in
        let far = before.3 in
        let waited_for = next_waits c granted in
        let same : Waiting w.0 ≡ Waiting o = sym waited_for.1 ∙ waits in
        let out : w.0 ≡ o = cc in
        subst (λ k. MayHold here p v k c) out (subst (λ (s : RouterState). MayHold s p v w.0 c) (sym here_is) (record {
          out_place = record { port_in = w.1.out_place.port_in; channel_in = w.1.out_place.channel_in };
          free = is_unheld (output_at (at before.0 before.1) w.0 c).holder (unheld before.0 before.1 p v w.0 c w.1 far);
          can = can before.0 before.1 p v w.0 c w.1 far;
        }))

    -- and is then written
    pub next_written : (o c : ℕ) → cell grants p v None ≡ Some c → (input_at here p v).state ≡ Waiting o
        → (now : RouterState) → now ≡ after_granting here p v c (Some o) → AreWritten start now grants new
    next_written o c granted waits now is =
        let held = next_held o c granted waits in
        writing_goes_on start grants here left so new p v first now
        (is ∙ ap (after_granting here p v c) (sym held.can) ∙ ap (written here p v) (sym granted))

  -- a grant is of a place of the router
  ungranted_past : (o : Option ℕ) (p v : ℕ) → ((p ≤ terminal r) → (v < width r) → ⊥) → cell grants p v None ≡ o
      → cell grants p v None ≡ None
  ungranted_past None p v outside is = is
  ungranted_past (Some c) p v outside is =
      let place = (winner p v c is).1.place in absurd (outside place.port_in place.channel_in)

  -- all grants are written
  pub all_to : with_grants grants start ≡ written_to grants start 56
  all_to = with_grants_to grants start given.few_ports given.few
      (λ p v outside. ungranted_past (cell grants p v None) p v outside refl)

  place_below : (p v : ℕ) → IsPlace r p v → 8 * p + v < 56
  place_below p v place =
      let few_ports = given.few_ports in
      let few = given.few in
      let p_in = place.port_in in
      let v_in = place.channel_in in
      omega arith

  far_held : (is : List ChannelState) (os : List OutRecord) → Far is os 56 → AreHeld r (at is os) grants
  far_held is os far p v c granted =
      let w = winner p v c granted in
      granted_by (at is os) p v c (far.got p v c w.1.place (place_below p v w.1.place) granted)

  far_rest : (is : List ChannelState) (os : List OutRecord) → Far is os 56 → LeavesRest r (at is os) grants
  far_rest is os far = record {
    router = refl;
    inputs = far.states;
    ungranted = far.left;
    outputs = far.credits;
    free = λ o c place nobody. far.untaken o c place (λ p v at_place before won. nobody (record {
      port = p;
      vc = v;
      waited = waits_for r (input_at r p v).state (input_at r p v).buffer o c
          (ap (λ q. may_use q o c) (sym (cell_is r None (request_at r) p v given.few_ports given.few at_place))
          ∙ won.requested);
      granted = won.granted;
    }));
  }

-- what a pass leaves: its grants are written, those that got them hold them, and all else is as it was
pub record IsPassed (old new : RouterState) (grants : List (List (Option ℕ))) : Type 0 where
  pub after : new ≡ after_allocate old
  pub same : IsSameSize old new
  pub held : AreHeld old new grants
  pub rest : LeavesRest old new grants

pub passed_by : (r s new : RouterState) (sets : BusyChannels) (asked : DemandView) (masks : List ℕ)
    (waiting : List (List (Option VcRequest))) (free : List (List Bool)) (a : VcAllocState)
    (grants : List (List (Option ℕ))) (left : ℕ)
    → r ≡ s → IsKept r sets asked masks → waiting ≡ asked.requests → free ≡ asked.free
    → record { alloc = a; grants = grants }
    ≡ vc_pass waiting free (record { alloc = r.channel_alloc; grants = replicate 7 (replicate 8 None) })
    → IsChannelMatching r.channel_alloc.ports r.channel_alloc.vcs waiting free grants
    → AreWritten (record r { channel_alloc = a }) new grants left → left ≡ 0 → IsPassed s new grants
passed_by r s new sets asked masks waiting free a grants left same kept is is' pass matching so none =
    let given = grantable r sets asked masks waiting free grants kept is is' matching in
    let all = far_to r a grants given 56 in
    let ends = writing_ends (record r { channel_alloc = a }) grants new left so none in
    let here = sym (ends ∙ all.2) in
    let of_pass = pass_of r s waiting free a grants same (is ∙ kept.demand.requests) (is' ∙ kept.demand.free) pass in
    record {
      after = ends ∙ sym (all_to r a grants given)
          ∙ ap (λ (q : RouterState). with_grants grants (record q { channel_alloc = a })) same
          ∙ ap (λ (p : VcPass). with_grants p.grants (record s { channel_alloc = p.alloc })) of_pass;
      same = subst (λ (q : RouterState). IsSameSize q new) same
          (subst (IsSameSize r) here (record { same_mesh = refl; same_channels = refl }));
      held = subst (λ (q : RouterState). AreHeld q new grants) same
          (subst (λ (n : RouterState). AreHeld r n grants) here (far_held r a grants given all.0 all.1 all.3));
      rest = subst (λ (q : RouterState). LeavesRest q new grants) same
          (subst (λ (n : RouterState). LeavesRest r n grants) here (far_rest r a grants given all.0 all.1 all.3));
    }
