-- The channels that may send, as a router works them out from what it keeps, are those that its records say.
use Rattle.std.proofs.Common.{◌≡◌, ℕ, ◌&&◌, ◌||◌, ◌==◌, Bool, true, false, not, nat_le, nat_lt}
use Rattle.std.proofs.Common.{if◌then◌else◌, List, [], ◌∷◌, length, slice_get, Option, None, Some, is_some, IsSome}
use Rattle.std.proofs.Common.{arith, refl, ap, sym, ◌∙◌, subst}
use Rattle.std.specs.Option.{option_map}
use Rattle.std.proofs.lemmas.Bool.Decides.{nat_tests}
use Rattle.worm_flit.specs.declared.Flit.{Flit}
use Rattle.worm_flit.specs.Stamps.{with_channel}
use Rattle.worm_records.specs.declared.InRecord.{InRecord}
use Rattle.worm_records.specs.declared.InRecord.TheVariants.{Idle, Waiting, Active}
use Rattle.worm_vcalloc.specs.ChannelSet.{has}
use Rattle.worm_vcalloc.specs.Table.{cell, table}
use Rattle.worm_vcalloc.proofs.PassAgrees.{none_where_not_some}
use Rattle.worm_vcalloc.proofs.SetMembers.{has-empty}
use Rattle.worm_vcalloc.proofs.TableRows.{same_tables, cell-table, IsTable-table}
use Rattle.worm_router.specs.Router.{RouterState, ChannelState, IsPlace, terminal, width, input_at, output_at}
use Rattle.worm_router.specs.Router.{is_linked, leaving, leaving_by}
use Rattle.worm_router.specs.Allocation.{within, ready_at, ready_outs}
use Rattle.worm_router.specs.Demand.{DemandView}
use Rattle.worm_router.specs.declared.busy.BusyChannels.{BusyChannels}
use Rattle.worm_router.specs.Busy.{AreReady, IsKept, is_occupied, lacks_credit, owes_all, port_held}
use Rattle.worm_router.specs.Rest.{SendsNothing}
use Rattle.worm_router.proofs.HeldOuts.{out_at}
use Rattle.worm_router.proofs.Leaving.{leaving_is}
use Rattle.worm_router.proofs.TableRows.{cell_is}

none_either : (b : Bool) → ◌≡◌ {A = Option ℕ} None (if b then None else None)
none_either true = refl
none_either false = refl

none_none : (a b : Bool) → ◌≡◌ {A = Option ℕ} None (if a then (if b then None else None) else None)
none_none true b = none_either b
none_none false b = refl

out_if : (b : Bool) (o v : ℕ) (f : Flit)
    → option_map {T = ℕ × Flit} (λ leave. leave.0) (if b then Some (o, with_channel f v) else None)
    ≡ (if b then Some o else None)
out_if true o v f = refl
out_if false o v f = refl

-- a channel of this port, in this state and with so many credits owed, has a credit and may owe one more
abbrev free : RouterState → ℕ → InRecord → ℕ → Bool
free r p s owed = not (lacks_credit r s) && not (owes_all r p owed)

not_not : (a : Bool) → not (not a) ≡ a
not_not true = refl
not_not false = refl

-- what may leave is bound for the output port that the channel holds, where it has a flit and is free
ready_parts : (r : RouterState) (p : ℕ) (c : ChannelState) (s : InRecord) (fs : List Flit)
    → option_map (λ leave. leave.0) (leaving_by r p c s fs)
    ≡ (if nat_lt 0 (length fs) then (if free r p s c.owed then port_held s else None) else None)
ready_parts r p c Idle fs = none_none (nat_lt 0 (length fs)) (free r p Idle c.owed)
ready_parts r p c (Waiting o) fs = none_none (nat_lt 0 (length fs)) (free r p (Waiting o) c.owed)
ready_parts r p c (Active o v) [] = refl
ready_parts r p c (Active o v) (f ∷ fs) =
    let some : nat_lt 0 (length (f ∷ fs)) ≡ true = grind (arith, nat_tests) in
    out_if ((o == terminal r || nat_lt 0 (output_at r o v).credits)
    && (not (is_linked r p) || nat_lt c.owed r.depth)) o v f
    ∙ sym (ap (λ b. if not (lacks_credit r (Active o v)) && b then Some o else None)
    (not_not (not (is_linked r p) || nat_lt c.owed r.depth))
    ∙ ap (λ b. if b && (not (is_linked r p) || nat_lt c.owed r.depth) then Some o else None)
    (not_not (o == terminal r || nat_lt 0 (output_at r o v).credits)))
    ∙ sym (ap (λ b. if b then (if free r p (Active o v) c.owed then Some o else None) else None) some)

some_mapped : (o : Option (ℕ × Flit)) → is_some (option_map (λ leave. leave.0) o) ≡ is_some o
some_mapped None = refl
some_mapped (Some d) = refl

some_if : {X : Type 0} (b : Bool) (x : X) → IsSome (if b then Some x else None) → (if b then Some x else None) ≡ Some x
some_if true x some = refl
some_if false x some = absurd (cc)

-- a channel that may send could send, to the output port that it holds
out_told : (s : InRecord) (some way : Bool)
    → (if (is_some (port_held s) && some) && way then port_held s else None)
    ≡ (if some then (if way then port_held s else None) else None)
out_told Idle true true = refl
out_told Idle true false = refl
out_told Idle false way = refl
out_told (Waiting o) true true = refl
out_told (Waiting o) true false = refl
out_told (Waiting o) false way = refl
out_told (Active o c) true true = refl
out_told (Active o c) true false = refl
out_told (Active o c) false way = refl

some_told : (s : InRecord) (some way : Bool)
    → ((is_some (port_held s) && some) && way)
    ≡ is_some (if some then (if way then port_held s else None) else None)
some_told Idle true true = refl
some_told Idle true false = refl
some_told Idle false way = refl
some_told (Waiting o) true true = refl
some_told (Waiting o) true false = refl
some_told (Waiting o) false way = refl
some_told (Active o c) true true = refl
some_told (Active o c) true false = refl
some_told (Active o c) false way = refl

-- a channel that may send holds an output channel
pub first_of : (a b c d : Bool) → (((a && b) && c) && d) ≡ true → a ≡ true
first_of true b c d e = refl
first_of false b c d e = absurd (cc)

and_both : (a b c : Bool) → ((a && b) && c) ≡ (a && (b && c))
and_both true b c = refl
and_both false b c = refl

module _ (r : RouterState) (sets : BusyChannels) (asked : DemandView) (masks : List ℕ) (ready : ℕ)
    (kept : IsKept r sets asked masks) (are : AreReady sets ready) where
  ready_here : (p v : ℕ) → IsPlace r p v → has ready p v
      ≡ ((is_some (out_at r p v) && is_occupied (input_at r p v))
      && free r p (input_at r p v).state (input_at r p v).owed)
  ready_here p v place =
      let few_ports = kept.busy.few_ports in
      let few_channels = kept.busy.few_channels in
      let port_in = place.port_in in
      let vc_in = place.channel_in in
      are p v (omega arith) (omega arith)
      ∙ and_both (is_some (cell sets.outs p v None) && has sets.occupied p v) (not (has sets.no_credit p v))
      (not (has sets.owes_all p v))
      ∙ ap (λ o. (is_some o && has sets.occupied p v) && (not (has sets.no_credit p v) && not (has sets.owes_all p v)))
      (ap (λ t. cell t p v None) kept.outs ∙ cell_is r None (out_at r) p v few_ports few_channels place)
      ∙ ap (λ b. (is_some (out_at r p v) && b) && (not (has sets.no_credit p v) && not (has sets.owes_all p v)))
      (kept.busy.occupied.inside p v port_in vc_in)
      ∙ ap (λ b. (is_some (out_at r p v) && is_occupied (input_at r p v)) && (not b && not (has sets.owes_all p v)))
      (kept.no_credit.each p v port_in vc_in)
      ∙ ap (λ b. (is_some (out_at r p v) && is_occupied (input_at r p v))
      && (not (lacks_credit r (input_at r p v).state) && not b))
      (kept.owes_all.each p v port_in vc_in)

  -- the set has a channel where its front may leave
  ready_leaves : (p v : ℕ) → IsPlace r p v → has ready p v ≡ is_some (leaving r p v)
  ready_leaves p v place =
      ready_here p v place
      ∙ some_told (input_at r p v).state (is_occupied (input_at r p v))
      (free r p (input_at r p v).state (input_at r p v).owed)
      ∙ sym (ap is_some (ready_parts r p (input_at r p v) (input_at r p v).state (input_at r p v).buffer))
      ∙ some_mapped (leaving r p v)

  -- and so none leaves, where it is empty
  pub none_ready : (ready == 0) ≡ true → SendsNothing r
  none_ready none = λ p v p_in v_in.
      none_where_not_some (leaving r p v)
      (sym (ready_leaves p v (record { port_in = p_in; channel_in = v_in })) ∙ has-empty ready p v none)

  -- with the output ports that are kept it makes the table that the records say
  pub ready_table : table (λ p v. if has ready p v then cell sets.outs p v None else None) ≡ ready_outs r
  ready_table =
      same_tables None (table (λ p v. if has ready p v then cell sets.outs p v None else None)) (ready_outs r)
      (IsTable-table (λ p v. if has ready p v then cell sets.outs p v None else None))
      (IsTable-table (within r None (ready_at r))) (λ p v p_in v_in.
      cell-table (λ p v. if has ready p v then cell sets.outs p v None else None) p v None p_in v_in
      ∙ ap (λ o. if has ready p v then o else None)
      (ap (λ t. cell t p v None) kept.outs ∙ cell-table (within r None (out_at r)) p v None p_in v_in)
      ∙ by_test p v (nat_le p (terminal r)) (nat_lt v (width r)) refl refl
      ∙ sym (cell-table (within r None (ready_at r)) p v None p_in v_in))
    where
      by_test : (p v : ℕ) (a b : Bool) → nat_le p (terminal r) ≡ a → nat_lt v (width r) ≡ b
          → (if has ready p v then (if a && b then out_at r p v else None) else None)
          ≡ (if a && b then ready_at r p v else None)
      by_test p v true true e g =
          ap (λ b. if b then out_at r p v else None)
          (ready_here p v (record { port_in = grind arith; channel_in = grind arith }))
          ∙ out_told (input_at r p v).state (is_occupied (input_at r p v))
          (free r p (input_at r p v).state (input_at r p v).owed)
          ∙ sym (ready_parts r p (input_at r p v) (input_at r p v).state (input_at r p v).buffer)
      by_test p v true false e g = sym (none_either (has ready p v))
      by_test p v false b e g = sym (none_either (has ready p v))

-- as its contract tells that of the router that a caller sees
pub kept_leaves : (r s : RouterState) (sets : BusyChannels) (asked : DemandView) (masks : List ℕ)
    (ready port vc : ℕ) → r ≡ s → IsKept r sets asked masks → AreReady sets ready → IsPlace s port vc
    → has ready port vc ≡ is_some (leaving s port vc)
kept_leaves r s sets asked masks ready port vc same kept are place =
    ready_leaves r sets asked masks ready kept are port vc
    (subst (λ (q : RouterState). IsPlace q port vc) (sym same) place)
    ∙ ap (λ (q : RouterState). is_some (leaving q port vc)) same

-- a channel that may send leaves by the output channel that it holds
pub leaves_by_hold : (r : RouterState) (port vc out out_vc : ℕ) (c : ChannelState) (front : Flit)
    → IsSome (leaving r port vc)
    → c ≡ input_at r port vc → c.state ≡ Active out out_vc → slice_get c.buffer 0 ≡ Some front
    → leaving r port vc ≡ Some (out, with_channel front out_vc)
leaves_by_hold r port vc out out_vc c front some is active first =
    leaves ∙ some_if _ (out, with_channel front out_vc) (subst IsSome leaves some) where
      leaves : leaving r port vc ≡ (if (out == terminal r || nat_lt 0 (output_at r out out_vc).credits) &&
          (not (is_linked r port) || nat_lt c.owed r.depth) then Some (out, with_channel front out_vc) else None)
      leaves = leaving_is r port vc out out_vc c front _ _ is active first refl refl
