-- What a router keeps of the channels that hold an output channel is what its records say, and what a write of one
-- channel leaves of that.
use Rattle.std.proofs.Common.{◌≡◌, ℕ, ◌<◌, ◌≤◌, Bool, true, false, List, slice_set, slice_index_or, replicate, Option}
use Rattle.std.proofs.Common.{None, if◌then◌else◌, is_some, refl, arith, ap, sym, ◌∙◌, subst}
use Rattle.std.proofs.lemmas.Grind.{get_or-set_at}
use Rattle.std.proofs.lemmas.Bool.{true≢false}
use Rattle.std.proofs.lemmas.Nat.{same_from_place}
use Rattle.std.proofs.lemmas.List.{get_or-set_other}
use Rattle.worm_records.specs.declared.InRecord.{InRecord}
use Rattle.worm_records.specs.declared.InRecord.TheVariants.{Idle, Waiting, Active}
use Rattle.worm_vcalloc.specs.ChannelSet.{has}
use Rattle.worm_vcalloc.specs.Table.{cell, with_cell}
use Rattle.worm_vcalloc.proofs.TableCells.{cell-replicate, IsTable-replicate}
use Rattle.worm_vcalloc.proofs.TableRows.{same_tables, IsTable-table}
use Rattle.worm_router.specs.Router.{RouterState, ChannelState, IsPlace, terminal, width, line, fresh_channel, input_at}
use Rattle.worm_router.specs.Allocation.{within}
use Rattle.worm_router.specs.Busy.{IsSetOf, held_outs, holds, is_active, port_held}
use Rattle.worm_router.proofs.NothingReady.{get_or-replicate_same}
use Rattle.worm_router.proofs.Places.{IsInput, same_at}
use Rattle.worm_router.proofs.TableRows.{cell_has, cell_is, table_kept, table_put}

-- the output port that an input channel of a router holds
abbrev pub out_at : RouterState → ℕ → ℕ → Option ℕ
out_at r p v = port_held (input_at r p v).state

some_held : (s : InRecord) → is_some (port_held s) ≡ holds s
some_held Idle = refl
some_held (Waiting o) = refl
some_held (Active o c) = refl

-- the keys are the channels that hold one
pub active_set : (r s : RouterState) (outs : List (List (Option ℕ))) (set : ℕ) → r ≡ s
    → terminal r ≤ 6 → width r ≤ 8 → outs ≡ held_outs r
    → ((p v : ℕ) → p < 7 → v < 8 → has set p v ≡ is_some (cell outs p v None)) → IsSetOf is_active s set
active_set r s outs set same few_ports few_channels is members =
    subst (λ (q : RouterState). IsSetOf is_active q set) same (record {
      inside = λ p v p_in v_in.
          members p v (omega arith) (omega arith) ∙ ap (λ t. is_some (cell t p v None)) is
          ∙ ap is_some (cell_is r None (out_at r) p v few_ports few_channels
          (record { port_in = p_in; channel_in = v_in }))
          ∙ some_held (input_at r p v).state;
      outside = λ p v p_in v_in there.
          let place : IsPlace r p v =
          cell_has (λ o. is_some o ≡ true → IsPlace r p v) r None (out_at r) p v
          (λ no. absurd (true≢false (sym no))) (λ place yes. place)
          (sym (members p v p_in v_in ∙ ap (λ t. is_some (cell t p v None)) is) ∙ there) in
          (place.port_in, place.channel_in);
    })

-- none, where all are fresh
pub fresh_outs : (r : RouterState) (count : ℕ) → r.inputs ≡ replicate count (fresh_channel r.depth)
    → replicate 7 (replicate 8 None) ≡ held_outs r
fresh_outs r count all =
    same_tables None (replicate 7 (replicate 8 None)) (held_outs r) (IsTable-replicate None)
    (IsTable-table (within r None (out_at r))) (λ p v p_in v_in.
    cell-replicate 7 8 p v None ∙ sym (cell_has (λ o. o ≡ None) r None (out_at r) p v refl (λ place.
    ap (λ (c : ChannelState). port_held c.state)
    (ap (λ (l : List ChannelState). slice_index_or l (line r p v) (fresh_channel r.depth)) all
    ∙ get_or-replicate_same count (line r p v) (fresh_channel r.depth)))))

-- ---- one input channel is written

module _ (r : RouterState) (port vc i : ℕ) (had now : ChannelState) (input : IsInput r port vc i had) where
  abbrev written : RouterState
  written = record r { inputs = slice_set r.inputs i now }

  -- it holds what it held
  pub outs_kept : (outs : List (List (Option ℕ))) → port_held now.state ≡ port_held had.state → outs ≡ held_outs r
      → outs ≡ held_outs written
  outs_kept outs same is = is ∙ sym (table_kept r None (out_at r) (out_at written) (λ p v place.
      same_at (λ (c : ChannelState). port_held c.state) r.inputs i (line r p v) now (fresh_channel r.depth) input.within
      (same ∙ ap (λ (c : ChannelState). port_held c.state) input.was)))

  -- it holds this
  pub outs_put : (old new : List (List (Option ℕ))) (x : Option ℕ) → terminal r ≤ 6 → width r ≤ 8
      → new ≡ with_cell old port vc x → port_held now.state ≡ x → old ≡ held_outs r → new ≡ held_outs written
  outs_put old new x few_ports few_channels put holds_it is =
      table_put r None (out_at r) (out_at written) port vc x old new few_ports few_channels input.place is put
      (ap (λ (c : ChannelState). port_held c.state)
      (get_or-set_at r.inputs i (line r port vc) now (fresh_channel r.depth) (sym input.at) input.within) ∙ holds_it)
      (λ p v place other. ap (λ (c : ChannelState). port_held c.state)
      (get_or-set_other r.inputs i (line r p v) now (fresh_channel r.depth) (λ e.
      let at = same_from_place p v port vc (width r) place.channel_in input.place.channel_in (e ∙ input.at) in
      other at.0 at.1)))

  -- it let a flit out, and holds nothing where that closed
  pub outs_left : (old new : List (List (Option ℕ))) (closed : Bool) → terminal r ≤ 6 → width r ≤ 8
      → new ≡ (if closed then with_cell old port vc None else old) → now.state ≡ (if closed then Idle else had.state)
      → old ≡ held_outs r → new ≡ held_outs written
  outs_left old new true few_ports few_channels put idle is =
      outs_put old new None few_ports few_channels put (ap port_held idle) is
  outs_left old new false few_ports few_channels same as_before is =
      same ∙ outs_kept old (ap port_held as_before) is
