-- What a router keeps for its channel allocator is what its records say: what a write of one channel leaves of that.
use Rattle.std.proofs.Common.{◌≡◌, ◌==◌, ℕ, ◌+◌, ◌<◌, ◌≤◌, nat_lt, Bool, true, false, List, [], ◌∷◌, ◌++◌, length}
use Rattle.std.proofs.Common.{length-append, slice_set, slice_get, slice_index_or, replicate, Option, None, Some}
use Rattle.std.proofs.Common.{is_none, is_some, All, if◌then◌else◌, inl, inr, refl, arith, ap, sym, subst, ◌∙◌}
use Rattle.std.proofs.lemmas.Grind.{get_or-set_at}
use Rattle.std.proofs.lemmas.Bool.{cases_lt, true≢false}
use Rattle.std.proofs.lemmas.Bool.Decides.{nat_tests}
use Rattle.std.proofs.lemmas.Nat.{same_from_place}
use Rattle.std.proofs.lemmas.List.{get_or-set_other, get_or_past}
use Rattle.std.proofs.lemmas.List.Elements.{All-get_or}
use Rattle.worm_flit.specs.declared.Flit.{Flit}
use Rattle.worm_flit.specs.Channels.{class_bits}
use Rattle.worm_records.specs.declared.InRecord.{InRecord}
use Rattle.worm_records.specs.declared.InRecord.TheVariants.{Idle, Waiting, Active}
use Rattle.worm_records.specs.declared.OutRecord.{OutRecord}
use Rattle.worm_vcalloc.specs.declared.request.VcRequest.{VcRequest}
use Rattle.worm_vcalloc.specs.VcRequest.{may_use}
use Rattle.worm_vcalloc.specs.ChannelSet.{has}
use Rattle.worm_vcalloc.specs.Table.{cell, with_cell}
use Rattle.worm_vcalloc.specs.VcAlloc.{VcAllocState, vc_pass}
use Rattle.worm_vcalloc.proofs.SetMembers.{has-empty}
use Rattle.worm_vcalloc.proofs.TableCells.{cell-replicate, IsTable-replicate}
use Rattle.worm_vcalloc.proofs.TableRows.{same_tables, IsTable-table}
use Rattle.worm_router.specs.Router.{RouterState, ChannelState, IsPlace, terminal, width, line, fresh_channel}
use Rattle.worm_router.specs.Router.{free_output, input_at}
use Rattle.worm_router.specs.Busy.{HasFront, IsSetOf, waits, is_occupied, is_waiting}
use Rattle.worm_router.specs.Tables.{PutsRows}
use Rattle.worm_router.specs.Allocation.{within, asking, request_at, requests, is_free, free_channels}
use Rattle.worm_router.specs.Allocation.{channel_pass}
use Rattle.worm_router.specs.Demand.{DemandView, GrantsNothing, IsDemandOf}
use Rattle.worm_router.proofs.Accepted.{IsPut}
use Rattle.worm_router.proofs.NothingReady.{get_or-replicate_same}
use Rattle.worm_router.proofs.Places.{IsInput, IsOutput, same_at}
use Rattle.worm_router.proofs.TableRows.{cell_has, cell_is, table_kept, table_put, rows_are}

-- ---- what a channel asks for

pub asks_nothing : (channels : List ℕ) (s : InRecord) (fs : List Flit) → waits s ≡ false → asking channels s fs ≡ None
asks_nothing channels Idle fs e = refl
asks_nothing channels (Waiting o) fs e = absurd (cc)
asks_nothing channels (Active o c) fs e = refl

-- a channel that waits for this output port
pub asks_by_front : (channels : List ℕ) (fs : List Flit) (f : Flit) (o allowed : ℕ) → slice_get fs 0 ≡ Some f
    → allowed ≡ class_bits channels f.lane.class
    → asking channels (Waiting o) fs ≡ Some (record { out = o; allowed = allowed })
asks_by_front channels [] f o allowed front is = absurd (cc)
asks_by_front channels (g ∷ fs) f o allowed front is =
    let same : g ≡ f = cc in
    ap (λ (h : Flit). Some (record { out = o; allowed = class_bits channels h.lane.class })) same
    ∙ ap (λ n. Some (record { out = o; allowed = n })) (sym is)

pub front_there : (fs : List Flit) (f : Flit) → slice_get fs 0 ≡ Some f → nat_lt 0 (length fs) ≡ true
front_there [] f front = absurd (cc)
front_there (g ∷ fs) f front = grind (arith, nat_tests)

-- a flit that comes behind others changes nothing of it
asks_behind : (channels : List ℕ) (s : InRecord) (fs gs : List Flit) → (waits s ≡ true → nat_lt 0 (length fs) ≡ true)
    → asking channels s (fs ++ gs) ≡ asking channels s fs
asks_behind channels Idle fs gs some = refl
asks_behind channels (Active o c) fs gs some = refl
asks_behind channels (Waiting o) [] gs some = let no = some refl in absurd (grind (arith, nat_tests))
asks_behind channels (Waiting o) (f ∷ fs) gs some = refl

pub put_asks : (channels : List ℕ) (had now : ChannelState) (f : Flit) (came : Bool) → HasFront had
    → IsPut had now f came → asking channels now.state now.buffer ≡ asking channels had.state had.buffer
put_asks channels had now f true front put =
    ap (λ (c : ChannelState). asking channels c.state c.buffer) put.after
    ∙ asks_behind channels had.state had.buffer (f ∷ []) front
put_asks channels had now f false front put = ap (λ (c : ChannelState). asking channels c.state c.buffer) put.after

pub put_fronted : (had now : ChannelState) (f : Flit) (came : Bool) → HasFront had → IsPut had now f came
    → HasFront now
put_fronted had now f true front put =
    let more = length-append had.buffer (f ∷ []) in
    let some : nat_lt 0 (length (had.buffer ++ f ∷ [])) ≡ true = grind (arith, nat_tests) in
    λ waiting. ap is_occupied put.after ∙ some
put_fronted had now f false front put = subst HasFront (sym put.after) front

-- a channel that did not wait does not once a flit left
pub waits_not_after : (closed : Bool) (s : InRecord) → waits s ≡ false → waits (if closed then Idle else s) ≡ false
waits_not_after true s e = refl
waits_not_after false s e = e

-- ---- one input channel is written

module _ (r : RouterState) (port vc i : ℕ) (had now : ChannelState) (input : IsInput r port vc i had) where
  abbrev written_in : RouterState
  written_in = record r { inputs = slice_set r.inputs i now }

  -- it asks as before
  pub requests_kept : asking r.channels now.state now.buffer ≡ asking r.channels had.state had.buffer
      → requests written_in ≡ requests r
  requests_kept same = table_kept r None (request_at r) (request_at written_in) (λ p v place.
      same_at (λ (c : ChannelState). asking r.channels c.state c.buffer) r.inputs i (line r p v) now
      (fresh_channel r.depth) input.within
      (same ∙ ap (λ (c : ChannelState). asking r.channels c.state c.buffer) input.was))

  -- it asks for this
  pub requests_put : (asked new : List (List (Option VcRequest))) (x : Option VcRequest) → terminal r ≤ 6 → width r ≤ 8
      → asked ≡ requests r → new ≡ with_cell asked port vc x → asking r.channels now.state now.buffer ≡ x
      → new ≡ requests written_in
  requests_put asked new x few_ports few_channels is put asks =
      table_put r None (request_at r) (request_at written_in) port vc x asked new few_ports few_channels input.place is
      put (ap (λ (c : ChannelState). asking r.channels c.state c.buffer)
      (get_or-set_at r.inputs i (line r port vc) now (fresh_channel r.depth) (sym input.at) input.within) ∙ asks)
      (λ p v place other. ap (λ (c : ChannelState). asking r.channels c.state c.buffer)
      (get_or-set_other r.inputs i (line r p v) now (fresh_channel r.depth) (λ e.
      let at = same_from_place p v port vc (width r) place.channel_in input.place.channel_in (e ∙ input.at) in
      other at.0 at.1)))

-- ---- one output channel is written

module _ (r : RouterState) (out vc o : ℕ) (had u : OutRecord) (output : IsOutput r out vc o had) where
  abbrev written_out : RouterState
  written_out = record r { outputs = slice_set r.outputs o u }

  -- it is held as before
  pub free_kept : u.holder ≡ had.holder → free_channels written_out ≡ free_channels r
  free_kept same = table_kept r false (is_free r) (is_free written_out) (λ p v place.
      same_at (λ (w : OutRecord). is_none w.holder) r.outputs o (line r p v) u (free_output r.depth) output.within
      (ap is_none (same ∙ ap (λ (w : OutRecord). w.holder) output.was)))

  -- it is held now, or free
  pub free_put : (free new : List (List Bool)) (b : Bool) → terminal r ≤ 6 → width r ≤ 8
      → free ≡ free_channels r → new ≡ with_cell free out vc b → is_none u.holder ≡ b → new ≡ free_channels written_out
  free_put free new b few_ports few_channels is put here =
      table_put r false (is_free r) (is_free written_out) out vc b free new few_ports few_channels output.place is put
      (ap (λ (w : OutRecord). is_none w.holder)
      (get_or-set_at r.outputs o (line r out vc) u (free_output r.depth) (sym output.at) output.within) ∙ here)
      (λ p v place other. ap (λ (w : OutRecord). is_none w.holder)
      (get_or-set_other r.outputs o (line r p v) u (free_output r.depth) (λ e.
      let at = same_from_place p v out vc (width r) place.channel_in output.place.channel_in (e ∙ output.at) in
      other at.0 at.1)))

  -- it is free where the flit that left by it closed
  pub free_left : (closed : Bool) (free new : List (List Bool)) → terminal r ≤ 6 → width r ≤ 8 → free ≡ free_channels r
      → new ≡ (if closed then with_cell free out vc true else free) → u.holder ≡ (if closed then None else had.holder)
      → new ≡ free_channels written_out
  free_left true free new few_ports few_channels is put none =
      free_put free new true few_ports few_channels is put (ap is_none none)
  free_left false free new few_ports few_channels is same holds = same ∙ is ∙ sym (free_kept holds)

-- ---- a new router

pub demand_fresh : (r : RouterState) (count ports vcs : ℕ) (d : DemandView)
    → r.inputs ≡ replicate count (fresh_channel r.depth) → r.outputs ≡ replicate count (free_output r.depth)
    → ports ≡ terminal r + 1 → vcs ≡ width r
    → d.requests ≡ replicate 7 (replicate 8 None) → PutsRows false (λ port channel. true) vcs ports d.free
    → IsDemandOf r d
demand_fresh r count ports vcs d inputs outputs all all' none free = record {
  requests = none ∙ same_tables None (replicate 7 (replicate 8 None)) (requests r) (IsTable-replicate None)
      (IsTable-table (within r None (request_at r))) (λ p v p_in v_in.
      cell-replicate 7 8 p v None ∙ sym (cell_has (λ q. q ≡ None) r None (request_at r) p v refl (λ place.
      ap (λ (c : ChannelState). asking r.channels c.state c.buffer)
      (ap (λ (l : List ChannelState). slice_index_or l (line r p v) (fresh_channel r.depth)) inputs
      ∙ get_or-replicate_same count (line r p v) (fresh_channel r.depth)))));
  free = rows_are r false (λ port channel. true) ports d.free
      (subst (λ n. PutsRows false (λ port channel. true) n ports d.free) all' free) all
      ∙ sym (table_kept r false (λ port channel. true) (is_free r) (λ p v place.
      ap (λ (w : OutRecord). is_none w.holder)
      (ap (λ (l : List OutRecord). slice_index_or l (line r p v) (free_output r.depth)) outputs
      ∙ get_or-replicate_same count (line r p v) (free_output r.depth))));
}

-- ---- a pass that grants nothing

pub grants_none_as : (r s : RouterState) (d : DemandView) → r ≡ s → IsDemandOf r d → GrantsNothing d.requests d.free
    → GrantsNothing (requests s) (free_channels s)
grants_none_as r s d same are nothing =
    subst (λ (q : RouterState). GrantsNothing (requests q) (free_channels q)) same
    (subst (λ t. GrantsNothing t (free_channels r)) are.requests (subst (GrantsNothing d.requests) are.free nothing))

-- ---- who waits

waits_as_asked : (channels : List ℕ) (s : InRecord) (fs : List Flit) → (waits s ≡ true → nat_lt 0 (length fs) ≡ true)
    → is_some (asking channels s fs) ≡ waits s
waits_as_asked channels Idle fs some = refl
waits_as_asked channels (Active o c) fs some = refl
waits_as_asked channels (Waiting o) [] some = let no = some refl in absurd (grind (arith, nat_tests))
waits_as_asked channels (Waiting o) (f ∷ fs) some = refl

-- the input channels that ask are those that wait
pub waiting_set : (r s : RouterState) (asked : List (List (Option VcRequest))) (set : ℕ) → r ≡ s
    → terminal r ≤ 6 → width r ≤ 8 → All HasFront r.inputs → asked ≡ requests r
    → ((p v : ℕ) → p < 7 → v < 8 → has set p v ≡ is_some (cell asked p v None)) → IsSetOf is_waiting s set
waiting_set r s asked set same few_ports few_channels fronts is members =
    subst (λ (q : RouterState). IsSetOf is_waiting q set) same (record {
      inside = λ p v p_in v_in.
          let here : IsPlace r p v = record { port_in = p_in; channel_in = v_in } in
          members p v (omega arith) (omega arith) ∙ ap (λ t. is_some (cell t p v None)) is
          ∙ ap is_some (cell_is r None (request_at r) p v few_ports few_channels here)
          ∙ waits_as_asked r.channels (input_at r p v).state (input_at r p v).buffer
          (fronted (slice_index_or r.inputs (line r p v) (fresh_channel r.depth)) (line r p v) refl);
      outside = λ p v p_in v_in there.
          let place : IsPlace r p v =
          cell_has (λ q. is_some q ≡ true → IsPlace r p v) r None (request_at r) p v
          (λ no. absurd (true≢false (sym no))) (λ place yes. place)
          (sym (members p v p_in v_in ∙ ap (λ t. is_some (cell t p v None)) is) ∙ there) in
          (place.port_in, place.channel_in);
    })
  where
    fronted : (c : ChannelState) (i : ℕ) → c ≡ slice_index_or r.inputs i (fresh_channel r.depth) → HasFront c
    fronted c i read = elim (cases_lt i (length r.inputs)) [
      | inl within ↦ subst HasFront (sym read) (All-get_or HasFront r.inputs i (fresh_channel r.depth) within fronts)
      | inr past ↦ subst HasFront (sym (read ∙ get_or_past r.inputs i (fresh_channel r.depth) past))
          (λ waiting. absurd (true≢false (sym waiting)))
    ]

-- ---- the grants of a pass

pub pass_of : (r s : RouterState) (asked : List (List (Option VcRequest))) (free : List (List Bool))
    (alloc : VcAllocState) (grants : List (List (Option ℕ))) → r ≡ s → asked ≡ requests r → free ≡ free_channels r
    → record { alloc = alloc; grants = grants }
    ≡ vc_pass asked free (record { alloc = r.channel_alloc; grants = replicate 7 (replicate 8 None) })
    → record { alloc = alloc; grants = grants } ≡ channel_pass s
pass_of r s asked free alloc grants same is is' pass =
    pass ∙ ap (λ t. vc_pass t free (record { alloc = r.channel_alloc; grants = replicate 7 (replicate 8 None) })) is
    ∙ ap (λ t. vc_pass (requests r) t (record { alloc = r.channel_alloc; grants = replicate 7 (replicate 8 None) })) is'
    ∙ ap channel_pass same

-- where no channel waits none asks for anything
pub none_waits : (r : RouterState) (waiting : ℕ) → IsSetOf is_waiting r waiting → (waiting == 0) ≡ true
    → GrantsNothing (requests r) (free_channels r)
none_waits r waiting are none = λ out c p v unheld.
    cell_has (λ q. may_use q out c ≡ false) r None (request_at r) p v refl (λ place.
    ap (λ q. may_use q out c) (asks_nothing r.channels (input_at r p v).state (input_at r p v).buffer
    (sym (are.inside p v place.port_in place.channel_in) ∙ has-empty waiting p v none)))
