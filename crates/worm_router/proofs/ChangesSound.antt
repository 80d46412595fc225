-- What a change of one input channel and one output channel leaves sound.
use Rattle.std.proofs.Common.{ℕ, ◌+◌, ◌-◌, ◌*◌, ◌≤◌, ◌<◌, ◌≡◌, List, [], ◌∷◌, All, length, length-append}
use Rattle.std.proofs.Common.{drop, sum, slice_set, get_or, Bool, true, false, arith, inl, inr}
use Rattle.std.proofs.Common.{Some, refl, sym, subst, ap, ◌∙◌, if◌then◌else◌}
use Rattle.std.proofs.Math.ListN.{length-set}
use Rattle.std.proofs.lemmas.Grind.{common_steps, elements, get_or-set_at}
use Rattle.std.proofs.lemmas.Bool.{cases_eq, eq-eqb}
use Rattle.std.proofs.lemmas.Bool.Decides.{nat_tests}
use Rattle.std.proofs.lemmas.Nat.{same_from_place}
use Rattle.std.proofs.lemmas.List.{get_or-set_other, get_or_default}
use Rattle.std.proofs.lemmas.List.Elements.{All-set, All-get_or}
use Rattle.worm_flit.specs.declared.Flit.{Flit}
use Rattle.worm_mesh.specs.Address.{node_count}
use Rattle.worm_records.specs.declared.InRecord.{InRecord}
use Rattle.worm_records.specs.declared.InRecord.TheVariants.{Idle}
use Rattle.worm_records.specs.declared.OutRecord.{OutRecord}
use Rattle.worm_router.specs.Router.{HasLists, IsChannel, ChannelState, StateFits, RouterState, terminal, width}
use Rattle.worm_router.specs.Router.{credit_of, free_output, fresh_channel, line, input_at, in_state}
use Rattle.worm_router.proofs.Accepted.{IsPut}

pub both_set_sound : (mesh : List ℕ) (node : ℕ) (channels : List ℕ) (depth : ℕ) (inputs : List ChannelState)
    (outputs : List OutRecord) (i o : ℕ) (c : ChannelState) (u : OutRecord)
    → HasLists mesh node channels depth inputs outputs
    → IsChannel mesh channels depth c
    → u.credits ≤ depth
    → ((vc : ℕ) → vc < sum channels → (get_or (slice_set outputs o u) (2 * length mesh * sum channels + vc)
    (free_output depth)).credits ≡ depth)
    → HasLists mesh node channels depth (slice_set inputs i c) (slice_set outputs o u)
both_set_sound mesh node channels depth inputs outputs i o c u sound channel_sound fits full = record {
  node_in = sound.node_in;
  depth_in = sound.depth_in;
  all_inputs = rw length-set sound.all_inputs;
  all_outputs = rw length-set sound.all_outputs;
  inputs_sound = All-set (IsChannel mesh channels depth) inputs i c channel_sound sound.inputs_sound;
  credits_fit = All-set (λ (v : OutRecord). v.credits ≤ depth) outputs o u fits sound.credits_fit;
  terminal_full = full;
}

idle_or_same : (closing : Bool) (terminal width : ℕ) (s : InRecord) → StateFits terminal width s
    → StateFits terminal width (if closing then Idle else s)
idle_or_same true terminal width s fits = tt
idle_or_same false terminal width s fits = fits

-- an input channel without its front, which left as f, and whose packet has left whole where that `closed` it
abbrev pub left_by : Bool → ChannelState → Flit → ℕ → ChannelState
left_by closed c f more =
    record c {
      buffer = drop 1 c.buffer;
      state = (if closed then Idle else c.state);
      owed = c.owed + more;
      last_out = Some f;
    }

pub left_sound : (mesh channels : List ℕ) (depth : ℕ) (closed : Bool) (c : ChannelState) (f : Flit) (more : ℕ)
    → IsChannel mesh channels depth c → c.owed + more ≤ depth → IsChannel mesh channels depth (left_by closed c f more)
left_sound mesh channels depth closed c f more sound room = record {
  same_depth = sound.same_depth;
  fits = let less : length (drop 1 c.buffer) ≤ length c.buffer = grind (arith, common_steps) in let fits = sound.fits in
      omega arith;
  bound_for_nodes = let all = sound.bound_for_nodes in grind (arith, elements);
  state_fits = idle_or_same closed (2 * length mesh) (sum channels) c.state sound.state_fits;
  owed_fits = room;
}

-- a write of one output channel leaves the terminal's credits whole, where it leaves them so in that channel
pub full_after : (outputs : List OutRecord) (t w depth o : ℕ) (u d : OutRecord)
    → o < length outputs
    → ((vc : ℕ) → vc < w → (get_or outputs (t * w + vc) d).credits ≡ depth)
    → ((vc : ℕ) → vc < w → t * w + vc ≡ o → u.credits ≡ depth)
    → (vc : ℕ) → vc < w → (get_or (slice_set outputs o u) (t * w + vc) d).credits ≡ depth
full_after outputs t w depth o u d within full here vc below =
    elim (cases_eq (t * w + vc) o) [
      | inl same ↦ rw (get_or-set_at outputs o (t * w + vc) u d same within) (here vc below same)
      | inr other ↦ rw (get_or-set_other outputs o (t * w + vc) u d other) (full vc below)
    ]

-- what was read at an index of the terminal has all credits
pub full_before : (outputs : List OutRecord) (i o depth : ℕ) (had d : OutRecord)
    → o < length outputs → had ≡ get_or outputs o had → i ≡ o → (get_or outputs i d).credits ≡ depth
    → had.credits ≡ depth
full_before outputs i o depth had d within read same full =
    let e : (get_or outputs o d).credits ≡ depth = subst (λ k. (get_or outputs k d).credits ≡ depth) same full in
    ap (λ (v : OutRecord). v.credits) (read ∙ get_or_default outputs o had d within) ∙ e

-- a flit that leaves by the terminal costs no credit
pub no_credit : (r : RouterState) (out v t w vc place spent : ℕ)
    → v < width r → t ≡ terminal r → w ≡ width r → vc < w
    → t * w + vc ≡ place → place ≡ out * width r + v → spent ≡ credit_of r out → spent ≡ 0
no_credit r out v t w vc place spent v_in is_terminal is_width vc_in same is_place is_spent =
    let row : t * w + vc ≡ out * w + v = same ∙ is_place ∙ ap (λ (n : ℕ). out * n + v) (sym is_width) in
    let v_below : v < w = omega arith in
    let here : t ≡ out = (same_from_place t vc out v w vc_in v_below row).0 in
    let e : out ≡ terminal r = sym here ∙ is_terminal in
    is_spent ∙ rw (eq-eqb out (terminal r) e) refl

-- a write of one input channel
pub input_set_sound : (mesh : List ℕ) (node : ℕ) (channels : List ℕ) (depth : ℕ) (inputs : List ChannelState)
    (outputs : List OutRecord) (i : ℕ) (c : ChannelState)
    → HasLists mesh node channels depth inputs outputs → IsChannel mesh channels depth c
    → HasLists mesh node channels depth (slice_set inputs i c) outputs
input_set_sound mesh node channels depth inputs outputs i c sound channel_sound = record {
  node_in = sound.node_in;
  depth_in = sound.depth_in;
  all_inputs = rw length-set sound.all_inputs;
  all_outputs = sound.all_outputs;
  inputs_sound = All-set (IsChannel mesh channels depth) inputs i c channel_sound sound.inputs_sound;
  credits_fit = sound.credits_fit;
  terminal_full = sound.terminal_full;
}

-- an input channel that was read at a place
pub input_read : (r s : RouterState) (port vc i : ℕ) (had : ChannelState) → r ≡ s → had ≡ get_or r.inputs i had
    → i ≡ line s port vc → i < length s.inputs → had ≡ input_at s port vc
input_read r s port vc i had same read place within =
    read ∙ ap (λ (q : RouterState). get_or q.inputs i had) same
    ∙ get_or_default s.inputs i had (fresh_channel s.depth) within
    ∙ ap (λ k. get_or s.inputs k (fresh_channel s.depth)) place

pub read_sound : (mesh channels : List ℕ) (depth : ℕ) (inputs : List ChannelState) (i : ℕ) (had : ChannelState)
    → had ≡ get_or inputs i had → i < length inputs → All (IsChannel mesh channels depth) inputs
    → IsChannel mesh channels depth had
read_sound mesh channels depth inputs i had read within all =
    subst (IsChannel mesh channels depth) (sym read)
    (All-get_or (IsChannel mesh channels depth) inputs i had within all)

pub put_sound : (mesh channels : List ℕ) (depth : ℕ) (had now : ChannelState) (f : Flit) (came : Bool)
    → IsChannel mesh channels depth had → f.lane.dst < node_count mesh → IsPut had now f came
    → IsChannel mesh channels depth now
put_sound mesh channels depth had now f true sound bound put =
    let room = put.room in
    let free : length had.buffer < had.depth = grind (arith, nat_tests) in
    subst (IsChannel mesh channels depth) (sym put.after) record {
      same_depth = sound.same_depth;
      fits = omega (arith, length-append had.buffer (f ∷ []), sound.same_depth);
      bound_for_nodes = let all = sound.bound_for_nodes in grind (arith, elements);
      state_fits = sound.state_fits;
      owed_fits = sound.owed_fits;
    }
put_sound mesh channels depth had now f false sound bound put =
    subst (IsChannel mesh channels depth) (sym put.after) sound

pub state_sound : (mesh channels : List ℕ) (depth : ℕ) (had now : ChannelState) (s : InRecord)
    → IsChannel mesh channels depth had → StateFits (2 * length mesh) (sum channels) s
    → now ≡ in_state had s → IsChannel mesh channels depth now
state_sound mesh channels depth had now s sound within is = subst (IsChannel mesh channels depth) (sym is) record {
  same_depth = sound.same_depth;
  fits = sound.fits;
  bound_for_nodes = sound.bound_for_nodes;
  state_fits = within;
  owed_fits = sound.owed_fits;
}

pub give_sound : (mesh channels : List ℕ) (depth : ℕ) (had now : ChannelState) → IsChannel mesh channels depth had
    → now ≡ record had { owed = had.owed - 1 } → IsChannel mesh channels depth now
give_sound mesh channels depth had now sound is = subst (IsChannel mesh channels depth) (sym is) record {
  same_depth = sound.same_depth;
  fits = sound.fits;
  bound_for_nodes = sound.bound_for_nodes;
  state_fits = sound.state_fits;
  owed_fits = let fits = sound.owed_fits in omega arith;
}
