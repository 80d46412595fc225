-- What the channels of a router ask of its allocators, and what a pass of each leaves (Dally and Towles, chapters 16
-- and 19).
use Rattle.std.specs.Prelude.{ℕ, ◌≡◌, ◌+◌, ◌&&◌, nat_le, nat_lt, Bool, false, is_none, if◌then◌else◌}
use Rattle.std.specs.Prelude.{List, [], ◌∷◌, Option, None, Some, fold, replicate}
use Rattle.std.specs.Option.{option_map}
use Rattle.std.specs.List.{range_with_len}
use Rattle.worm_flit.specs.declared.Flit.{Flit}
use Rattle.worm_flit.specs.Channels.{class_bits}
use Rattle.worm_records.specs.declared.InRecord.{InRecord}
use Rattle.worm_records.specs.declared.InRecord.TheVariants.{Idle, Waiting, Active}
use Rattle.worm_vcalloc.specs.declared.request.VcRequest.{VcRequest}
use Rattle.worm_vcalloc.specs.Table.{cell, table}
use Rattle.worm_vcalloc.specs.VcAlloc.{VcPass, vc_pass}
use Rattle.worm_swalloc.specs.declared.grant.SwGrant.{SwGrant}
use Rattle.worm_swalloc.specs.SwAlloc.{sw_grants, sw_after}
use Rattle.worm_router.specs.Router.{RouterState, IsPlace, terminal, width, input_at, output_at, after_grant}
use Rattle.worm_router.specs.Router.{in_state, leaving}

-- what f says of a port and channel of the router; of any other, d
abbrev pub within : {X : Type 0} → RouterState → X → (ℕ → ℕ → X) → ℕ → ℕ → X
within r d f port vc = if nat_le port (terminal r) && nat_lt vc (width r) then f port vc else d

-- Channel allocation

-- a waiting channel with a packet at its front asks for a channel of the packet's class at its output port
abbrev pub asking : List ℕ → InRecord → List Flit → Option VcRequest
asking channels Idle fs = None
asking channels (Active o c) fs = None
asking channels (Waiting o) [] = None
asking channels (Waiting o) (f ∷ fs) = Some (record { out = o; allowed = class_bits channels f.lane.class })

abbrev pub request_at : RouterState → ℕ → ℕ → Option VcRequest
request_at r port vc = asking r.channels (input_at r port vc).state (input_at r port vc).buffer

abbrev pub requests : RouterState → List (List (Option VcRequest))
requests r = table (within r None (request_at r))

abbrev pub is_free : RouterState → ℕ → ℕ → Bool
is_free r out c = is_none (output_at r out c).holder

abbrev pub free_channels : RouterState → List (List Bool)
free_channels r = table (within r false (is_free r))

-- one pass of the channel allocator, over the requests and the free channels that the records state
abbrev pub channel_pass : RouterState → VcPass
channel_pass r =
    vc_pass (requests r) (free_channels r) (record { alloc = r.channel_alloc; grants = replicate 7 (replicate 8 None) })

-- two routers of one mesh and the same channels
pub record IsSameSize (old new : RouterState) : Type 0 where
  pub same_mesh : new.mesh ≡ old.mesh
  pub same_channels : new.channels ≡ old.channels

-- a grant, where there is one, goes into the records
abbrev pub written : RouterState → ℕ → ℕ → Option ℕ → RouterState
written r port vc None = r
written r port vc (Some out_vc) = after_grant r port vc out_vc

-- the grants of one input port, one by one, by rising channel
unfoldable pub with_port_grants : List (List (Option ℕ)) → RouterState → ℕ → RouterState
with_port_grants grants r port = fold (λ s vc. written s port vc (cell grants port vc None)) r
    (range_with_len 0 (width r))

-- all of them, by rising port
unfoldable pub with_grants : List (List (Option ℕ)) → RouterState → RouterState
with_grants grants r = fold (with_port_grants grants) r (range_with_len 0 (terminal r + 1))

abbrev pub after_allocate : RouterState → RouterState
after_allocate r = with_grants (channel_pass r).grants (record r { channel_alloc = (channel_pass r).alloc })

-- a granted input channel waited for this output port, and now holds the channel of it that it was granted
pub record IsGranted (old new : RouterState) (port vc out_vc : ℕ) : Type 0 where
  pub out : ℕ
  pub waited : (input_at old port vc).state ≡ Waiting out
  pub free : (output_at old out out_vc).holder ≡ None
  pub active : (input_at new port vc).state ≡ Active out out_vc
  pub held : (output_at new out out_vc).holder ≡ Some (port, vc)

-- what was granted in a pass was free, and is held after it by the input channel that waited for it
abbrev pub AreHeld : RouterState → RouterState → List (List (Option ℕ)) → Type 0
AreHeld old new grants = (port vc out_vc : ℕ) → cell grants port vc None ≡ Some out_vc
    → IsGranted old new port vc out_vc

-- an output channel was granted in a pass, to an input channel that waited for its port
pub record WasGranted (old : RouterState) (grants : List (List (Option ℕ))) (out c : ℕ) : Type 0 where
  pub port : ℕ
  pub vc : ℕ
  pub waited : (input_at old port vc).state ≡ Waiting out
  pub granted : cell grants port vc None ≡ Some c

-- what a pass leaves alone: buffers, credits and what is owed, and each channel that was not granted
pub record LeavesRest (old new : RouterState) (grants : List (List (Option ℕ))) : Type 0 where
  pub router : new ≡ record old { inputs = new.inputs; outputs = new.outputs; channel_alloc = new.channel_alloc }
  -- an input channel changes in its record alone, and only where it was granted an output channel
  pub inputs : (port vc : ℕ) → IsPlace old port vc
      → input_at new port vc ≡ in_state (input_at old port vc) (input_at new port vc).state
  pub ungranted : (port vc : ℕ) → IsPlace old port vc → cell grants port vc None ≡ None
      → input_at new port vc ≡ input_at old port vc
  -- an output channel changes in its holder alone, and only where it was granted
  pub outputs : (out c : ℕ) → IsPlace old out c → (output_at new out c).credits ≡ (output_at old out c).credits
  pub free : (out c : ℕ) → IsPlace old out c → (WasGranted old grants out c → ⊥)
      → output_at new out c ≡ output_at old out c

-- Switch allocation

-- the output port of a channel that may send
abbrev pub ready_at : RouterState → ℕ → ℕ → Option ℕ
ready_at r port vc = option_map (λ leave. leave.0) (leaving r port vc)

abbrev pub ready_outs : RouterState → List (List (Option ℕ))
ready_outs r = table (within r None (ready_at r))

abbrev pub switch_grants : RouterState → List (Option SwGrant)
switch_grants r = sw_grants r.switch_alloc (ready_outs r)

abbrev pub after_choose : RouterState → RouterState
after_choose r = record r { switch_alloc = sw_after r.switch_alloc (ready_outs r) }
