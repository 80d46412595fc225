-- What a contract sees of a router, and what each call makes of it (Dally and Towles, chapters 13, 16 and 19).
use Rattle.std.specs.Prelude.{ℕ, ◌+◌, ◌-◌, ◌*◌, ◌≤◌, ◌<◌, ◌≡◌, ◌==◌, Bool, true, false, ◌&&◌, ◌||◌, nat_lt, is_none}
use Rattle.std.specs.Prelude.{if◌then◌else◌, List, [], ◌∷◌, ◌++◌, length, sum, drop, slice_index_or, slice_set}
use Rattle.std.specs.Prelude.{replicate, All, Option, None, Some, is_some, not}
use Rattle.worm_flit.specs.declared.Flit.{Flit}
use Rattle.worm_flit.specs.Kinds.{opens, closes}
use Rattle.worm_flit.specs.Stamps.{with_channel}
use Rattle.worm_flit.specs.Channels.{owns}
use Rattle.worm_mesh.specs.Address.{neighbour_of, node_count}
use Rattle.worm_route.specs.Route.{port_of}
use Rattle.worm_records.specs.declared.InRecord.{InRecord}
use Rattle.worm_records.specs.declared.InRecord.TheVariants.{Idle, Waiting, Active}
use Rattle.worm_records.specs.declared.OutRecord.{OutRecord}
use Rattle.worm_vcalloc.specs.VcAlloc.{VcAllocState}
use Rattle.worm_swalloc.specs.SwAlloc.{SwAllocState}

-- an input channel: its flits, front first, how many fit, its record, the credits that it owes, and the flit that left
-- last
pub record ChannelState : Type 0 where
  pub buffer : List Flit
  pub depth : ℕ
  pub state : InRecord
  pub owed : ℕ
  pub last_out : Option Flit

-- the input and output channels, each list by rising port, then channel
pub record RouterState : Type 0 where
  pub mesh : List ℕ
  pub node : ℕ
  pub channels : List ℕ
  pub depth : ℕ
  pub inputs : List ChannelState
  pub outputs : List OutRecord
  -- the arbiters of the two allocators
  pub channel_alloc : VcAllocState
  pub switch_alloc : SwAllocState

abbrev pub terminal : RouterState → ℕ
terminal r = 2 * length r.mesh

-- the number of channels of a port
abbrev pub width : RouterState → ℕ
width r = sum r.channels

-- the port faces a link: the node has a neighbour there
abbrev pub is_linked : RouterState → ℕ → Bool
is_linked r port = is_some (neighbour_of r.mesh r.node port)

-- the number of places in each list
abbrev pub places : RouterState → ℕ
places r = (terminal r + 1) * width r

abbrev pub router_state : List ℕ → ℕ → List ℕ → ℕ → List ChannelState → List OutRecord → VcAllocState → SwAllocState
    → RouterState
router_state mesh node channels depth inputs outputs channel_alloc switch_alloc =
    record {
      mesh = mesh;
      node = node;
      channels = channels;
      depth = depth;
      inputs = inputs;
      outputs = outputs;
      channel_alloc = channel_alloc;
      switch_alloc = switch_alloc;
    }

-- where a channel of a port stands in the lists
abbrev pub line : RouterState → ℕ → ℕ → ℕ
line r port vc = port * width r + vc

-- a port and a channel of the router
pub record IsPlace (r : RouterState) (port vc : ℕ) : Type 0 where
  pub port_in : port ≤ terminal r
  pub channel_in : vc < width r

abbrev pub fresh_channel : ℕ → ChannelState
fresh_channel depth = record { buffer = []; depth = depth; state = Idle; owed = 0; last_out = None }

abbrev pub free_output : ℕ → OutRecord
free_output depth = record { holder = None; credits = depth }

abbrev pub input_at : RouterState → ℕ → ℕ → ChannelState
input_at r port vc = slice_index_or r.inputs (line r port vc) (fresh_channel r.depth)

abbrev pub output_at : RouterState → ℕ → ℕ → OutRecord
output_at r out vc = slice_index_or r.outputs (line r out vc) (free_output r.depth)

abbrev pub with_input : RouterState → ℕ → ℕ → ChannelState → RouterState
with_input r port vc c = record r { inputs = slice_set r.inputs (line r port vc) c }

abbrev pub with_output : RouterState → ℕ → ℕ → OutRecord → RouterState
with_output r out vc o = record r { outputs = slice_set r.outputs (line r out vc) o }

-- allocators whose pointers stand at the first line
abbrev pub fresh_vc_alloc : ℕ → ℕ → VcAllocState
fresh_vc_alloc ports vcs =
    record {
      ports = ports;
      vcs = vcs;
      arbiters = replicate 7 (replicate 8 (record { width = ports * vcs; pointer = 0 }));
    }

abbrev pub fresh_sw_alloc : ℕ → ℕ → SwAllocState
fresh_sw_alloc ports vcs =
    record {
      ports = ports;
      vcs = vcs;
      inputs = replicate 7 (record { width = vcs; pointer = 0 });
      outputs = replicate 7 (record { width = ports; pointer = 0 });
    }

-- a router with empty buffers, every output free and every credit there
abbrev pub fresh_router : List ℕ → ℕ → List ℕ → ℕ → RouterState
fresh_router mesh node channels depth =
    let ports : ℕ = 2 * length mesh + 1 in
    let n : ℕ = ports * sum channels in
    router_state mesh node channels depth (replicate n (fresh_channel depth)) (replicate n (free_output depth))
    (fresh_vc_alloc ports (sum channels)) (fresh_sw_alloc ports (sum channels))

-- Accept

abbrev pub put_in : ChannelState → Flit → ChannelState
put_in c f = record c { buffer = c.buffer ++ f ∷ [] }

abbrev pub after_accept : RouterState → ℕ → Flit → RouterState
after_accept r port f = with_input r port f.vc (put_in (input_at r port f.vc) f)

-- Route

abbrev pub is_idle : InRecord → Bool
is_idle Idle = true
is_idle (Waiting o) = false
is_idle (Active o c) = false

abbrev pub opens_front : List Flit → Bool
opens_front [] = false
opens_front (f ∷ fs) = opens f.kind

abbrev pub can_route : RouterState → ℕ → ℕ → Bool
can_route r port vc = is_idle (input_at r port vc).state && opens_front (input_at r port vc).buffer

abbrev pub front_port : RouterState → List Flit → ℕ
front_port r [] = terminal r
front_port r (f ∷ fs) = port_of r.mesh r.node f.lane.dst

abbrev pub in_state : ChannelState → InRecord → ChannelState
in_state c s = record c { state = s }

abbrev pub after_route : RouterState → ℕ → ℕ → RouterState
after_route r port vc =
    with_input r port vc (in_state (input_at r port vc) (Waiting (front_port r (input_at r port vc).buffer)))

-- Grant

-- the output that the channel waits for, where its front flit may go out by the channel out_vc
abbrev pub granting : RouterState → InRecord → List Flit → ℕ → Option ℕ
granting r Idle fs c = None
granting r (Active o v) fs c = None
granting r (Waiting o) [] c = None
granting r (Waiting o) (f ∷ fs) c =
    if is_none (output_at r o c).holder && owns r.channels f.lane.class c then Some o else None

abbrev pub can_grant : RouterState → ℕ → ℕ → ℕ → Option ℕ
can_grant r port vc out_vc = granting r (input_at r port vc).state (input_at r port vc).buffer out_vc

abbrev pub after_granting : RouterState → ℕ → ℕ → ℕ → Option ℕ → RouterState
after_granting r port vc out_vc None = r
after_granting r port vc out_vc (Some o) =
    with_output
    (with_input r port vc (in_state (input_at r port vc) (Active o out_vc)))
    o out_vc
    (record (output_at r o out_vc) { holder = Some (port, vc) })

abbrev pub after_grant : RouterState → ℕ → ℕ → ℕ → RouterState
after_grant r port vc out_vc = after_granting r port vc out_vc (can_grant r port vc out_vc)

-- Send

-- the out port and the front flit as it would leave
abbrev pub leaving_by : RouterState → ℕ → ChannelState → InRecord → List Flit → Option (ℕ × Flit)
leaving_by r port c Idle fs = None
leaving_by r port c (Waiting o) fs = None
leaving_by r port c (Active o v) [] = None
leaving_by r port c (Active o v) (f ∷ fs) =
    if (o == terminal r || nat_lt 0 (output_at r o v).credits) && (not (is_linked r port) || nat_lt c.owed r.depth)
    then Some (o, with_channel f v)
    else None

abbrev pub leaving : RouterState → ℕ → ℕ → Option (ℕ × Flit)
leaving r port vc =
    leaving_by r port (input_at r port vc) (input_at r port vc).state (input_at r port vc).buffer

-- the input channel without its front, which left as f
abbrev pub let_out : ChannelState → Flit → ℕ → ChannelState
let_out c f more_owed =
    record {
      buffer = drop 1 c.buffer;
      depth = c.depth;
      state = (if closes f.kind then Idle else c.state);
      owed = c.owed + more_owed;
      last_out = Some f;
    }

-- the output channel by which f left
abbrev pub passed : OutRecord → Flit → ℕ → OutRecord
passed o f spent =
    record { holder = (if closes f.kind then None else o.holder); credits = o.credits - spent }

-- what a flit that leaves by the output port costs: a credit, but none at the terminal
abbrev pub credit_of : RouterState → ℕ → ℕ
credit_of r port = if port == terminal r then 0 else 1

-- what is owed for a flit that leaves the input port: a credit where the port faces a link
abbrev pub owed_for : RouterState → ℕ → ℕ
owed_for r port = if is_linked r port then 1 else 0

-- what is there for a flit that may leave by the port d.0
pub record MayLeave (r : RouterState) (port vc : ℕ) (d : ℕ × Flit) : Type 0 where
  pub out_in : d.0 ≤ terminal r
  pub channel_in : d.1.vc < width r
  pub bound_for_node : d.1.lane.dst < node_count r.mesh
  pub has_credit : credit_of r d.0 ≤ (output_at r d.0 d.1.vc).credits
  pub may_owe : (input_at r port vc).owed + owed_for r port ≤ r.depth

abbrev pub after_leaving : RouterState → ℕ → ℕ → Option (ℕ × Flit) → RouterState
after_leaving r port vc None = r
after_leaving r port vc (Some d) =
    with_output
    (with_input r port vc (let_out (input_at r port vc) d.1 (owed_for r port)))
    d.0 d.1.vc
    (passed (output_at r d.0 d.1.vc) d.1 (credit_of r d.0))

abbrev pub after_send : RouterState → ℕ → ℕ → RouterState
after_send r port vc = after_leaving r port vc (leaving r port vc)

-- Credits

abbrev pub after_gave : RouterState → ℕ → ℕ → RouterState
after_gave r port vc =
    with_input r port vc (record (input_at r port vc) { owed = (input_at r port vc).owed - 1 })

abbrev pub after_credit : RouterState → ℕ → ℕ → RouterState
after_credit r out vc =
    with_output r out vc (record (output_at r out vc) { credits = (output_at r out vc).credits + 1 })

-- What holds of each router

-- the ports and channels that a record names are there
abbrev pub StateFits : ℕ → ℕ → InRecord → Type 0
StateFits terminal width Idle = Unit {0}
StateFits terminal width (Waiting o) = o ≤ terminal
StateFits terminal width (Active o c) = (o ≤ terminal) × (c < width)

-- what holds of each input channel of a router with this mesh, these channels and this depth
pub record IsChannel (mesh channels : List ℕ) (depth : ℕ) (c : ChannelState) : Type 0 where
  pub same_depth : c.depth ≡ depth
  pub fits : length c.buffer ≤ depth
  pub bound_for_nodes : All (λ f. f.lane.dst < node_count mesh) c.buffer
  pub state_fits : StateFits (2 * length mesh) (sum channels) c.state
  pub owed_fits : c.owed ≤ depth

-- what holds of the input and output channels of a router: its mesh, node, channels and depth, and both lists
pub record HasLists (mesh : List ℕ) (node : ℕ) (channels : List ℕ) (depth : ℕ) (inputs : List ChannelState)
    (outputs : List OutRecord) : Type 0 where
  pub node_in : node < node_count mesh
  pub depth_in : depth ≤ 16
  pub all_inputs : length inputs ≡ (2 * length mesh + 1) * sum channels
  pub all_outputs : length outputs ≡ (2 * length mesh + 1) * sum channels
  pub inputs_sound : All (IsChannel mesh channels depth) inputs
  pub credits_fit : All (λ o. o.credits ≤ depth) outputs
  pub terminal_full : (vc : ℕ) → vc < sum channels
      → (slice_index_or outputs (2 * length mesh * sum channels + vc) (free_output depth)).credits ≡ depth

-- the allocators are for so many ports and channels
pub record HasAllocators (ports vcs : ℕ) (channel_alloc : VcAllocState)
    (switch_alloc : SwAllocState) : Type 0 where
  pub channel_ports : channel_alloc.ports ≡ ports
  pub channel_vcs : channel_alloc.vcs ≡ vcs
  pub switch_ports : switch_alloc.ports ≡ ports
  pub switch_vcs : switch_alloc.vcs ≡ vcs

pub record IsRouter (r : RouterState) : Type 0 where
  pub lists : HasLists r.mesh r.node r.channels r.depth r.inputs r.outputs
  pub allocators : HasAllocators (terminal r + 1) (width r) r.channel_alloc r.switch_alloc
