-- Which input channels have something to do: the sets that a router keeps beside its lists, so that a turn skips all
-- others.
use Rattle.std.specs.Prelude.{ℕ, ◌+◌, ◌*◌, ◌<◌, ◌≤◌, ◌≡◌, ◌==◌, ◌&&◌, ◌||◌, nat_lt, Bool, true, false, List, length}
use Rattle.std.specs.Prelude.{slice_index, slice_index_or, All, Option, Some, None, is_some, not}
use Rattle.worm_flit.specs.Channels.{AreChannels, class_bits, first_channel}
use Rattle.worm_flit.specs.SmallSet.{has as has_small}
use Rattle.worm_mesh.specs.Address.{neighbour_of}
use Rattle.worm_records.specs.declared.InRecord.{InRecord}
use Rattle.worm_records.specs.declared.InRecord.TheVariants.{Idle, Waiting, Active}
use Rattle.worm_vcalloc.specs.ChannelSet.{has}
use Rattle.worm_vcalloc.specs.Table.{cell, table}
use Rattle.worm_swalloc.specs.SwAlloc.{SwAllocState}
use Rattle.worm_router.specs.Allocation.{within}
use Rattle.worm_router.specs.Demand.{DemandView, IsDemandOf}
use Rattle.worm_router.specs.declared.busy.BusyChannels.{BusyChannels}
use Rattle.worm_router.specs.Router.{ChannelState, RouterState, IsRouter, terminal, width, fresh_channel}
use Rattle.worm_router.specs.Router.{input_at, is_idle, is_linked, output_at}

-- an input channel has a flit
abbrev pub is_occupied : ChannelState → Bool
is_occupied c = nat_lt 0 (length c.buffer)

abbrev pub waits : InRecord → Bool
waits Idle = false
waits (Waiting o) = true
waits (Active o c) = false

-- it waits for an output channel
abbrev pub is_waiting : ChannelState → Bool
is_waiting c = waits c.state

abbrev pub holds : InRecord → Bool
holds Idle = false
holds (Waiting o) = false
holds (Active o c) = true

-- it holds an output channel
abbrev pub is_active : ChannelState → Bool
is_active c = holds c.state

-- it has a flit and lacks a route
abbrev pub lacks_route : ChannelState → Bool
lacks_route c = is_idle c.state && is_occupied c

-- it owes a credit
abbrev pub owes : ChannelState → Bool
owes c = nat_lt 0 c.owed

-- a set has the input channels that pass a test, and no others
pub record IsSetIn (test : ChannelState
    → Bool) (terminal width depth : ℕ) (inputs : List ChannelState) (set : ℕ) : Type 0 where
  pub inside : (port vc : ℕ) → port ≤ terminal → vc < width
      → has set port vc ≡ test (slice_index_or inputs (port * width + vc) (fresh_channel depth))
  pub outside : (port vc : ℕ) → port < 7 → vc < 8 → has set port vc ≡ true → (port ≤ terminal) × (vc < width)

-- a set has those input channels of a router that pass a test, and no others
abbrev pub IsSetOf : (ChannelState → Bool) → RouterState → ℕ → Type 0
IsSetOf test r set = IsSetIn test (terminal r) (width r) r.depth r.inputs set

-- the sets of these input channels
pub record AreBusy (terminal width depth : ℕ) (inputs : List ChannelState) (sets : BusyChannels) : Type 0 where
  pub few_ports : terminal ≤ 6
  pub few_channels : width ≤ 8
  pub occupied : IsSetIn is_occupied terminal width depth inputs sets.occupied
  pub owing : IsSetIn owes terminal width depth inputs sets.owing

-- a set has the channels that may send: they hold an output channel, have a flit, lack no credit and do not owe all
-- that they may
abbrev pub AreReady : BusyChannels → ℕ → Type 0
AreReady sets set = (p v : ℕ) → p < 7 → v < 8
    → has set p v ≡ (((is_some (cell sets.outs p v None) && has sets.occupied p v) && not (has sets.no_credit p v))
    && not (has sets.owes_all p v))

-- a set has changed at one channel alone, if at all, which is now in it or not
pub record IsFiled (old new port vc : ℕ) (within : Bool) : Type 0 where
  pub here : has new port vc ≡ within
  pub elsewhere : (p c : ℕ) → p < 7 → c < 8 → ((p ≡ port) → (c ≡ vc) → ⊥) → has new p c ≡ has old p c

-- a holder of an output channel is an input channel of the router
abbrev pub IsHolder : ℕ → ℕ → Option (ℕ × ℕ) → Type 0
IsHolder terminal width None = Unit {0}
IsHolder terminal width (Some h) = (h.0 ≤ terminal) × (h.1 < width)

-- each input channel that holds an output channel is its holder, and no other is
pub record AreHolders (r : RouterState) : Type 0 where
  pub held : (p v o c : ℕ) → p ≤ terminal r → v < width r → (input_at r p v).state ≡ Active o c
      → (output_at r o c).holder ≡ Some (p, v)
  pub holds : (o c : ℕ) (h : ℕ × ℕ) → o ≤ terminal r → c < width r → (output_at r o c).holder ≡ Some h
      → (input_at r h.0 h.1).state ≡ Active o c
  pub fit : All (λ u. IsHolder (terminal r) (width r) u.holder) r.outputs

-- a channel in this state holds an output channel, and has no credit there
abbrev pub lacks_credit : RouterState → InRecord → Bool
lacks_credit r Idle = false
lacks_credit r (Waiting o) = false
lacks_credit r (Active o c) = not (o == terminal r || nat_lt 0 (output_at r o c).credits)

-- so many credits owed by a channel of this port leave no room for one more
abbrev pub owes_all : RouterState → ℕ → ℕ → Bool
owes_all r port owed = not (not (is_linked r port) || nat_lt owed r.depth)

-- a set has those channels of a router that pass a test, and none of its others
pub record AreThose (test : ℕ → ChannelState → Bool) (r : RouterState) (set : ℕ) : Type 0 where
  pub each : (p v : ℕ) → p ≤ terminal r → v < width r → has set p v ≡ test p (input_at r p v)

-- a set has those that lack a credit
abbrev pub LackCredit : RouterState → ℕ → Type 0
LackCredit r set = AreThose (λ p c. lacks_credit r c.state) r set

-- a set has those that owe all that they may
abbrev pub OweAll : RouterState → ℕ → Type 0
OweAll r set = AreThose (λ p c. owes_all r p c.owed) r set

-- a set has channels of those ports alone that face a link
pub record OweByLinks (mesh : List ℕ) (node set : ℕ) : Type 0 where
  pub each : (p v : ℕ) → p < 7 → v < 8 → has set p v ≡ true → is_some (neighbour_of mesh node p) ≡ true

-- the injection buffer of a class is full: its flits are fed on its first channel
pub record IsFull (r : RouterState) (class : ℕ) : Type 0 where
  pub class_in : class < length r.channels
  pub channel_in : first_channel r.channels class < width r
  pub no_room : r.depth ≤ length (input_at r (terminal r) (first_channel r.channels class)).buffer

-- a set has no classes but those whose injection buffer is full
abbrev pub AreFull : RouterState → ℕ → Type 0
AreFull r set = (class : ℕ) → class < 8 → has_small set class ≡ true → IsFull r class

-- the output port whose channel an input channel holds
abbrev pub port_held : InRecord → Option ℕ
port_held Idle = None
port_held (Waiting o) = None
port_held (Active o c) = Some o

-- the output port of each channel that holds an output channel
abbrev pub held_outs : RouterState → List (List (Option ℕ))
held_outs r = table (within r None (λ p v. port_held (input_at r p v).state))

-- the channels of each class, as a bit for each
pub record AreMasks (channels masks : List ℕ) : Type 0 where
  pub are : AreChannels channels
  pub four : length masks ≡ 4
  pub each : (class : ℕ) → class < 4 → slice_index masks class ≡ class_bits channels class

-- the allocator of the switch has an arbiter for each of its ports, on either side
pub record HasArbiters (s : SwAllocState) : Type 0 where
  pub inputs : s.ports ≤ length s.inputs
  pub outputs : s.ports ≤ length s.outputs

-- what waits has a flit to wait with
abbrev pub HasFront : ChannelState → Type 0
HasFront c = is_waiting c ≡ true → is_occupied c ≡ true

-- what a router keeps: what contracts see, and the sets, the requests and the masks of classes beside it
pub record IsKept (r : RouterState) (sets : BusyChannels) (asked : DemandView) (masks : List ℕ) : Type 0 where
  pub router : IsRouter r
  pub arbiters : HasArbiters r.switch_alloc
  pub busy : AreBusy (terminal r) (width r) r.depth r.inputs sets
  pub demand : IsDemandOf r asked
  pub fronts : All HasFront r.inputs
  pub holders : AreHolders r
  pub outs : sets.outs ≡ held_outs r
  pub no_credit : LackCredit r sets.no_credit
  pub owes_all : OweAll r sets.owes_all
  pub links : OweByLinks r.mesh r.node sets.owing
  pub full : AreFull r sets.full
  pub classes : AreMasks r.channels masks
