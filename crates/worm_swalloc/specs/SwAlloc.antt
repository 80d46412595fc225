-- One pass of switch allocation, separable and input first (Dally and Towles, chapter 19).
use Rattle.std.specs.Prelude.{◌≡◌, ℕ, ◌<◌, ◌≤◌, ◌==◌, ◌&&◌, nat_lt, Bool, true, false, if◌then◌else◌, List, []}
use Rattle.std.specs.Prelude.{Option, Some, None, IfSome, is_some, replicate, slice_index_or, slice_set}
use Rattle.std.specs.Option.{option_map}
use Rattle.worm_vcalloc.specs.Arbiter.{ArbiterState, no_arbiter, winner, after_pick}
use Rattle.worm_vcalloc.specs.ChannelSet.{has}
use Rattle.worm_vcalloc.specs.Table.{cell}
use Rattle.worm_swalloc.specs.Front.{with_front}
use Rattle.worm_swalloc.specs.declared.grant.SwGrant.{SwGrant}

-- an allocator: an arbiter for each input port and for each output port
pub record SwAllocState : Type 0 where
  pub ports : ℕ
  pub vcs : ℕ
  pub inputs : List ArbiterState
  pub outputs : List ArbiterState

-- between passes: each input arbiter has a line for each channel, each output arbiter one for each input port
pub record IsSwAlloc (ports vcs : ℕ) (inputs outputs : List ArbiterState) : Type 0 where
  pub some_port : 0 < ports
  pub few_ports : ports ≤ 7
  pub some_channel : 0 < vcs
  pub few_channels : vcs ≤ 8
  pub input_width : (i : ℕ) → i < 7 → (slice_index_or inputs i no_arbiter).width ≡ vcs
  pub input_pointer : (i : ℕ) → i < 7 → (slice_index_or inputs i no_arbiter).pointer < vcs
  pub output_width : (i : ℕ) → i < 7 → (slice_index_or outputs i no_arbiter).width ≡ ports
  pub output_pointer : (i : ℕ) → i < 7 → (slice_index_or outputs i no_arbiter).pointer < ports

-- the channel that the arbiter of an input port names: its first ready one
abbrev pub named_channel : SwAllocState → List (List (Option ℕ)) → ℕ → Option ℕ
named_channel s ready port = winner (slice_index_or s.inputs port no_arbiter) (λ vc. is_some (cell ready port vc None))

-- the request of an input port for the output port of its named channel
abbrev pub request_of : List (Option ℕ) → Option ℕ → Option SwGrant
request_of row None = None
request_of row (Some vc) = option_map (λ out. record { vc = vc; out = out }) (slice_index_or row vc None)

abbrev pub named : SwAllocState → List (List (Option ℕ)) → ℕ → Option SwGrant
named s ready port = request_of (slice_index_or ready port []) (named_channel s ready port)

-- what each input port names
abbrev pub all_named : SwAllocState → List (List (Option ℕ)) → List (Option SwGrant)
all_named s ready = with_front s.ports (named s ready) (replicate 7 None)

-- whether a request is for an output port
abbrev pub is_for : Option SwGrant → ℕ → Bool
is_for None out = false
is_for (Some g) out = g.out == out

-- the input port that the arbiter of an output port chooses
abbrev pub chosen : SwAllocState → List (Option SwGrant) → ℕ → Option ℕ
chosen s requests out = winner (slice_index_or s.outputs out no_arbiter)
    (λ port. is_for (slice_index_or requests port None) out)

-- the grants with the chosen port's request added
abbrev pub with_choice : List (Option SwGrant) → List (Option SwGrant) → Option ℕ → List (Option SwGrant)
with_choice grants requests None = grants
with_choice grants requests (Some port) = slice_set grants port (slice_index_or requests port None)

-- the channel of a grant
abbrev pub channel_of : Option SwGrant → Option ℕ
channel_of None = None
channel_of (Some g) = Some g.vc

-- the input arbiters once that of the chosen port has moved past the channel of its request
abbrev pub with_move : List ArbiterState → List (Option SwGrant) → Option ℕ → List ArbiterState
with_move inputs requests None = inputs
with_move inputs requests (Some port) =
    slice_set inputs port (after_pick (slice_index_or inputs port no_arbiter)
    (channel_of (slice_index_or requests port None)))

-- the arbiter of an input port once it has moved past the channel that it was granted
abbrev pub after_grant : SwAllocState → List (Option SwGrant) → ℕ → ArbiterState
after_grant s grants port = after_pick (slice_index_or s.inputs port no_arbiter)
    (channel_of (slice_index_or grants port None))

-- each request is for a channel below n
abbrev pub AreChannelsBelow : ℕ → List (Option SwGrant) → Type 0
AreChannelsBelow n requests = (port : ℕ) → IfSome (slice_index_or requests port None) (λ g. g.vc < n)

-- the input ports that ask for each output port, as a set of its channels
abbrev pub AreAskers : List (Option SwGrant) → ℕ → Type 0
AreAskers requests askers = (out port : ℕ) → out < 7 → port < 8
    → has askers out port ≡ is_for (slice_index_or requests port None) out

-- no other port has ready channels
abbrev pub IsSolePort : List (List (Option ℕ)) → ℕ → Type 0
IsSolePort ready port = (p v : ℕ) → p < 7 → v < 8 → ((p ≡ port) → ⊥) → cell ready p v None ≡ None

-- what the input ports name where one of them alone may name anything
abbrev pub sole_named : ℕ → Option SwGrant → List (Option SwGrant)
sole_named port request = slice_set (replicate 7 None) port request

-- the ready channels and their output ports are the allocator's, and no two share an input port or an output port: so
-- no arbiter has a choice
pub record AreApart (s : SwAllocState) (ready : List (List (Option ℕ))) : Type 0 where
  pub within : (port vc out : ℕ) → cell ready port vc None ≡ Some out
      → (port < s.ports) × (vc < s.vcs) × (out < s.ports)
  pub inputs : (port vc vc' out out' : ℕ) → cell ready port vc None ≡ Some out → cell ready port vc' None ≡ Some out'
      → vc ≡ vc'
  pub outputs : (port port' vc vc' out : ℕ) → cell ready port vc None ≡ Some out → cell ready port' vc' None ≡ Some out
      → port ≡ port'

-- the allocator once the arbiters of both ports have moved past what the input port is granted
abbrev pub after_granting : SwAllocState → ℕ → SwGrant → SwAllocState
after_granting s port g = record s {
  inputs = slice_set s.inputs port (after_pick (slice_index_or s.inputs port no_arbiter) (Some g.vc));
  outputs = slice_set s.outputs g.out (after_pick (slice_index_or s.outputs g.out no_arbiter) (Some port));
}

-- whether a grant is of this channel
abbrev pub is_of : Option SwGrant → ℕ → Bool
is_of None vc = false
is_of (Some g) vc = g.vc == vc

-- each channel of the set is that of its port's request
abbrev pub AreRequested : List (Option SwGrant) → ℕ → Type 0
AreRequested requests set = (port vc : ℕ) → port < 7 → vc < 8 → has set port vc ≡ true
    → is_of (slice_index_or requests port None) vc ≡ true

-- a request, where its channel is in the set
abbrev pub if_in : ℕ → ℕ → Option SwGrant → Option SwGrant
if_in set port None = None
if_in set port (Some g) = if has set port g.vc then Some g else None

abbrev pub granted_at : List (Option SwGrant) → ℕ → ℕ → Option SwGrant
granted_at requests set port = if_in set port (slice_index_or requests port None)

-- the grants that a set of channels makes of the requests
abbrev pub granted_of : List (Option SwGrant) → ℕ → List (Option SwGrant)
granted_of requests set = with_front 7 (granted_at requests set) (replicate 7 None)

-- the channels that are granted, as a set
pub record AreGranted (grants : List (Option SwGrant)) (set : ℕ) : Type 0 where
  pub each : (port vc : ℕ) → port < 7 → vc < 8 → has set port vc ≡ is_of (slice_index_or grants port None) vc
  -- and none is left out
  pub few : AreChannelsBelow 8 grants

-- whether the choice is this port
abbrev pub is_line : Option ℕ → ℕ → Bool
is_line None port = false
is_line (Some line) port = line == port

-- a request is granted where its output port, below n, chose its input port
abbrev pub if_chosen : SwAllocState → List (Option SwGrant) → ℕ → ℕ → Option SwGrant → Option SwGrant
if_chosen s requests n port None = None
if_chosen s requests n port (Some g) = if nat_lt g.out n && is_line (chosen s requests g.out) port then Some g else None

abbrev pub granted : SwAllocState → List (Option SwGrant) → ℕ → ℕ → Option SwGrant
granted s requests n port = if_chosen s requests n port (slice_index_or requests port None)

-- the grants of a pass
abbrev pub sw_grants : SwAllocState → List (List (Option ℕ)) → List (Option SwGrant)
sw_grants s ready = with_front s.ports (granted s (all_named s ready) s.ports) (replicate 7 None)

-- the arbiter of an output port afterwards
abbrev pub output_after : SwAllocState → List (Option SwGrant) → ℕ → ArbiterState
output_after s requests out = after_pick (slice_index_or s.outputs out no_arbiter) (chosen s requests out)

-- the arbiter of an input port afterwards: it moves only where its request was granted
abbrev pub input_after : SwAllocState → List (List (Option ℕ)) → List (Option SwGrant) → ℕ → ArbiterState
input_after s ready grants port =
    if is_some (slice_index_or grants port None)
    then after_pick (slice_index_or s.inputs port no_arbiter) (named_channel s ready port)
    else slice_index_or s.inputs port no_arbiter

-- the allocator after a pass
abbrev pub sw_after : SwAllocState → List (List (Option ℕ)) → SwAllocState
sw_after s ready = record s {
  inputs = with_front s.ports (input_after s ready (sw_grants s ready)) s.inputs;
  outputs = with_front s.ports (output_after s (all_named s ready)) s.outputs;
}

-- the grants of a pass match input ports to output ports
pub record IsSwitchMatching (s : SwAllocState) (ready : List (List (Option ℕ)))
    (grants : List (Option SwGrant)) : Type 0 where
  -- each grant is a ready channel with its output port
  pub requested : (port : ℕ) (g : SwGrant) → slice_index_or grants port None ≡ Some g
      → (cell ready port g.vc None ≡ Some g.out) × (port < s.ports) × (g.vc < s.vcs) × (g.out < s.ports)
  -- no output port is granted twice
  pub once : (port port' : ℕ) (g g' : SwGrant) → slice_index_or grants port None ≡ Some g
      → slice_index_or grants port' None ≡ Some g' → g.out ≡ g'.out → port ≡ port'
  -- an output port that some input arbiter named has a winner
  pub complete : (port : ℕ) (g : SwGrant) → port < s.ports → named s ready port ≡ Some g → g.out < s.ports
      → (port' : ℕ) × (g' : SwGrant) × (slice_index_or grants port' None ≡ Some g') × (g'.out ≡ g.out)
