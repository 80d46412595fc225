-- One pass of virtual-channel allocation (Dally and Towles, chapter 19).
use Rattle.std.specs.Prelude.{◌≡◌, ℕ, ◌/◌, ◌%◌, ◌<◌, ◌&&◌, Bool, false, if◌then◌else◌, List, Option, Some}
use Rattle.std.specs.Prelude.{None, is_none, IsTrue, fold}
use Rattle.std.specs.List.{range_with_len}
use Rattle.worm_vcalloc.specs.declared.request.VcRequest.{VcRequest}
use Rattle.worm_vcalloc.specs.VcRequest.{may_use}
use Rattle.worm_vcalloc.specs.Arbiter.{ArbiterState, no_arbiter, winner, after_pick}
use Rattle.worm_vcalloc.specs.Table.{cell, with_cell}

-- an allocator: an arbiter for each output port and channel
pub record VcAllocState : Type 0 where
  pub ports : ℕ
  pub vcs : ℕ
  pub arbiters : List (List ArbiterState)

-- whether an input channel is a requester of (out, channel): it may use it and has no grant yet
abbrev pub is_requester : List (List (Option VcRequest)) → List (List (Option ℕ)) → ℕ → ℕ → ℕ → ℕ → Bool
is_requester waiting grants out channel port vc =
    may_use (cell waiting port vc None) out channel && is_none (cell grants port vc None)

-- the allocator in the midst of a pass, with what it has granted so far
pub record VcPass : Type 0 where
  pub alloc : VcAllocState
  pub grants : List (List (Option ℕ))

-- the winner's grant
abbrev pub with_grant : ℕ → List (List (Option ℕ)) → ℕ → Option ℕ → List (List (Option ℕ))
with_grant vcs grants channel None = grants
with_grant vcs grants channel (Some line) = with_cell grants (line / vcs) (line % vcs) (Some channel)

-- the line that wins a free output channel
abbrev pub vc_winner : List (List (Option VcRequest)) → VcPass → ℕ → ℕ → Option ℕ
vc_winner waiting pass out channel =
    winner (cell pass.alloc.arbiters out channel no_arbiter)
    (λ line. is_requester waiting pass.grants out channel (line / pass.alloc.vcs) (line % pass.alloc.vcs))

-- a free output channel is offered to its requesters
unfoldable pub offered : List (List (Option VcRequest)) → VcPass → ℕ → ℕ → VcPass
offered waiting pass out channel =
    let line = vc_winner waiting pass out channel in
    let arbiters = pass.alloc.arbiters in
    record {
      alloc = record {
        ports = pass.alloc.ports;
        vcs = pass.alloc.vcs;
        arbiters = with_cell arbiters out channel (after_pick (cell arbiters out channel no_arbiter) line);
      };
      grants = with_grant pass.alloc.vcs pass.grants channel line;
    }

-- an output channel is offered where it is free
abbrev pub vc_step : List (List (Option VcRequest)) → List (List Bool) → ℕ → VcPass → ℕ → VcPass
vc_step waiting free out pass channel =
    if cell free out channel false then offered waiting pass out channel else pass

-- the channels of one output port, rising
unfoldable pub port_pass : List (List (Option VcRequest)) → List (List Bool) → VcPass → ℕ → VcPass
port_pass waiting free pass out = fold (vc_step waiting free out) pass (range_with_len 0 pass.alloc.vcs)

-- the output ports, rising
unfoldable pub vc_pass : List (List (Option VcRequest)) → List (List Bool) → VcPass → VcPass
vc_pass waiting free pass = fold (port_pass waiting free) pass (range_with_len 0 pass.alloc.ports)

-- input channel (port, vc) was granted this channel of this output port
pub record HasWon (waiting : List (List (Option VcRequest))) (grants : List (List (Option ℕ)))
    (port vc out channel : ℕ) : Type 0 where
  pub requested : IsTrue (may_use (cell waiting port vc None) out channel)
  pub granted : cell grants port vc None ≡ Some channel

-- the grants of a pass match requests to free output channels
pub record IsChannelMatching (ports vcs : ℕ) (waiting : List (List (Option VcRequest))) (free : List (List Bool))
    (grants : List (List (Option ℕ))) : Type 0 where
  -- each grant is a request, for a free channel of the port that is waited for
  pub requested : (port vc channel : ℕ) → cell grants port vc None ≡ Some channel
      → (out : ℕ) × HasWon waiting grants port vc out channel × IsTrue (cell free out channel false) × (port < ports)
      × (vc < vcs) × (out < ports) × (channel < vcs)
  -- no output channel is granted twice
  pub once : (port vc port' vc' out channel : ℕ) → HasWon waiting grants port vc out channel
      → HasWon waiting grants port' vc' out channel → (port ≡ port') × (vc ≡ vc')
  -- a free output channel that an ungranted input channel may use has a winner
  pub complete : (out channel port vc : ℕ) → out < ports → channel < vcs → port < ports → vc < vcs
      → IsTrue (cell free out channel false) → IsTrue (may_use (cell waiting port vc None) out channel)
      → cell grants port vc None ≡ None
      → (port' : ℕ) × (vc' : ℕ) × HasWon waiting grants port' vc' out channel
