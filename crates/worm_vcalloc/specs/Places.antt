-- Arbiters by the places of the input channels that they ask last. Input channel (port, vc) stands at the place
-- `8 * port + vc`, and a place has the line of its input channel.
use Rattle.std.specs.Prelude.{ℕ, ◌+◌, ◌*◌, ◌/◌, ◌%◌, ◌<◌, ◌≤◌, List, map}
use Rattle.std.specs.List.{All}
use Rattle.worm_vcalloc.specs.Arbiter.{ArbiterState, asking_last}
use Rattle.worm_vcalloc.specs.Table.{IsTable}

-- the line of the input channel at a place
abbrev pub line_of : ℕ → ℕ → ℕ
line_of vcs place = place / 8 * vcs + place % 8

-- the arbiter that asks a place last
abbrev pub arbiter_at : ℕ → ℕ → ℕ → ArbiterState
arbiter_at ports vcs place = asking_last (ports * vcs) (line_of vcs place)

-- the arbiters of all output channels, by the places that they ask last
abbrev pub arbiters_at : ℕ → ℕ → List (List ℕ) → List (List ArbiterState)
arbiters_at ports vcs places = map (map (arbiter_at ports vcs)) places

-- the router has the input channel at the place
pub record IsPlace (ports vcs place : ℕ) : Type 0 where
  pub port_in : place / 8 < ports
  pub channel_in : place % 8 < vcs

-- between passes: one to seven ports, one to eight channels, and what each arbiter asks last is an input channel of
-- the router
pub record IsPlaced (ports vcs : ℕ) (places : List (List ℕ)) : Type 0 where
  pub some_port : 0 < ports
  pub few_ports : ports ≤ 7
  pub some_channel : 0 < vcs
  pub few_channels : vcs ≤ 8
  pub shape : IsTable places
  pub each : All (All (IsPlace ports vcs)) places
