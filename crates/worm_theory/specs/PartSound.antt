-- What a node knows by itself, place by place: each clause is for all nodes and reads the places of one alone, so what
-- each part knows of its own nodes is, taken together, known of all. The network at the split may be read anywhere.
use Rattle.std.specs.Prelude.{◌≡◌, ℕ, ◌+◌, ◌<◌, ◌==◌, List, ◌++◌, length, Some}
use Rattle.std.specs.List.{All, count_by}
use Rattle.worm_flit.specs.declared.Lane.{Lane}
use Rattle.worm_flit.specs.declared.Flit.{Flit}
use Rattle.worm_flit.specs.Stamps.{on_channel}
use Rattle.worm_theory.specs.Worm.{Runs, worm_after}
use Rattle.worm_theory.specs.Shape.{Shape, HasLane, Enters}
use Rattle.worm_theory.specs.Network.{Network, upstream}
use Rattle.worm_theory.specs.Sound.{SourcesRun, SinksRun, RecordsAgree, HoldersAgree, BuffersFit, BuffersHold}
use Rattle.worm_theory.specs.Sound.{LastsHold, OutsHold, UnfedHold, AcceptedHold, HistoriesHold, OthersIdle}
use Rattle.worm_theory.specs.Sound.{OnesClosed, Passes}
use Rattle.worm_theory.specs.Cut.{held}
use Rattle.worm_theory.specs.Parts.{Parts, worm_end, opened, reached}

-- per link into a node and channel: what left the buffer last and then the buffer lead to where the channel stands
abbrev pub ArrivalsRun : Shape → Network → Parts → Type 0
ArrivalsRun s old parts = (x p y v : ℕ) → s.neighbour x p ≡ Some y →
    Runs (worm_after (parts.near.last_out x p v)) (parts.near.buffer x p v) (reached old parts x p v)

-- per link out of a node and channel: all that was sent leads from where the channel stood at the split, at the link's
-- far end, to where what its holder sent last leaves it
abbrev pub DeparturesRun : Shape → Network → Parts → Type 0
DeparturesRun s old parts = (y o x v : ℕ) → s.neighbour y o ≡ Some x →
    Runs (opened old x (s.opposite o) v) (on_channel v (parts.near.out y o)) (upstream parts.near y o v)

abbrev pub count_of : ℕ → List ℕ → ℕ
count_of v cs = count_by (λ c. v == c) cs

-- The upstream half of a channel's balance: credits left and flits sent are those at the split and the credits
-- counted.
abbrev pub CreditsUp : Shape → Network → Parts → Type 0
CreditsUp s old parts = (y o x v : ℕ) → v < s.vcs → s.neighbour y o ≡ Some x →
    parts.near.credits y o v + length (on_channel v (parts.near.out y o)) ≡
    old.credits y o v + length (on_channel v (old.out y o)) + count_of v (parts.near.credit_list y o)

-- The downstream half: flits held, credits owed and credits given are those at the split and the flits that arrived.
abbrev pub CreditsDown : Shape → Network → Parts → Type 0
CreditsDown s old parts = (x p y v : ℕ) → v < s.vcs → s.neighbour x p ≡ Some y →
    length (parts.near.buffer x p v) + parts.near.owed x p v + count_of v (parts.given x p) ≡
    length (old.buffer x p v) + old.owed x p v + count_of v (old.credit_list y (s.opposite p)) +
    length (on_channel v (parts.arrived x p))

-- each credit given is a channel's
abbrev pub GivenAreChannels : Shape → Parts → Type 0
GivenAreChannels s parts = (x p : ℕ) → All (λ c. c < s.vcs) (parts.given x p)

-- what was on a link at the split, or in a sink, is the first of what its port sent
abbrev pub SentSince : Network → Parts → Type 0
SentSince old parts = (x o : ℕ) → (more : List Flit) × (parts.near.out x o ≡ old.out x o ++ more)

-- A node that is sound by itself.
pub record PartSound (s : Shape) (old : Network) (parts : Parts) : Type 0 where
  -- the two ends of a link, in place of the one clause of a sound network
  pub arrivals : ArrivalsRun s old parts
  pub departures : DeparturesRun s old parts
  -- the two halves of its credits' balance, likewise
  pub credits_up : CreditsUp s old parts
  pub credits_down : CreditsDown s old parts
  pub given : GivenAreChannels s parts
  pub sent_since : SentSince old parts
  -- the other clauses of a sound network
  pub sources : SourcesRun s parts.near
  pub sinks : SinksRun s parts.near
  pub records : RecordsAgree s parts.near
  pub holders : HoldersAgree parts.near
  pub fits : BuffersFit s parts.near
  pub buffered : BuffersHold s parts.near
  pub passed : LastsHold s parts.near
  pub leaving : OutsHold s parts.near
  pub unfed : UnfedHold s parts.near
  pub accepted : AcceptedHold s parts.near
  pub histories : HistoriesHold parts.near

-- an input channel is a queue: what left it and then what it holds is what it held at the split and then what arrived
abbrev pub ChannelsQueue : Network → Parts → Type 0
ChannelsQueue old parts = (x p v : ℕ) →
    on_channel v (parts.departed x p) ++ parts.near.buffer x p v ≡ old.buffer x p v ++ on_channel v (parts.arrived x p)

-- what left it last is the last of what departed, or else what left it last at the split
abbrev pub LastsDepart : Network → Parts → Type 0
LastsDepart old parts = (x p v : ℕ) →
    worm_after (parts.near.last_out x p v) ≡ worm_end (worm_after (old.last_out x p v))
    (on_channel v (parts.departed x p))

-- what is sent of a lane, by the port by which its route leaves, is what departs from the port by which it enters
abbrev pub DepartedAreSent : Shape → Network → Parts → Type 0
DepartedAreSent s old parts = (lane : Lane) → HasLane s lane → (x p : ℕ) → Enters s lane x p →
    held lane (parts.near.out x (s.next_port x lane.dst)) ≡
    held lane (old.out x (s.next_port x lane.dst)) ++ held lane (parts.departed x p)

-- a lane's source is a queue too: what was fed since the split and what is yet unfed is what was unfed and what was
-- accepted
abbrev pub SourceQueues : Shape → Network → Parts → ℕ → ℕ → List Flit → Type 0
SourceQueues s old parts x k accepted = (lane : Lane) → lane.src ≡ x → lane.class ≡ k →
    held lane (parts.arrived x s.terminal) ++ held lane (parts.near.unfed x k) ≡
    held lane (old.unfed x k) ++ held lane accepted

abbrev pub SourcesQueue : Shape → Network → Parts → Type 0
SourcesQueue s old parts =
    (x k : ℕ) → (accepted : List Flit) × (parts.near.injected x k ≡ old.injected x k ++ accepted) ×
    SourceQueues s old parts x k accepted

-- the flit's route enters the node by this port, and its class owns its channel
abbrev pub ComesBy : Shape → ℕ → ℕ → Flit → Type 0
ComesBy s x p f = Passes s x p f.vc f

-- What a node knows of the order of flits; so the lanes and the packets of the joined network are cut.
pub record PartQueues (s : Shape) (old : Network) (parts : Parts) : Type 0 where
  pub inputs : ChannelsQueue old parts
  pub lasts : LastsDepart old parts
  pub sends : DepartedAreSent s old parts
  pub sources : SourcesQueue s old parts
  -- what came and what left came by its route; what a source fed is on its class's first channel
  pub arriving : (x p : ℕ) → All (ComesBy s x p) (parts.arrived x p)
  pub departing : (x p : ℕ) → All (ComesBy s x p) (parts.departed x p)
  pub fed : (x : ℕ) → All (λ f. f.vc ≡ s.first f.lane.class) (parts.arrived x s.terminal)

-- All that each node keeps by itself.
pub record PartHolds (s : Shape) (old : Network) (parts : Parts) : Type 0 where
  pub sound : PartSound s old parts
  pub queues : PartQueues s old parts
  pub others : OthersIdle s parts.near
  pub closed : OnesClosed s parts.near
