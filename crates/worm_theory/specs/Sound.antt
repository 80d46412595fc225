-- A sound network, said place by place: each clause is for all places, and reads but a few of them
-- (credits: Dally and Towles, chapter 13; records: chapter 16).
use Rattle.std.specs.Prelude.{◌≡◌, ℕ, ◌+◌, ◌<◌, ◌≤◌, Bool, true, false, cond, ◌==◌, ◌↔◌, List, [], ◌∷◌, ◌++◌, length}
use Rattle.std.specs.Prelude.{Some, None, IfSome, IsSomeAnd}
use Rattle.std.specs.List.{All, count_by}
use Rattle.worm_flit.specs.declared.Lane.{Lane}
use Rattle.worm_flit.specs.declared.Flit.{Flit}
use Rattle.worm_flit.specs.Stamps.{on_channel}
use Rattle.worm_flit.specs.Packets.{History}
use Rattle.worm_theory.specs.Worm.{Worm, Between, Runs, worm_after, lane_at}
use Rattle.worm_theory.specs.Shape.{Shape, HasLane, Owns, OwnsOne, Enters}
use Rattle.worm_theory.specs.Network.{Network, upstream}
use Rattle.worm_records.specs.declared.InRecord.{InRecord}
use Rattle.worm_records.specs.declared.InRecord.TheVariants.{Idle, Waiting, Active}
use Rattle.worm_theory.specs.Steps.{lane_injected, packets_in, has_mark}

-- Per link and channel: what left the buffer last, then the buffer, then the link's flits of the channel
-- lead to where the channel stands at its upstream end.
abbrev pub LinksRun : Shape → Network → Type 0
LinksRun s net = (y o x v : ℕ) → s.neighbour y o ≡ Some x
    → Runs (worm_after (net.last_out x (s.opposite o) v)) (net.buffer x (s.opposite o) v ++ on_channel v (net.out y o))
    (upstream net y o v)

-- what the source has yet to feed into this channel: its class's first channel gets it all
abbrev pub unfed_on : Shape → Network → ℕ → ℕ → List Flit
unfed_on s net x v = cond (s.first (s.owner v) == v) (net.unfed x (s.owner v)) []

-- per injection channel: the same, up to whole packets
abbrev pub SourcesRun : Shape → Network → Type 0
SourcesRun s net = (x v : ℕ) → Runs (worm_after (net.last_out x s.terminal v))
    (net.buffer x s.terminal v ++ unfed_on s net x v) Between

-- per sink and channel: what was delivered leads from nothing to where the channel stands
abbrev pub SinksRun : Shape → Network → Type 0
SinksRun s net = (x v : ℕ) → Runs Between (on_channel v (net.out x s.terminal)) (upstream net x s.terminal v)

-- a record fits the packet that its channel is within or that the front of its buffer opens
abbrev pub Agrees : Shape → ℕ → InRecord → Worm → List Flit → Type 0
Agrees s x Idle worm fs = worm ≡ Between
Agrees s x (Waiting o) worm fs = (worm ≡ Between) × IsSomeAnd (lane_at worm fs) (λ lane. s.next_port x lane.dst ≡ o)
Agrees s x (Active o c) worm fs = IsSomeAnd (lane_at worm fs)
    (λ lane. (s.next_port x lane.dst ≡ o) × Owns s lane.class c)

-- each input channel's record fits where the channel stands and what its buffer holds
abbrev pub RecordsAgree : Shape → Network → Type 0
RecordsAgree s net = (x p v : ℕ) → Agrees s x (net.in_record x p v) (worm_after (net.last_out x p v)) (net.buffer x p v)

-- an output channel is held exactly by the input channel that is active for it
abbrev pub HoldersAgree : Network → Type 0
HoldersAgree net = (x o c p v : ℕ) → (net.holder x o c ≡ Some (p, v)) ↔ (net.in_record x p v ≡ Active o c)

-- no buffer holds more than its depth
abbrev pub BuffersFit : Shape → Network → Type 0
BuffersFit s net = (x p v : ℕ) → length (net.buffer x p v) ≤ s.depth

-- Per link and channel: each place of the downstream buffer is a credit upstream, a flit on the link or in the buffer,
-- a credit owed or a credit on its way back.
abbrev pub CreditsAdd : Shape → Network → Type 0
CreditsAdd s net = (y o x v : ℕ) → v < s.vcs → s.neighbour y o ≡ Some x →
    net.credits y o v + length (on_channel v (net.out y o)) + length (net.buffer x (s.opposite o) v) + net.owed x
    (s.opposite o) v + count_by (λ c. v == c) (net.credit_list y o) ≡ s.depth

-- each credit on its way is a channel's
abbrev pub CreditsAreChannels : Shape → Network → Type 0
CreditsAreChannels s net = (y o : ℕ) → All (λ c. c < s.vcs) (net.credit_list y o)

-- the flit's route enters the node by this port, and its class owns the channel
pub record Passes (s : Shape) (x p v : ℕ) (f : Flit) : Type 0 where
  pub owned : Owns s f.lane.class v
  pub lane_there : HasLane s f.lane
  pub entered : Enters s f.lane x p

abbrev pub InBuffer : Shape → ℕ → ℕ → ℕ → Flit → Type 0
InBuffer s x p v f = (f.vc ≡ v) × Passes s x p v f

-- the flit's route leaves the node by this port, and its class owns its channel
pub record Leaves (s : Shape) (x o : ℕ) (f : Flit) : Type 0 where
  pub owned : Owns s f.lane.class f.vc
  pub lane_there : HasLane s f.lane
  pub by_port : s.next_port x f.lane.dst ≡ o
  pub from_port : ℕ
  pub entered : Enters s f.lane x from_port

-- the flit's lane starts at this node, is of this class, and is there
pub record IsFrom (s : Shape) (x k : ℕ) (f : Flit) : Type 0 where
  pub own : f.lane.src ≡ x
  pub own_class : f.lane.class ≡ k
  pub lane_there : HasLane s f.lane

-- what is in a buffer is of its channel, and its route comes by; so does that of the last out
abbrev pub BuffersHold : Shape → Network → Type 0
BuffersHold s net = (x p v : ℕ) → All (InBuffer s x p v) (net.buffer x p v)

abbrev pub LastsHold : Shape → Network → Type 0
LastsHold s net = (x p v : ℕ) → IfSome (net.last_out x p v) (Passes s x p v)

-- what is on a link or in a sink has a channel of its class, and its route leads there
abbrev pub OutsHold : Shape → Network → Type 0
OutsHold s net = (x o : ℕ) → All (Leaves s x o) (net.out x o)

-- what a source has yet to feed, and all that it accepted, is of lanes that start there
abbrev pub UnfedHold : Shape → Network → Type 0
UnfedHold s net = (x k : ℕ) → All (IsFrom s x k) (net.unfed x k)

abbrev pub AcceptedHold : Shape → Network → Type 0
AcceptedHold s net = (x k : ℕ) → All (IsFrom s x k) (net.injected x k)

-- a lane's list is a history of its packets and its mark
abbrev pub IsHistory : Lane → List Flit → Type 0
IsHistory lane fs = History lane (packets_in fs) (has_mark fs) fs

abbrev pub HistoriesHold : Network → Type 0
HistoriesHold net = (lane : Lane) → IsHistory lane (lane_injected net lane)

-- A sound network.
pub record Sound (s : Shape) (net : Network) : Type 0 where
  pub links : LinksRun s net
  pub sources : SourcesRun s net
  pub sinks : SinksRun s net
  pub records : RecordsAgree s net
  pub holders : HoldersAgree net
  pub fits : BuffersFit s net
  pub credits : CreditsAdd s net
  pub entries : CreditsAreChannels s net
  pub buffered : BuffersHold s net
  pub passed : LastsHold s net
  pub leaving : OutsHold s net
  pub unfed : UnfedHold s net
  pub accepted : AcceptedHold s net
  pub histories : HistoriesHold net

-- a buffer and its channel's flits on the link together do not exceed the depth
abbrev pub LinksFit : Shape → Network → Type 0
LinksFit s net = (y o x v : ℕ) → v < s.vcs → s.neighbour y o ≡ Some x
    → length (net.buffer x (s.opposite o) v) + length (on_channel v (net.out y o)) ≤ s.depth

-- only lanes whose class owns one channel are closed
abbrev pub OnesClosed : Shape → Network → Type 0
OnesClosed s net = (lane : Lane) → has_mark (lane_injected net lane) ≡ true → OwnsOne s lane.class

-- what comes from a source uses its class's first channel alone: the others at the terminal stay empty and idle
abbrev pub OthersIdle : Shape → Network → Type 0
OthersIdle s net = (x v : ℕ) → (s.first (s.owner v) ≡ v → ⊥)
    → (net.buffer x s.terminal v ≡ []) × (net.in_record x s.terminal v ≡ Idle) × (net.last_out x s.terminal v ≡ None)
