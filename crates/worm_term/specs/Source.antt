-- What a contract sees of a source, and what each call makes of it (Dally and Towles, chapters 12 and 13).
use Rattle.std.specs.Prelude.{ℕ, ◌+◌, ◌*◌, ◌≤◌, ◌<◌, ◌≡◌, ◌==◌, Bool, true, false, ◌&&◌, not, nat_lt, nat_le}
use Rattle.std.specs.Prelude.{if◌then◌else◌, List, [], ◌∷◌, length, slice_index, slice_index_or, slice_set, replicate}
use Rattle.std.specs.Prelude.{All, Option, None, Some, is_some, option_map, unwrap_or, Result, OnOk, OnErr, IfErr}
use Rattle.worm_flit.specs.declared.Lane.{Lane}
use Rattle.worm_flit.specs.declared.Flit.{Flit}
use Rattle.worm_flit.specs.Channels.{first_channel}
use Rattle.worm_flit.specs.Packets.{History, PacketState, mark, packet_flits}
use Rattle.worm_term.specs.declared.fault.OfferFault.{OfferFault}
use Rattle.worm_term.specs.declared.fault.OfferFault.TheVariants.{WrongSource, NoSuchNode, NoSuchClass, ManyChannels}
use Rattle.worm_term.specs.declared.fault.OfferFault.TheVariants.{LaneClosed, LaneFull, NoMemory}
use Rattle.worm_term.specs.declared.source.LaneState.{LaneState}
use Rattle.worm_flit.specs.SmallSet.{has}
use Rattle.worm_flit.specs.Stamps.{of_lane, with_channel}
use Rattle.worm_term.specs.Lanes.{lane_of}
use Rattle.worm_term.specs.Queue.{QueueState, empty_queue, appended, waiting, one_fed}

-- the queues by class, and the lanes by destination, then class
pub record SourceState : Type 0 where
  pub node : ℕ
  pub nodes : ℕ
  pub channels : List ℕ
  pub queues : List QueueState
  pub lanes : List LaneState

abbrev pub classes : SourceState → ℕ
classes s = length s.channels

abbrev pub fresh_lane : LaneState
fresh_lane = record { next = 0; closed = false }

abbrev pub source_state : ℕ → ℕ → List ℕ → List QueueState → List LaneState → SourceState
source_state node nodes channels queues lanes =
    record { node = node; nodes = nodes; channels = channels; queues = queues; lanes = lanes }

abbrev pub fresh_source : ℕ → ℕ → List ℕ → SourceState
fresh_source node nodes channels =
    source_state node nodes channels
    (replicate (length channels) empty_queue)
    (replicate (nodes * length channels) fresh_lane)

-- where the lane's counter stands
abbrev pub lane_line : SourceState → Lane → ℕ
lane_line s lane = lane.dst * classes s + lane.class

abbrev pub lane_at : SourceState → Lane → LaneState
lane_at s lane = slice_index_or s.lanes (lane_line s lane) fresh_lane

abbrev pub queue_at : SourceState → ℕ → QueueState
queue_at s class = slice_index_or s.queues class empty_queue

-- why a packet of the lane, or its mark, is refused, memory aside
abbrev pub refusal : SourceState → Lane → Bool → Option OfferFault
refusal s lane is_mark =
    if not (lane.src == s.node) then Some WrongSource
    else (if nat_le s.nodes lane.dst then Some NoSuchNode
    else (if nat_le (classes s) lane.class then Some NoSuchClass
    else (if is_mark && nat_lt 1 (slice_index s.channels lane.class) then Some ManyChannels
    else (if (lane_at s lane).closed then Some LaneClosed
    else (if nat_le 65535 (lane_at s lane).next then Some LaneFull
    else None)))))

-- what is answered to a packet or a mark, and what is then there: what comes of it where there is no reason to refuse
-- it, and else what was there; the answer names the reason, or want of memory where there is none
pub record IsAnswered {A S : Type 0} (reason : Option OfferFault) (answer : Result A OfferFault) (old after new : S)
    : Type 0 where
  pub ok : OnOk answer ((reason ≡ None) × (new ≡ after))
  pub fault : IfErr answer (λ e. e ≡ unwrap_or reason NoMemory)
  pub err : OnErr answer (new ≡ old)

-- the source has the lane, and the lane has a number left
pub record IsOpen (s : SourceState) (lane : Lane) : Type 0 where
  pub from_here : lane.src ≡ s.node
  pub dst_in : lane.dst < s.nodes
  pub class_in : lane.class < classes s
  pub room : (lane_at s lane).next < 65535
  pub open_yet : (lane_at s lane).closed ≡ false

-- the number of the lane's next packet
abbrev pub next_number : SourceState → Lane → ℕ
next_number s lane = (lane_at s lane).next

-- the flits of one packet at the end of the class's queue
abbrev pub with_packet : SourceState → Lane → List Flit → Bool → SourceState
with_packet s lane fs closed =
    record s {
      queues = slice_set s.queues lane.class (appended (queue_at s lane.class) fs);
      lanes = slice_set s.lanes (lane_line s lane) (record { next = next_number s lane + 1; closed = closed });
    }

abbrev pub after_offer : SourceState → PacketState → SourceState
after_offer s p = with_packet s p.lane (packet_flits p.lane (next_number s p.lane) p.words) false

abbrev pub after_close : SourceState → Lane → SourceState
after_close s lane = with_packet s lane (mark lane (next_number s lane) ∷ []) true

-- the first flit that is not fed, on its class's first channel
abbrev pub front_of : SourceState → ℕ → Option Flit
front_of s class =
    option_map (λ f. with_channel f (first_channel s.channels class)) (waiting (queue_at s class))

abbrev pub after_fed : SourceState → ℕ → SourceState
after_fed s class =
    record s { queues = slice_set s.queues class (one_fed (queue_at s class)) }

-- the flits of each lane are its packets 0, 1, 2, .. one after another
abbrev pub InOrder : ℕ → ℕ → ℕ → List QueueState → List LaneState → Type 0
InOrder node nodes classes queues lanes =
    (dst class : ℕ) → dst < nodes → class < classes
    → History (lane_of node dst class)
    (slice_index_or lanes (dst * classes + class) fresh_lane).next
    (slice_index_or lanes (dst * classes + class) fresh_lane).closed
    (of_lane (lane_of node dst class) (slice_index_or queues class empty_queue).injected)

-- the flit names a lane of this source, in this class
pub record IsFrom (node nodes class : ℕ) (f : Flit) : Type 0 where
  pub src_here : f.lane.src ≡ node
  pub dst_there : f.lane.dst < nodes
  pub of_class : f.lane.class ≡ class

-- what holds of each source
pub record IsSource (s : SourceState) : Type 0 where
  pub all_queues : length s.queues ≡ classes s
  pub all_lanes : length s.lanes ≡ s.nodes * classes s
  pub in_order : InOrder s.node s.nodes (classes s) s.queues s.lanes
  pub owned : (class : ℕ) → class < classes s → All (IsFrom s.node s.nodes class) (queue_at s class).injected

-- the numbers kept are the first channels of the classes, of which there are at most four
pub record AreFirsts (channels firsts : List ℕ) : Type 0 where
  pub few : length channels ≤ 4
  pub each : (class : ℕ) → class < length channels → slice_index firsts class ≡ first_channel channels class

-- a set has the classes with a flit that was not fed, and no others
abbrev pub AreUnfed : List QueueState → ℕ → Type 0
AreUnfed queues set =
    (class : ℕ) → class < 8 → has set class ≡ is_some (waiting (slice_index_or queues class empty_queue))
