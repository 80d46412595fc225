-- A network split among workers: what each has at first, and what the last of them keeps.
use Rattle.std.specs.Prelude.{◌≡◌, ℕ, ◌*◌, ◌<◌, ◌≤◌, ◌%◌, List, [], length, sum, replicate, slice_index_or, All}
use Rattle.std.specs.Prelude.{Some, true, vec_capacity}
use Rattle.worm_mesh.specs.Address.{node_count}
use Rattle.worm_mesh.specs.Links.{link_count, links_before}
use Rattle.worm_mesh.specs.declared.mesh.LinkEnds.{LinkEnds}
use Rattle.worm_node.specs.NewNodes.{AreFresh}
use Rattle.worm_wires.specs.Links.{empty_link}
use Rattle.worm_region.specs.Owned.{sole}
use Rattle.worm_region.specs.Parts.{IsConfigOf}
use Rattle.worm_region.specs.State.{NetState, net_state, network_of, node_at, shape, texts_of}
use Rattle.worm_region.specs.declared.owner.Owner.{Owner}
use Rattle.worm_theory.specs.Openings.{past_of}
use Rattle.worm_theory.specs.Region.{Begins}
use Rattle.worm_split.specs.declared.ends.End.TheVariants.{Inner}
use Rattle.worm_split.specs.declared.ends.EndPair.{EndPair}
use Rattle.worm_split.specs.declared.memory.Rooms.{Rooms}
use Rattle.worm_split.specs.declared.memory.Seat.{Seat}
use Rattle.worm_split.specs.Ends.{AreEndsMade, end_made, pair_at, no_pair}
use Rattle.worm_split.specs.Apart.{Apart, AreWays}
use Rattle.worm_split.specs.Exchange.{way_at}
use Rattle.worm_split.specs.PartState.{PartState, ArePairs, HasConfigOf, end_of, owns, part_network}

-- both ends of a link as they are made: none where its nodes are of one worker, and those of queues of its own where
-- they are of two
pub record IsPairMade (s : NetState) (workers : ℕ) (way : LinkEnds) (pair : EndPair) : Type 0 where
  pub within : way.from % workers ≡ way.to % workers → pair ≡ no_pair
  pub between : (way.from % workers ≡ way.to % workers → ⊥) →
      AreEndsMade s.mesh s.channels s.depth way.from way.out_port
      (past_of (shape s) (network_of s) way.from way.out_port way.to) pair.out pair.into

pub record ArePairsMade (s : NetState) (workers : ℕ) (ways : List LinkEnds) (pairs : List EndPair) : Type 0 where
  pub all : length pairs ≡ length ways
  pub each : (k : ℕ) → k < length pairs → IsPairMade s workers (way_at ways k) (pair_at pairs k)

-- A worker's lists before it has anything: fresh nodes, empty links, and no ends.
pub record IsSeat (s : NetState) (pairs : List EndPair) (seat : Seat) : Type 0 where
  pub config : IsConfigOf s seat.config
  pub all_nodes : length seat.nodes.items ≡ node_count s.mesh
  pub nodes : AreFresh s.mesh s.channels s.depth seat.nodes.items
  pub links : seat.links.items ≡ replicate (link_count s.mesh) (empty_link (sum s.channels * s.depth))
  pub ends : seat.ends.items ≡ replicate (link_count s.mesh) Inner
  pub opening : seat.opening.value ≡ s
  pub made : seat.pairs.value.items ≡ pairs

-- all that the parts need
pub record AreRooms (s : NetState) (workers : ℕ) (rooms : Rooms) : Type 0 where
  pub ways : AreWays s.mesh rooms.ways.items
  pub pairs : ArePairsMade s workers rooms.ways.items rooms.pairs.items
  pub seats : All (IsSeat s rooms.pairs.items) rooms.seats.items
  pub all_seats : length rooms.seats.items ≡ workers
  pub no_part : rooms.parts.items ≡ []
  pub room : workers ≤ vec_capacity rooms.parts

-- The network taken apart, nothing of it given to a worker yet: what is opened.
pub record IsOpened (s : NetState) (workers : ℕ) (pairs : List EndPair) (kept : Apart) : Type 0 where
  pub config : HasConfigOf s kept.net
  pub nodes : kept.net.nodes ≡ s.nodes
  pub links : kept.net.links ≡ s.links
  pub pairs_made : ArePairsMade s workers kept.ways pairs
  pub all_made : kept.pairs ≡ pairs

-- the lists of all workers, and room for their parts
pub record AreSeats (s : NetState) (pairs : List EndPair) (workers : ℕ) (seats : List Seat) (parts : List PartState)
    (room : ℕ) : Type 0 where
  pub all : All (IsSeat s pairs) seats
  pub count : length seats ≡ workers
  pub no_part : parts ≡ []
  pub for_all : workers ≤ room

-- what a part is that has these lists
abbrev pub seat_state : Seat → Owner → PartState
seat_state seat own = record {
  net = net_state seat.config.radices.items seat.config.channels.items seat.config.depth
      (texts_of seat.config.classes.items)
      seat.nodes.items seat.links.items own;
  ends = seat.ends.items;
  opening = seat.opening.value;
  pairs = seat.pairs.value.items;
}

abbrev pub no_part : PartState
no_part = record {
  net = net_state [] [] 0 [] [] [] sole;
  ends = [];
  opening = net_state [] [] 0 [] [] [] sole;
  pairs = [];
}

abbrev pub part_at : List PartState → ℕ → PartState
part_at parts w = slice_index_or parts w no_part

-- The part of a worker as it is at the split: the worker's own nodes and the links between them as they were; of a link
-- that it shares what comes to it. Of each link it has the end that is its own, of the two that were made, if the link
-- leads from one worker to another, over which nothing has gone.
pub record IsFirstPart (opening : NetState) (workers worker : ℕ) (pairs : List EndPair) (p : PartState) : Type 0 where
  pub own : p.net.own ≡ record { worker = worker; workers = workers }
  pub opened : p.opening ≡ opening
  pub made : p.pairs ≡ pairs
  pub config : HasConfigOf opening p.net
  pub nodes : (x : ℕ) → owns p x ≡ true → node_at p.net x ≡ node_at opening x
  pub begins : Begins (shape opening) (network_of opening) (owns p) (part_network p)
  pub queues : ArePairs opening workers pairs
  pub ends : (y o x : ℕ) → (shape opening).neighbour y o ≡ Some x →
      end_of p y o ≡ end_made (owns p y) (owns p x) (pair_at pairs (links_before opening.mesh y o))

-- a part for each worker, all with the same ends of links
pub record IsSplitOf (opening : NetState) (workers : ℕ) (parts : List PartState) : Type 0 where
  pub pairs : List EndPair
  pub count : length parts ≡ workers
  pub each : (w : ℕ) → w < workers → IsFirstPart opening workers w pairs (part_at parts w)
