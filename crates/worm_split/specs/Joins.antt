-- The parts of a network joined again: each node as its owner has it, each link as the owner of its far end has it,
-- and then what the
-- queue still held.
use Rattle.std.specs.Prelude.{◌≡◌, ℕ, ◌+◌, ◌<◌, ◌≤◌, ◌%◌, List, [], ◌++◌, length, slice_index_or, Some}
use Rattle.worm_mesh.specs.Address.{node_count}
use Rattle.worm_mesh.specs.declared.mesh.LinkEnds.{LinkEnds}
use Rattle.worm_flit.specs.declared.Flit.{Flit}
use Rattle.worm_links.specs.Links.{TxView, RxView, CreditTxView, CreditRxView}
use Rattle.worm_theory.specs.Growth.{SinksGrow, SourcesGrow}
use Rattle.worm_core.specs.Headline.{NothingFollowsMarks}
use Rattle.worm_region.specs.Owned.{sole}
use Rattle.worm_region.specs.State.{NetState, IsFramed, link_at, network_of, node_at, shape}
use Rattle.worm_wires.specs.Links.{LinkView, blank_link}
use Rattle.worm_node.specs.declared.node.Node.{Node}
use Rattle.worm_split.specs.declared.ends.End.{End}
use Rattle.worm_split.specs.declared.ends.End.TheVariants.{Inner, Leaving, Entering}
use Rattle.worm_split.specs.declared.ends.EndPair.{EndPair}
use Rattle.worm_split.specs.Ends.{end_at, pair_at}
use Rattle.worm_split.specs.PartState.{PartState, IsPart, HasConfigOf, part_network, returned_to, taken_by}
use Rattle.worm_split.specs.Exchange.{way_at}
use Rattle.worm_split.specs.Apart.{Apart, Fits}
use Rattle.worm_split.specs.Splits.{part_at}

-- the parts of one split, one for each worker in rising number
pub record AreParts (parts : List PartState) : Type 0 where
  pub some : 0 < length parts
  pub owns : (w : ℕ) → w < length parts → (part_at parts w).net.own ≡ record { worker = w; workers = length parts }
  pub one_opening : (w : ℕ) → w < length parts → (part_at parts w).opening ≡ (part_at parts 0).opening
  pub one_split : (w : ℕ) → w < length parts → (part_at parts w).pairs ≡ (part_at parts 0).pairs

-- the link's nodes are of two workers
abbrev pub IsBetween : ℕ → List LinkEnds → ℕ → Type 0
IsBetween workers ways k = (way_at ways k).from % workers ≡ (way_at ways k).to % workers → ⊥

-- the part of the worker who owns the node
abbrev pub owner_of : List PartState → ℕ → PartState
owner_of parts x = part_at parts (x % length parts)

-- A network taken apart to which the workers from this one on have put back what is theirs.
pub record IsGathered (parts : List PartState) (from : ℕ) (kept : Apart) : Type 0 where
  pub fits : Fits kept
  pub config : HasConfigOf (part_at parts 0).opening kept.net
  pub parts_hold : (w : ℕ) → from ≤ w → w < length parts → IsPart (part_at parts w) × IsFramed (part_at parts w).net
  pub nodes : (x : ℕ) → from ≤ x % length parts → (n : Node) →
      slice_index_or kept.net.nodes x n ≡ slice_index_or (owner_of parts x).net.nodes x n
  pub flits : (k : ℕ) → let x = (way_at kept.ways k).to in from ≤ x % length parts →
      (slice_index_or kept.net.links k blank_link).flits ≡ (link_at (owner_of parts x).net k).flits
  pub credits : (k : ℕ) → let y = (way_at kept.ways k).from in from ≤ y % length parts →
      (slice_index_or kept.net.links k blank_link).credits ≡ (link_at (owner_of parts y).net k).credits
  pub outs : (k : ℕ) → let way = way_at kept.ways k in
      IsBetween (length parts) kept.ways k → from ≤ way.from % length parts →
      (pair_at kept.pairs k).out ≡ end_at (owner_of parts way.from).ends k
  pub intos : (k : ℕ) → let way = way_at kept.ways k in
      IsBetween (length parts) kept.ways k → from ≤ way.to % length parts →
      (pair_at kept.pairs k).into ≡ end_at (owner_of parts way.to).ends k

-- what a queue still held stands behind the link's flits, or its credits, if there is room
pub record FlitsEmptied (sent taken : List Flit) (old new : LinkView) : Type 0 where
  pub left : List Flit
  pub in_queue : sent ≡ taken ++ left
  pub behind : length old.flits + length left ≤ old.room → new.flits ≡ old.flits ++ left
  pub credits : new.credits ≡ old.credits
  pub room : new.room ≡ old.room

pub record CreditsEmptied (sent taken : List ℕ) (old new : LinkView) : Type 0 where
  pub left : List ℕ
  pub in_line : sent ≡ taken ++ left
  pub behind : length old.credits + length left ≤ old.room → new.credits ≡ old.credits ++ left
  pub flits : new.flits ≡ old.flits
  pub room : new.room ≡ old.room

-- both of the link's queues
pub record IsEmptiedOf (tx : TxView) (back : CreditRxView) (rx : RxView) (give : CreditTxView)
    (old new : LinkView) : Type 0 where
  pub flits_left : List Flit
  pub credits_left : List ℕ
  pub in_queue : tx.sent ≡ rx.taken ++ flits_left
  pub in_line : give.sent ≡ back.taken ++ credits_left
  pub flits : length old.flits + length flits_left ≤ old.room → new.flits ≡ old.flits ++ flits_left
  pub credits : length old.credits + length credits_left ≤ old.room → new.credits ≡ old.credits ++ credits_left
  pub room : new.room ≡ old.room

abbrev pub IsEmptied : End → End → LinkView → LinkView → Type 0
IsEmptied Inner into old new = new ≡ old
IsEmptied (Leaving tx back) Inner old new = new ≡ old
IsEmptied (Leaving tx back) (Leaving tx2 back2) old new = new ≡ old
IsEmptied (Leaving tx back) (Entering rx give) old new = IsEmptiedOf tx back rx give old new
IsEmptied (Entering rx give) into old new = new ≡ old

-- the two ends are of the same queues
abbrev pub AreOfOne : End → End → Type 0
AreOfOne Inner into = Unit {0}
AreOfOne (Leaving tx back) Inner = Unit {0}
AreOfOne (Leaving tx back) (Leaving tx2 back2) = Unit {0}
AreOfOne (Leaving tx back) (Entering rx give) = (tx.queue ≡ rx.queue) × (give.queue ≡ back.queue)
AreOfOne (Entering rx give) into = Unit {0}

-- the links up to this one between two workers are emptied
pub record AreEmptied (workers count : ℕ) (ways : List LinkEnds) (pairs : List EndPair)
    (old new : List LinkView) : Type 0 where
  pub same_length : length new ≡ length old
  pub done : (k : ℕ) → k < count → IsBetween workers ways k →
      IsEmptied (pair_at pairs k).out (pair_at pairs k).into (slice_index_or old k blank_link)
      (slice_index_or new k blank_link)
  pub within : (k : ℕ) → (way_at ways k).from % workers ≡ (way_at ways k).to % workers →
      slice_index_or new k blank_link ≡ slice_index_or old k blank_link

-- The link by port o of node y: what the owner of its far end has of it, and then what its queue still held; its
-- credit line likewise. There
-- is no queue within one worker's part.
pub record IsLinkJoined (near far : PartState) (new : NetState) (y o : ℕ) : Type 0 where
  pub flits_left : List Flit
  pub credits_left : List ℕ
  pub flits : (network_of new).out y o ≡ (network_of far.net).out y o ++ flits_left
  pub credits : (network_of new).credit_list y o ≡ (network_of near.net).credit_list y o ++ credits_left
  pub within : near.net.own ≡ far.net.own → (flits_left ≡ []) × (credits_left ≡ [])
  pub between : (near.net.own ≡ far.net.own → ⊥) → ((part_network near).out y o ≡ taken_by far y o ++ flits_left)
      × ((part_network far).credit_list y o ≡ returned_to near y o ++ credits_left)

-- the network that the parts make
pub record IsJoinOf (parts : List PartState) (new : NetState) : Type 0 where
  pub config : HasConfigOf (part_at parts 0).opening new
  pub all_owned : new.own ≡ sole
  pub nodes : (x : ℕ) → x < node_count new.mesh → node_at new x ≡ node_at (owner_of parts x).net x
  pub links : (y o x : ℕ) → (shape new).neighbour y o ≡ Some x → IsLinkJoined (owner_of parts y)
      (owner_of parts x) new y o

-- since the split sinks and sources only grew, and nothing followed a close mark
pub record IsLaterThan (opening new : NetState) : Type 0 where
  pub sinks : SinksGrow (shape opening) (network_of opening) (network_of new)
  pub sources : SourcesGrow (network_of opening) (network_of new)
  pub marks : NothingFollowsMarks opening new
