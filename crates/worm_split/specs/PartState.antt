-- A worker's part of a network: the network of its own nodes and links, its ends of the links that it shares with other
-- workers, and, for contracts alone, the network that was split.
use Rattle.std.specs.Prelude.{◌≡◌, ℕ, ◌<◌, ◌%◌, Bool, cond, List, length, Some}
use Rattle.worm_flit.specs.declared.Flit.{Flit}
use Rattle.worm_mesh.specs.Address.{has_neighbour}
use Rattle.worm_mesh.specs.Links.{links_before, link_count}
use Rattle.worm_theory.specs.Network.{Network}
use Rattle.worm_region.specs.State.{NetState, IsNet, IsSameConfig, network_of, shape}
use Rattle.worm_region.specs.Workable.{owned}
use Rattle.worm_theory.specs.Region.{HasPart}
use Rattle.worm_theory.specs.Openings.{past_of}
use Rattle.worm_split.specs.declared.ends.End.{End}
use Rattle.worm_split.specs.declared.ends.End.TheVariants.{Inner}
use Rattle.worm_split.specs.declared.ends.EndPair.{EndPair}
use Rattle.worm_split.specs.Ends.{seen_by, taken_on, returned_on, IsSameEnd, end_made, AreEndsMade, end_at, pair_at}

pub record PartState : Type 0 where
  -- the network, of which the nodes of other workers say nothing
  pub net : NetState
  -- the worker's ends by link number
  pub ends : List End
  -- the network at the split, and both ends of each link as they were made then
  pub opening : NetState
  pub pairs : List EndPair

abbrev pub part_state : NetState → List End → NetState → List EndPair → PartState
part_state net ends opening pairs = record { net = net; ends = ends; opening = opening; pairs = pairs }

abbrev pub owns : PartState → ℕ → Bool
owns p = owned p.net

-- the worker's end of the link by port o of node y
abbrev pub end_of : PartState → ℕ → ℕ → End
end_of p y o = cond (has_neighbour p.net.mesh y o) (end_at p.ends (links_before p.net.mesh y o)) Inner

-- the network as the part has it
abbrev pub part_network : PartState → Network
part_network p = seen_by (end_of p) (network_of p.net)

abbrev pub taken_by : PartState → ℕ → ℕ → List Flit
taken_by p y o = taken_on (end_of p y o)

abbrev pub returned_to : PartState → ℕ → ℕ → List ℕ
returned_to p y o = returned_on (end_of p y o)

-- of each link between two workers the two ends that were made of it
abbrev pub ArePairs : NetState → ℕ → List EndPair → Type 0
ArePairs opening workers pairs = (y o x : ℕ) → (shape opening).neighbour y o ≡ Some x
    → (y % workers ≡ x % workers → ⊥) →
    let pair = pair_at pairs (links_before opening.mesh y o) in
    AreEndsMade opening.mesh opening.channels opening.depth y o (past_of (shape opening) (network_of opening) y o x)
    pair.out pair.into

-- of each link the end that is the worker's, whatever has gone over it since
abbrev pub HasItsEnds : PartState → Type 0
HasItsEnds p = (y o x : ℕ) → (shape p.opening).neighbour y o ≡ Some x →
    IsSameEnd (end_made (owns p y) (owns p x) (pair_at p.pairs (links_before p.opening.mesh y o))) (end_of p y o)

-- the network has this configuration
pub record HasConfigOf (opening net : NetState) : Type 0 where
  pub mesh : net.mesh ≡ opening.mesh
  pub channels : net.channels ≡ opening.channels
  pub depth : net.depth ≡ opening.depth
  pub names : net.names ≡ opening.names

-- What holds of each part.
pub record IsPart (p : PartState) : Type 0 where
  pub opened : IsNet p.opening
  pub config : HasConfigOf p.opening p.net
  pub worker : p.net.own.worker < p.net.own.workers
  pub made : ArePairs p.opening p.net.own.workers p.pairs
  pub all_ends : length p.ends ≡ link_count p.net.mesh
  pub ends : HasItsEnds p
  pub holds : HasPart (shape p.opening) (network_of p.opening) (owns p) (part_network p) (taken_by p) (returned_to p)

-- the configuration, the nodes that are owned, the network at the split and its pairs of ends are the same
pub record IsSamePart (old new : PartState) : Type 0 where
  pub config : IsSameConfig old.net new.net
  pub opening : new.opening ≡ old.opening
  pub pairs : new.pairs ≡ old.pairs
