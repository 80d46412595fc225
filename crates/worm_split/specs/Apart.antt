-- A network taken apart into its lists, and what a worker exchanges with it.
use Rattle.std.specs.Prelude.{◌≡◌, ℕ, ◌+◌, ◌<◌, List, length, Option, Some, None}
use Rattle.worm_mesh.specs.Ends.{AreEndsOf}
use Rattle.worm_mesh.specs.Links.{link_count}
use Rattle.worm_mesh.specs.declared.mesh.LinkEnds.{LinkEnds}
use Rattle.worm_wires.specs.Links.{LinkView}
use Rattle.worm_region.specs.Owned.{sole}
use Rattle.worm_region.specs.State.{NetState, IsFramed, net_state, texts_of}
use Rattle.worm_region.specs.declared.config.Config.{Config}
use Rattle.worm_node.specs.declared.node.Node.{Node}
use Rattle.worm_region.specs.declared.owner.Owner.{Owner}
use Rattle.worm_split.specs.declared.ends.End.{End}
use Rattle.worm_split.specs.declared.ends.EndPair.{EndPair}
use Rattle.worm_split.specs.Exchange.{EndsSwapped, LinksSwapped, NodesSwapped, way_at}
use Rattle.worm_split.specs.PartState.{HasConfigOf}

-- The network's lists, of which what stands for a node that a worker has, or on its links, is not looked at; and by
-- number of the link the nodes that it joins, and both its ends, if these are of two workers.
pub record Apart : Type 0 where
  pub net : NetState
  pub ways : List LinkEnds
  pub pairs : List EndPair

abbrev pub taken_apart : Config → List LinkEnds → List Node → List LinkView → List EndPair → Apart
taken_apart config ways nodes links pairs = record {
  net = net_state config.radices.items config.channels.items config.depth (texts_of config.classes.items) nodes links
      sole;
  ways = ways;
  pairs = pairs;
}

-- the two nodes of each link, by the link's number
pub record AreWays (mesh : List ℕ) (ways : List LinkEnds) : Type 0 where
  pub all : length ways ≡ link_count mesh
  pub each : (k : ℕ) → k < length ways → AreEndsOf mesh k (way_at ways k)

-- the lists fit one another
pub record Fits (a : Apart) : Type 0 where
  pub framed : IsFramed a.net
  pub all_owned : a.net.own ≡ sole
  pub ways : AreWays a.net.mesh a.ways
  pub all_pairs : length a.pairs ≡ link_count a.net.mesh

-- the last worker has one, and what anyone has is of the network that was split
abbrev pub IsKept : NetState → Owner → Option Apart → Type 0
IsKept s own None = own.worker + 1 ≡ own.workers → ⊥
IsKept s own (Some kept) = HasConfigOf s kept.net

-- the same network with other nodes and links
abbrev pub with_lists : NetState → List Node → List LinkView → NetState
with_lists s nodes links = record s { nodes = nodes; links = links }

-- a worker's lists beside those that they are exchanged with: they make a network of the same shape
pub record ArePaired (kept : Apart) (own_nodes : List Node) (own_links : List LinkView)
    (own_ends : List End) : Type 0 where
  pub framed : IsFramed (with_lists kept.net own_nodes own_links)
  pub ends : length own_ends ≡ link_count kept.net.mesh

-- All that is the worker's changes places; then the worker's lists make a network of the same shape, too.
pub record IsExchanged (own : Owner) (old new : Apart) (own_nodes new_nodes : List Node)
    (own_links new_links : List LinkView) (own_ends new_ends : List End) : Type 0 where
  pub fits : Fits new
  pub config : HasConfigOf old.net new.net
  pub ways : new.ways ≡ old.ways
  pub nodes : NodesSwapped own (length old.net.nodes) old.net.nodes own_nodes new.net.nodes new_nodes
  pub links : LinksSwapped own old.ways (length old.net.links) old.net.links own_links new.net.links new_links
  pub ends : EndsSwapped own old.ways (length old.pairs) old.pairs own_ends new.pairs new_ends
  pub framed : IsFramed (with_lists old.net new_nodes new_links)

-- the same, whatever becomes of the worker's own lists
abbrev pub IsPutBack : Owner → Apart → Apart → List Node → List LinkView → List End → Type 0
IsPutBack own old new nodes links ends =
    (left : List Node) × (links_left : List LinkView) × (ends_left : List End)
    × IsExchanged own old new nodes left links links_left ends ends_left
