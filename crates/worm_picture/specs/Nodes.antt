-- What is shown of each node: the flits of the rows, place by place, and two counts.
use Rattle.std.specs.Prelude.{ℕ, ◌≡◌, ◌<◌, ◌+◌, ◌-◌, ◌*◌, ◌^◌, min, max, Bool, true, false, ◌==◌, List, ◌++◌, map}
use Rattle.std.specs.Prelude.{length, vec_len, All}
use Rattle.std.specs.List.{filter, flat_map, fold, range_with_len, sum_by}
use Rattle.worm_mesh.specs.Address.{node_count}
use Rattle.worm_core.specs.declared.view.Place.TheVariants.{Source}
use Rattle.worm_rows.specs.declared.shape.Shape.{Shape}
use Rattle.worm_rows.specs.declared.rows.PacketId.{PacketId}
use Rattle.worm_rows.specs.declared.rows.Row.{Row}
use Rattle.worm_rows.specs.declared.rows.Row.TheVariants.{Delivered, Underway}
use Rattle.worm_picture.specs.Scene.{spot_at, flits_at, flits_on, front_first, seen_flits}
use Rattle.worm_picture.specs.declared.scene.Spot.{Spot}
use Rattle.worm_picture.specs.declared.scene.Flit.{Flit}
use Rattle.worm_picture.specs.declared.views.Station.{Station}
use Rattle.worm_picture.specs.declared.views.NodeView.{NodeView}

-- the channels of a port
abbrev pub spots_at : ℕ → ℕ → ℕ → List Spot
spots_at node vcs port = map (λ vc. spot_at false node port vc) (range_with_len 0 vcs)

-- those of a node's ports, port by port
abbrev pub spots_in : ℕ → ℕ → ℕ → List Spot
spots_in node ports vcs = flat_map (spots_at node vcs) (range_with_len 0 ports)

-- a channel holds those of these flits that are in its buffer, and those that are on the link to it, the front first
pub record IsStation (tails : PacketId → ℕ) (flits : List Flit) (s : Station) : Type 0 where
  pub held : s.held.items ≡ front_first tails (flits_on s.spot flits)
  pub coming : s.coming.items ≡ front_first tails (flits_on (record s.spot { on_link = true }) flits)

abbrev pub waits_at : ℕ → Row → Bool
waits_at node (Underway packet index Source) = packet.lane.src == node
waits_at node _ = false

abbrev pub arrives_at : ℕ → Row → Bool
arrives_at node (Delivered packet load) = packet.lane.dst == node
arrives_at node _ = false

-- all channels of a node, each with those of these flits that are there; how many wait in its source, and how many
-- arrived
pub record IsView (s : Shape) (rows : List Row) (tails : PacketId → ℕ) (flits : List Flit) (v : NodeView) : Type 0 where
  pub spots : map (λ station. station.spot) v.stations.items ≡ spots_in v.node (2 * length s.mesh + 1) s.vcs
  pub stations : All (IsStation tails (flits_at v.node flits)) v.stations.items
  pub waiting : v.waiting ≡ length (filter (waits_at v.node) rows)
  pub arrived : v.arrived ≡ length (filter (arrives_at v.node) rows)

-- all nodes of a network, by number, each with what the rows show of it
pub record AreViews (s : Shape) (rows : List Row) (tails : PacketId → ℕ) (views : List NodeView) : Type 0 where
  pub nodes : map (λ v. v.node) views ≡ range_with_len 0 (node_count s.mesh)
  pub each : All (IsView s rows tails (seen_flits s.mesh rows)) views

-- ---- counts

-- how many flits the buffers of a node hold; the count goes no further than 64 bits do
abbrev pub held_in : NodeView → ℕ
held_in v = min (sum_by (λ s. vec_len s.held) v.stations.items) (2 ^ 64 - 1)

-- the most that one of these nodes has, by such a count
abbrev pub most_by : (NodeView → ℕ) → List NodeView → ℕ
most_by count views = fold (λ most v. max most (count v)) 0 views

-- ---- all that is shown

abbrev pub station_flits : Station → List Flit
station_flits s = s.held.items ++ s.coming.items

abbrev pub view_flits : NodeView → List Flit
view_flits v = flat_map station_flits v.stations.items

abbrev pub shown : List NodeView → List Flit
shown views = flat_map view_flits views

-- a channel of an input port of the network
pub record HasSpot (s : Shape) (spot : Spot) : Type 0 where
  pub node : spot.node < node_count s.mesh
  pub port : spot.port < 2 * length s.mesh + 1
  pub channel : spot.vc < s.vcs
