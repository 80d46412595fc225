-- What a report shows of a network.
use Rattle.std.specs.Prelude.{ℕ, List, length}
use Rattle.worm_flit.specs.declared.Flit.{Flit}
use Rattle.worm_flit.specs.declared.Lane.{Lane}
use Rattle.worm_mesh.specs.Address.{node_count}
use Rattle.worm_region.specs.State.{NetState, sink_at}
use Rattle.worm_region.specs.Totals.{delivered_total, injected_total}
use Rattle.worm_core.specs.LaneView.{underway_view}
use Rattle.worm_core.specs.declared.view.Held.{Held}

pub record Seen : Type 0 where
  pub nodes : ℕ
  pub classes : ℕ
  -- of a node, in order of arrival
  pub delivered : ℕ → List Flit
  -- of a lane, from the sink back, with the places
  pub underway : Lane → List Held
  -- flits in all sources' lists, and in all sinks'
  pub injected : ℕ
  pub arrived : ℕ

abbrev pub seen : NetState → Seen
seen s = record {
  nodes = node_count s.mesh;
  classes = length s.channels;
  delivered = λ node. (sink_at s node).delivered;
  underway = underway_view s;
  injected = injected_total s;
  arrived = delivered_total s;
}
