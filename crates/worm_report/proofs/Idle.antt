-- A lane that is not busy has no rows, nor has a source without such a lane.
use Rattle.std.proofs.Common.{ℕ, zero, suc, ◌≡◌, ◌+◌, ◌<◌, ◌≤◌, false, List, [], length, map, refl, sym, ap, arith}
use Rattle.std.specs.List.{flat_map, range_with_len}
use Rattle.worm_flit.specs.declared.Lane.{Lane}
use Rattle.worm_mesh.specs.Address.{node_count}
use Rattle.worm_region.specs.State.{NetState}
use Rattle.worm_core.specs.LaneSet.{LaneMarks, IsComplete, LacksAllFrom, is_marked}
use Rattle.worm_core.specs.declared.view.Held.{Held}
use Rattle.worm_report.specs.declared.row.Row.{Row}
use Rattle.worm_report.specs.declared.row.Row.TheVariants.{Underway}
use Rattle.worm_report.specs.Seen.{seen}
use Rattle.worm_term.specs.Lanes.{lane_of}
use Rattle.worm_report.specs.Report.{lane_rows, pair_rows, rows_below, source_rows}
use Rattle.worm_report.specs.Writing.{Standing, WritesRows}
use Rattle.worm_report.proofs.Written.{done, no_rows, same_rows}

pub idle_lane : {a : Standing} (s : NetState) (set : LaneMarks) (lane : Lane) → IsComplete s set
    → lane.src < node_count s.mesh
    → lane.dst < node_count s.mesh → lane.class < length s.channels
    → is_marked set lane ≡ false → WritesRows a a done (lane_rows (seen s) lane)
idle_lane s set lane complete src dst class free =
    same_rows [] (lane_rows (seen s) lane)
    (ap (map (λ (held : Held). Underway lane held)) (sym (complete lane src dst class free))) no_rows

-- rows of which each number has none
none_below : (rows : ℕ → List Row) (n : ℕ) → ((i : ℕ) → i < n → rows i ≡ []) → rows_below rows n ≡ []
unfolding rows_below
none_below rows n none = by 0 n (λ i from below. none i (omega arith)) where
  by : (a k : ℕ) → ((i : ℕ) → a ≤ i → i < a + k → rows i ≡ []) → flat_map rows (range_with_len a k) ≡ []
  by a zero each = refl
  by a (suc k) each =
      rw (each a (omega arith) (omega arith)) (by (a + 1) k (λ i from below. each i (omega arith) (omega arith)))

pub idle_source : {a : Standing} (s : NetState) (set : LaneMarks) (src : ℕ) → IsComplete s set
    → src < node_count s.mesh → LacksAllFrom set src (node_count s.mesh) (length s.channels)
    → WritesRows a a done (source_rows (seen s) src)
idle_source s set src complete src_in lacks =
    same_rows [] (source_rows (seen s) src) (sym (none_below (λ dst. pair_rows (seen s) src dst) (node_count s.mesh)
    (λ dst dst_in. none_below (λ class. lane_rows (seen s) (lane_of src dst class)) (length s.channels)
    (λ class class_in. ap (map (λ (held : Held). Underway (lane_of src dst class) held))
    (complete (lane_of src dst class) src_in dst_in class_in (lacks dst class dst_in class_in)))))) no_rows
