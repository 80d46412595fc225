-- The report of a network and of the run that led to it.
use Rattle.std.specs.Prelude.{ℕ, List, [], ◌∷◌, ◌++◌, Option, Some, None, map, slice_index_or}
use Rattle.std.specs.List.{flat_map, range_with_len}
use Rattle.worm_flit.specs.declared.Lane.{Lane}
use Rattle.worm_term.specs.Lanes.{lane_of}
use Rattle.worm_report.specs.declared.summary.Summary.{Summary}
use Rattle.worm_report.specs.declared.row.Row.{Row}
use Rattle.worm_report.specs.declared.row.Row.TheVariants.{Header, Options, Stopped, Delivered, Underway, NotOffered}
use Rattle.worm_report.specs.declared.row.Row.TheVariants.{Total}
use Rattle.worm_report.specs.Rows.{rows_text}
use Rattle.worm_report.specs.Seen.{Seen}

-- the rows of 0, 1, .. n - 1, one after another
unfoldable pub rows_below : (ℕ → List Row) → ℕ → List Row
rows_below rows n = flat_map rows (range_with_len 0 n)

-- the options as given
abbrev pub options_rows : Summary → List Row
options_rows s = Header ∷ Options s.turns s.workers s.drain ∷ []

-- a worker, if it was stopped
abbrev pub stop_rows : ℕ → Option ℕ → List Row
stop_rows worker None = []
stop_rows worker (Some turn) = Stopped worker turn ∷ []

abbrev pub stops_rows : List (Option ℕ) → List Row
stops_rows stops = rows_below (λ worker. stop_rows worker (slice_index_or stops worker None)) 16

-- what was delivered, by node, in order of arrival
abbrev pub delivered_rows : Seen → List Row
delivered_rows net = rows_below (λ node. map (λ flit. Delivered node flit) (net.delivered node)) net.nodes

-- what is under way of a lane, from the sink back
abbrev pub lane_rows : Seen → Lane → List Row
lane_rows net lane = map (λ held. Underway lane held) (net.underway lane)

-- by source, then destination, then class
abbrev pub pair_rows : Seen → ℕ → ℕ → List Row
pair_rows net src dst = rows_below (λ class. lane_rows net (lane_of src dst class)) net.classes

abbrev pub source_rows : Seen → ℕ → List Row
source_rows net src = rows_below (λ dst. pair_rows net src dst) net.nodes

abbrev pub underway_rows : Seen → List Row
underway_rows net = rows_below (λ src. source_rows net src) net.nodes

-- how the run went; where the flits are; the sums
abbrev pub opening_rows : Summary → List Row
opening_rows s = options_rows s ++ stops_rows s.stops

abbrev pub flits_rows : Seen → List Row
flits_rows net = delivered_rows net ++ underway_rows net

abbrev pub closing_rows : Seen → Summary → List Row
closing_rows net s = NotOffered s.not_offered ∷ Total net.injected net.arrived ∷ []

-- the text of the report
abbrev pub report : Seen → Summary → List ℕ
report net s = rows_text (opening_rows s ++ flits_rows net ++ closing_rows net s)
