-- The last line of a report says what its other lines are.
use Rattle.std.proofs.Common.{◌≡◌, ◌||◌, ℕ, zero, suc, ◌+◌, ◌-◌, Bool, true, false, cond, List, [], ◌∷◌, ◌++◌}
use Rattle.std.proofs.Common.{length, map, Option, Some, None, refl, sym, ap, ◌∙◌, arith, append_assoc}
use Rattle.std.specs.Prelude.{codes, decimal, slice_index_or}
use Rattle.std.specs.List.{count_by, join_with_byte, list_any, onto_first, slice_split, sum_by}
use Rattle.std.proofs.lemmas.List.{append-nil}
use Rattle.std.proofs.lemmas.List.Concat.{flat_map-append}
use Rattle.std.proofs.lemmas.List.Sums.{sum_by-append, sum_by-cons}
use Rattle.worm_mesh.specs.Address.{node_count}
use Rattle.worm_mesh.specs.Links.{sum_below}
use Rattle.worm_region.specs.State.{IsNet, NetState, sink_at}
use Rattle.worm_region.specs.Totals.{delivered_total, injected_total}
use Rattle.worm_region.proofs.Room.{sum_none, sum_same}
use Rattle.worm_term.specs.Lanes.{lane_of}
use Rattle.worm_core.specs.LaneView.{underway_view}
use Rattle.worm_report.specs.declared.row.Row.{Row}
use Rattle.worm_report.specs.declared.row.Row.TheVariants.{Stopped, Delivered, Underway, NotOffered}
use Rattle.worm_report.specs.declared.row.Row.TheVariants.{Total}
use Rattle.worm_report.specs.declared.summary.Summary.{Summary}
use Rattle.worm_report.specs.Report.{closing_rows, delivered_rows, flits_rows, lane_rows, opening_rows, options_rows}
use Rattle.worm_report.specs.Report.{pair_rows, report, rows_below, source_rows, stop_rows, stops_rows, underway_rows}
use Rattle.worm_report.specs.Rows.{newline, row_text, rows_text, space}
use Rattle.worm_report.specs.Seen.{Seen, seen}
use Rattle.worm_report.specs.Sums.{AddsUp, begins_with, lines_with, sums_line}
use Rattle.worm_report.proofs.FlitsCounted.{all_counted}
use Rattle.worm_report.proofs.OneLines.{breaks, line_one, row_line}
use Rattle.worm_report.proofs.Written.{below_suc}

-- ---- the lines of a text of rows

neither : (a b : Bool) → (a || b) ≡ false → (a ≡ false) × (b ≡ false)
neither true b e = absurd (cc)
neither false b e = (refl, e)

split_line : (line rest : List ℕ) → list_any breaks line ≡ false
    → slice_split breaks (line ++ newline ∷ rest) ≡ line ∷ slice_split breaks rest
split_line [] rest one = refl
split_line (b ∷ line) rest one =
    let each = neither (breaks b) (list_any breaks line) one in
    rw each.0 (ap (λ (parts : List (List ℕ)). onto_first b parts) (split_line line rest each.1))

-- 1 for a row whose line begins with this word
abbrev begun : List ℕ → Row → ℕ
begun word row = cond (begins_with word (row_line row)) 1 0

first_line : (row : Row) (rows : List Row) → rows_text (row ∷ rows) ≡ row_line row ++ newline ∷ rows_text rows
unfolding row_text
first_line row rows = append_assoc (row_line row) (newline ∷ []) (rows_text rows)

lines_counted : (word : List ℕ) → begins_with word [] ≡ false → (rows : List Row)
    → lines_with word (rows_text rows) ≡ sum_by (begun word) rows
lines_counted word none [] = rw none refl
lines_counted word none (row ∷ rows) =
    ap (lines_with word) (first_line row rows)
    ∙ (ap (count_by (begins_with word)) (split_line (row_line row) (rows_text rows) (line_one row))
    ∙ (sum_by-cons (λ (l : List ℕ). cond (begins_with word l) 1 0) (row_line row) (slice_split breaks (rows_text rows))
    ∙ (ap (λ (k : ℕ). begun word row + k) (lines_counted word none rows) ∙ sym (sum_by-cons (begun word) row rows))))

-- ---- sums over rows

module _ (w : Row → ℕ) where
  below_sum : (rows : ℕ → List Row) (n : ℕ) → sum_by w (rows_below rows n) ≡ sum_below (λ i. sum_by w (rows i)) n
  unfolding rows_below
  below_sum rows zero = refl
  below_sum rows (suc n) =
      ap (sum_by w) (below_suc rows n) ∙ (sum_by-append w (rows_below rows n) (rows n)
      ∙ ap (λ (k : ℕ). k + sum_by w (rows n)) (below_sum rows n))

  each_one : {X : Type 0} (row : X → Row) (xs : List X) → ((x : X) → w (row x) ≡ 1) → sum_by w (map row xs) ≡ length xs
  each_one row [] one = refl
  each_one row (x ∷ xs) one =
      let here = one x in
      let rest = each_one row xs one in
      sum_by-cons w (row x) (map row xs) ∙ omega (arith, here, rest)

  each_none : {X : Type 0} (row : X → Row) (xs : List X) → ((x : X) → w (row x) ≡ 0) → sum_by w (map row xs) ≡ 0
  each_none row [] none = refl
  each_none row (x ∷ xs) none =
      let here = none x in
      let rest = each_none row xs none in
      sum_by-cons w (row x) (map row xs) ∙ omega (arith, here, rest)

  -- the numbers of rows that are delivered, and of those that are under way
  delivered_sum : (net : Seen) (each : ℕ → ℕ)
      → ((node : ℕ) → sum_by w (map (λ flit. Delivered node flit) (net.delivered node)) ≡ each node)
      → sum_by w (delivered_rows net) ≡ sum_below each net.nodes
  delivered_sum net each is =
      below_sum (λ node. map (λ flit. Delivered node flit) (net.delivered node)) net.nodes
      ∙ sum_same (λ node. sum_by w (map (λ flit. Delivered node flit) (net.delivered node))) each net.nodes is

  underway_sum : (net : Seen) (each : ℕ → ℕ → ℕ → ℕ)
      → ((src dst class : ℕ) → sum_by w (lane_rows net (lane_of src dst class)) ≡ each src dst class)
      → sum_by w (underway_rows net)
      ≡ sum_below (λ src. sum_below (λ dst. sum_below (λ class. each src dst class) net.classes) net.nodes) net.nodes
  underway_sum net each is =
      below_sum (λ src. source_rows net src) net.nodes
      ∙ sum_same (λ src. sum_by w (source_rows net src))
      (λ src. sum_below (λ dst. sum_below (λ class. each src dst class) net.classes) net.nodes) net.nodes
      (λ src. below_sum (λ dst. pair_rows net src dst) net.nodes
      ∙ sum_same (λ dst. sum_by w (pair_rows net src dst))
      (λ dst. sum_below (λ class. each src dst class) net.classes) net.nodes
      (λ dst. below_sum (λ class. lane_rows net (lane_of src dst class)) net.classes
      ∙ sum_same (λ class. sum_by w (lane_rows net (lane_of src dst class))) (λ class. each src dst class) net.classes
      (λ class. is src dst class)))

  stops_sum : (stops : List (Option ℕ)) → ((worker turn : ℕ) → w (Stopped worker turn) ≡ 0)
      → sum_by w (stops_rows stops) ≡ 0
  stops_sum stops none =
      below_sum (λ worker. stop_rows worker (slice_index_or stops worker None)) 16
      ∙ (sum_same (λ worker. sum_by w (stop_rows worker (slice_index_or stops worker None))) (λ worker. 0) 16
      (λ worker. one_stop worker (slice_index_or stops worker None)) ∙ sum_none 16)
    where
      one_stop : (worker : ℕ) (stop : Option ℕ) → sum_by w (stop_rows worker stop) ≡ 0
      one_stop worker None = refl
      one_stop worker (Some turn) = let here = none worker turn in omega (arith, here)

  -- of all rows
  rows_sum : (net : Seen) (s : Summary) (a b : ℕ) → sum_by w (options_rows s) ≡ 0
      → sum_by w (stops_rows s.stops) ≡ 0 → sum_by w (delivered_rows net) ≡ a → sum_by w (underway_rows net) ≡ b
      → sum_by w (closing_rows net s) ≡ 0
      → sum_by w (opening_rows s ++ flits_rows net ++ closing_rows net s) ≡ a + b
  rows_sum net s a b options stops delivered underway closing =
      let all = sum_by-append w (opening_rows s ++ flits_rows net) (closing_rows net s) in
      let front = sum_by-append w (opening_rows s) (flits_rows net) in
      let opening = sum_by-append w (options_rows s) (stops_rows s.stops) in
      let flits = sum_by-append w (delivered_rows net) (underway_rows net) in
      omega (arith, all, front, opening, flits, options, stops, delivered, underway, closing)

zeros : (n m : ℕ) → sum_below (λ src. sum_below (λ dst. sum_below (λ (class : ℕ). 0) m) n) n ≡ 0
zeros n m =
    sum_same (λ src. sum_below (λ dst. sum_below (λ (class : ℕ). 0) m) n) (λ src. 0) n
    (λ src. sum_same (λ dst. sum_below (λ (class : ℕ). 0) m) (λ dst. 0) n (λ dst. sum_none m) ∙ sum_none n)
    ∙ sum_none n

-- ---- the report

module _ (s : NetState) (summary : Summary) where
  abbrev held : ℕ
  held = sum_below (λ src. sum_below (λ dst. sum_below (λ class. length (underway_view s (lane_of src dst class)))
      (length s.channels)) (node_count s.mesh)) (node_count s.mesh)

  arrived_lines : lines_with (codes "delivered") (report (seen s) summary) ≡ delivered_total s
  arrived_lines =
      let all = lines_counted (codes "delivered") refl
      (opening_rows summary ++ flits_rows (seen s) ++ closing_rows (seen s) summary) in
      let sums = rows_sum (begun (codes "delivered")) (seen s) summary (delivered_total s) 0 refl
      (stops_sum (begun (codes "delivered")) summary.stops (λ worker turn. refl))
      (delivered_sum (begun (codes "delivered")) (seen s) (λ node. length (sink_at s node).delivered)
      (λ node. each_one (begun (codes "delivered")) (λ flit. Delivered node flit) (sink_at s node).delivered
      (λ flit. refl)))
      (underway_sum (begun (codes "delivered")) (seen s) (λ src dst class. 0)
      (λ src dst class. each_none (begun (codes "delivered")) (λ held. Underway (lane_of src dst class) held)
      (underway_view s (lane_of src dst class)) (λ held. refl)) ∙ zeros (node_count s.mesh) (length s.channels))
      refl in
      all ∙ (sums ∙ omega arith)

  held_lines : lines_with (codes "underway") (report (seen s) summary) ≡ held
  held_lines =
      let all = lines_counted (codes "underway") refl
      (opening_rows summary ++ flits_rows (seen s) ++ closing_rows (seen s) summary) in
      let sums = rows_sum (begun (codes "underway")) (seen s) summary 0 held refl
      (stops_sum (begun (codes "underway")) summary.stops (λ worker turn. refl))
      (delivered_sum (begun (codes "underway")) (seen s) (λ node. 0)
      (λ node. each_none (begun (codes "underway")) (λ flit. Delivered node flit) (sink_at s node).delivered
      (λ flit. refl)) ∙ sum_none (node_count s.mesh))
      (underway_sum (begun (codes "underway")) (seen s)
      (λ src dst class. length (underway_view s (lane_of src dst class)))
      (λ src dst class. each_one (begun (codes "underway")) (λ held. Underway (lane_of src dst class) held)
      (underway_view s (lane_of src dst class)) (λ held. refl)))
      refl in
      all ∙ (sums ∙ omega arith)

abbrev sums_text : ℕ → ℕ → ℕ → List ℕ
sums_text injected delivered underway = join_with_byte space
    (codes "total" ∷ codes "injected" ∷ decimal injected ∷ codes "delivered" ∷ decimal delivered ∷ codes "underway"
    ∷ decimal underway ∷ [])

-- the line of the sums, said by the numbers of lines
last_line : (injected arrived held d u : ℕ) → injected ≡ arrived + held → d ≡ arrived → u ≡ held
    → row_line (Total injected arrived) ≡ sums_line d u
last_line injected arrived held d u all is_d is_u =
    let sum : injected ≡ d + u = omega arith in
    let rest : injected - arrived ≡ u = omega arith in
    λ t. sums_text (sum t) (sym is_d t) (rest t)

-- the last two lines stand behind the others
two_last : (front : List Row) (a b : Row)
    → rows_text (front ++ a ∷ b ∷ []) ≡ (rows_text front ++ row_line a) ++ newline ∷ (row_line b ++ newline ∷ [])
unfolding row_text
two_last front a b =
    flat_map-append row_text front (a ∷ b ∷ [])
    ∙ (ap (λ (z : List ℕ). rows_text front ++ z)
    (append_assoc (row_line a) (newline ∷ []) (rows_text (b ∷ []))
    ∙ ap (λ (z : List ℕ). row_line a ++ newline ∷ z) (append-nil (row_line b ++ newline ∷ [])))
    ∙ sym (append_assoc (rows_text front) (row_line a) (newline ∷ (row_line b ++ newline ∷ []))))

pub adds_up : (s : NetState) (summary : Summary) → IsNet s → AddsUp (report (seen s) summary)
adds_up s summary net =
    record {
      before = rows_text (opening_rows summary ++ flits_rows (seen s)) ++ row_line (NotOffered summary.not_offered);
      ends =
          two_last (opening_rows summary ++ flits_rows (seen s)) (NotOffered summary.not_offered)
          (Total (injected_total s) (delivered_total s))
          ∙ ap (λ (z : List ℕ). (rows_text (opening_rows summary ++ flits_rows (seen s))
          ++ row_line (NotOffered summary.not_offered)) ++ newline ∷ (z ++ newline ∷ []))
          (last_line (injected_total s) (delivered_total s) _
          (lines_with (codes "delivered") (report (seen s) summary))
          (lines_with (codes "underway") (report (seen s) summary))
          (all_counted s net) (arrived_lines s summary) (held_lines s summary));
    }
