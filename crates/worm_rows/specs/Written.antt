-- The rows of a report as it is written (`worm_report`), and what is read of them.
use Rattle.std.specs.Prelude.{ℕ, ◌-◌, ◌≤◌, ◌≡◌, ◌⊎◌, List, map, Result, Ok, IfOk, IfErr}
use Rattle.std.specs.List.{AllByRecursion}
use Rattle.worm_flit.specs.declared.Flit.{Flit}
use Rattle.worm_flit.specs.declared.Kind.{Kind}
use Rattle.worm_flit.specs.declared.Kind.TheVariants as k
use Rattle.worm_report.specs.declared.row.Row as written
use Rattle.worm_report.specs.Rows as printing
use Rattle.worm_text.specs.declared.fault.TextFault.{TextFault}
use Rattle.worm_report.specs.declared.row.Row.TheVariants as w
use Rattle.worm_rows.specs.declared.shape.Shape.{Shape}
use Rattle.worm_rows.specs.Report.{AnswersOrFull, IsReportFaultLine, RanOut, report_of}
use Rattle.worm_rows.specs.Rows.{rows_text}
use Rattle.worm_rows.specs.Rules.{IsReport}
use Rattle.worm_rows.specs.declared.rows.PacketId.{PacketId}
use Rattle.worm_rows.specs.declared.rows.Load.{Load}
use Rattle.worm_rows.specs.declared.rows.Load.TheVariants.{Close, Word}
use Rattle.worm_rows.specs.declared.rows.Row.{Row}
use Rattle.worm_rows.specs.declared.rows.Row.TheVariants.{Header, Options, Stopped, Delivered, Underway, NotOffered}
use Rattle.worm_rows.specs.declared.rows.Row.TheVariants.{Total}

abbrev pub packet_of : ℕ → ℕ → ℕ → ℕ → PacketId
packet_of src dst class number = record { lane = record { src = src; dst = dst; class = class }; number = number }

abbrev pub load_of : Kind → Flit → Load
load_of k.Close flit = Close
load_of _ flit = Word flit.index flit.word

-- what a row says: not the kind of a flit, nor the word of one that is under way
abbrev pub row_of : written.Row → Row
row_of w.Header = Header
row_of (w.Options turns workers drain) = Options turns workers drain
row_of (w.Stopped worker turn) = Stopped worker turn
row_of (w.Delivered node flit) = Delivered (packet_of flit.lane.src node flit.lane.class flit.packet)
    (load_of flit.kind flit)
row_of (w.Underway lane held) = Underway
    (packet_of lane.src lane.dst held.flit.lane.class held.flit.packet) held.flit.index held.place
row_of (w.NotOffered entries) = NotOffered entries
row_of (w.Total injected delivered) = Total delivered (injected - delivered)

-- no more flits are delivered than injected
abbrev pub IsSummed : written.Row → Type 0
IsSummed (w.Total injected delivered) = delivered ≤ injected
IsSummed _ = Unit {0}

abbrev pub AreSummed : List written.Row → Type 0
AreSummed rows = AllByRecursion IsSummed rows

-- what reading a text as a report answers
pub record ReadsReport {X : Type 0} (items : X → List Row) (s : Shape) (text : List ℕ) (result : Result X TextFault)
    : Type 0 where
  pub found : IfOk result (λ rows. IsReport s (items rows) × (text ≡ rows_text (items rows)))
  pub only : (rows : List Row) → IsReport s rows → text ≡ rows_text rows
      → AnswersOrFull items (RanOut s text) result (Ok rows)
  -- The text that `worm_report` writes of a report is read, unless memory runs out.
  pub written : (rows : List written.Row) → AreSummed rows → IsReport s (map row_of rows)
      → text ≡ printing.rows_text rows → AnswersOrFull items (RanOut s text) result (Ok (map row_of rows))
  -- A fault's line is one more than the longest run of finished lines with which some report begins.
  pub line : IfErr result (λ fault. RanOut s text fault ⊎ IsReportFaultLine s text fault.line)
  pub exact : AnswersOrFull items (RanOut s text) result (report_of s text)
