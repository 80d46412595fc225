-- What is drawn, and why nothing is.
use Rattle.std.specs.Prelude.{◌≡◌, ℕ, ◌≤◌, List, length, sum, Ok, Err}
use Rattle.worm_text.specs.declared.format.Format.{Format}
use Rattle.worm_text.specs.Network.{Network, Keeps, text}
use Rattle.worm_text.specs.Reader.{network_of}
use Rattle.worm_rows.specs.declared.shape.Shape.{Shape}
use Rattle.worm_rows.specs.declared.rows.Row.{Row}
use Rattle.worm_rows.specs.Rows.{rows_text}
use Rattle.worm_rows.specs.Rules.{IsReport}
use Rattle.worm_rows.specs.Report.{report_of, BeginsReport}
use Rattle.worm_view.specs.declared.fault.ViewFault.{ViewFault}
use Rattle.worm_view.specs.declared.fault.ViewFault.TheVariants as f

-- the shape of a network
pub record IsShapeOf (n : Network) (s : Shape) : Type 0 where
  pub mesh : s.mesh ≡ n.radices
  pub classes : s.classes ≡ length n.classes
  pub vcs : s.vcs ≡ sum n.channels

-- The network text is accepted and says n; the report is the text of these rows, a report of a network of that shape.
pub record IsAccepted (network report : List ℕ) (n : Network) (s : Shape) (rows : List Row) : Type 0 where
  pub format : Format
  pub keeps : Keeps format n
  pub said : network ≡ text format n
  pub shape : IsShapeOf n s
  pub rules : IsReport s rows
  pub written : report ≡ rows_text rows

-- Memory ran out over the report: the network text is accepted, and the report begins with rows, one at least, of a
-- report of a network of that shape.
pub record RanOutOver (network report : List ℕ) : Type 0 where
  pub said : Network
  pub format : Format
  pub keeps : Keeps format said
  pub spelled : network ≡ text format said
  pub shape : Shape
  pub is_shape : IsShapeOf said shape
  pub line : ℕ
  pub some : 1 ≤ line
  pub so_far : BeginsReport shape report line

-- The fault of the network text, and else that of the report, held against the shape of the network; a refused text is
-- always told as such, unless memory ran out over it.
abbrev pub IsRefused : List ℕ → List ℕ → ViewFault → Type 0
IsRefused network report (f.Network t) = network_of network ≡ Err t
IsRefused network report (f.Report t) =
    (n : Network) × (s : Shape) × (network_of network ≡ Ok n) × IsShapeOf n s × (report_of s report ≡ Err t)
IsRefused network report f.NoMemory = RanOutOver network report
IsRefused network report _ = ⊥
