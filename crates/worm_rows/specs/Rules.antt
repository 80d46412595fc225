-- Which rows are a report of a network of this shape.
use Rattle.std.specs.Prelude.{ℕ, ◌≡◌, ◌+◌, ◌*◌, ◌<◌, ◌≤◌, Bool, true, ◌||◌, ◌&&◌, nat_le, if◌then◌else◌, ◌==◌, List, []}
use Rattle.std.specs.Prelude.{◌∷◌, length, fold}
use Rattle.worm_mesh.specs.Address.{node_count, has_neighbour}
use Rattle.worm_core.specs.declared.view.Place.{Place}
use Rattle.worm_core.specs.declared.view.Place.TheVariants.{Source, Buffer, Link}
use Rattle.worm_rows.specs.declared.shape.Shape.{Shape}
use Rattle.worm_rows.specs.declared.standing.Standing.{Standing}
use Rattle.worm_rows.specs.declared.rows.PacketId.{PacketId}
use Rattle.worm_rows.specs.declared.rows.Load.{Load}
use Rattle.worm_rows.specs.declared.rows.Load.TheVariants.{Close, Word}
use Rattle.worm_rows.specs.declared.rows.Row.{Row}
use Rattle.worm_rows.specs.declared.rows.Row.TheVariants.{Header, Options, Stopped, Delivered, Underway, NotOffered}
use Rattle.worm_rows.specs.declared.rows.Row.TheVariants.{Total}

-- ---- what a row may say

-- a number of 32 bits
abbrev pub IsWord : ℕ → Type 0
IsWord n = n < 4294967296

pub record IsPacket (s : Shape) (p : PacketId) : Type 0 where
  pub src : p.lane.src < node_count s.mesh
  pub dst : p.lane.dst < node_count s.mesh
  pub class : p.lane.class < s.classes
  pub number : p.number < 65536

abbrev pub IsLoad : Load → Type 0
IsLoad Close = Unit {0}
IsLoad (Word index word) = (index < 32) × IsWord word

-- an input buffer is where flits come in: at a port with a neighbour, or at the terminal
abbrev pub has_buffer : List ℕ → ℕ → ℕ → Bool
has_buffer mesh node port = (port == 2 * length mesh) || has_neighbour mesh node port

pub record IsSpot (s : Shape) (node port vc : ℕ) : Type 0 where
  pub in_mesh : node < node_count s.mesh
  pub small : port < 256
  pub channel : vc < s.vcs

-- a place that the network has
abbrev pub HasPlace : Shape → Place → Type 0
HasPlace s Source = Unit {0}
HasPlace s (Buffer node port vc) = IsSpot s node port vc × (has_buffer s.mesh node port ≡ true)
HasPlace s (Link node port vc) = IsSpot s node port vc × (has_neighbour s.mesh node port ≡ true)

abbrev pub IsRow : Shape → Row → Type 0
IsRow s Header = Unit {0}
IsRow s (Options turns workers drain) = IsWord turns × IsWord workers × IsWord drain
IsRow s (Stopped worker turn) = IsWord worker × IsWord turn
IsRow s (Delivered p load) = IsPacket s p × IsLoad load
IsRow s (Underway p index place) = IsPacket s p × (index < 32) × HasPlace s place
IsRow s (NotOffered entries) = IsWord entries
IsRow s (Total delivered underway) = IsWord (delivered + underway)

-- ---- which rows may follow which

-- the place of a kind of row in a report
abbrev pub rank : Row → ℕ
rank Header = 0
rank (Options turns workers drain) = 1
rank (Stopped worker turn) = 2
rank (Delivered p load) = 3
rank (Underway p index place) = 4
rank (NotOffered entries) = 5
rank (Total delivered underway) = 6

-- Stops, deliveries and flits under way may be none or many; of each other kind there is one.
abbrev pub latest : ℕ → ℕ
latest next = if nat_le 2 next && nat_le next 4 then 5 else next

-- the rows that may be many
abbrev pub listed : Standing → ℕ
listed t = t.stops + (t.delivered + t.underway)

-- the sums are those of the rows; a million rows at most are listed
abbrev pub Fits : Standing → Row → Type 0
Fits t (Stopped worker turn) = listed t < 1000000
Fits t (Delivered p load) = listed t < 1000000
Fits t (Underway p index place) = listed t < 1000000
Fits t (Total delivered underway) = (delivered ≡ t.delivered) × (underway ≡ t.underway)
Fits t row = Unit {0}

pub record MayFollow (t : Standing) (row : Row) : Type 0 where
  pub early : t.next ≤ rank row
  pub late : rank row ≤ latest t.next
  pub fits : Fits t row

-- where a report stands behind one row more
abbrev pub behind : Standing → Row → Standing
behind t (Stopped worker turn) = record t { next = 2; stops = t.stops + 1 }
behind t (Delivered p load) = record t { next = 3; delivered = t.delivered + 1 }
behind t (Underway p index place) = record t { next = 4; underway = t.underway + 1 }
behind t row = record t { next = rank row + 1 }

abbrev pub standing : Standing → List Row → Standing
standing t rows = fold behind t rows

-- each row may follow those before it
abbrev pub Follow : Shape → Standing → List Row → Type 0
Follow s t [] = Unit {0}
Follow s t (row ∷ rows) = IsRow s row × MayFollow t row × Follow s (behind t row) rows

abbrev pub at_start : Standing
at_start = record { next = 0; stops = 0; delivered = 0; underway = 0 }

-- the rows of a whole report
abbrev pub IsReport : Shape → List Row → Type 0
IsReport s rows = Follow s at_start rows × ((standing at_start rows).next ≡ 7)
