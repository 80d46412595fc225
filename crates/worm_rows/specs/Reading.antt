-- What each line of a report has to be, behind the rows before it.
use Rattle.std.specs.Prelude.{ℕ, ◌+◌, ◌&&◌, List, [], ◌∷◌, Result, Ok, Err, nat_le, nat_lt, ◌==◌}
use Rattle.std.specs.Prelude.{if◌then◌else◌, codes}
use Rattle.std.specs.Str.{bytes_eq}
use Rattle.worm_mesh.specs.Address.{node_count, has_neighbour}
use Rattle.worm_core.specs.declared.view.Place.{Place}
use Rattle.worm_core.specs.declared.view.Place.TheVariants.{Source, Buffer, Link}
use Rattle.worm_text.specs.declared.fault.Why.{Why}
use Rattle.worm_text.specs.declared.fault.Why.TheVariants.{Missing, Range, Repeated, UnknownWord, TooMany, AfterEnd}
use Rattle.worm_text.specs.Lines.{cut, space}
use Rattle.worm_text.specs.Reading.{◌>>=◌, checked, number_at, word_at, no_more}
use Rattle.worm_rows.specs.declared.shape.Shape.{Shape}
use Rattle.worm_rows.specs.declared.standing.Standing.{Standing}
use Rattle.worm_rows.specs.declared.rows.PacketId.{PacketId}
use Rattle.worm_rows.specs.declared.rows.Load.{Load}
use Rattle.worm_rows.specs.declared.rows.Load.TheVariants.{Close, Word}
use Rattle.worm_rows.specs.declared.rows.Row.{Row}
use Rattle.worm_rows.specs.declared.rows.Row.TheVariants.{Header, Options, Stopped, Delivered, Underway, NotOffered}
use Rattle.worm_rows.specs.declared.rows.Row.TheVariants.{Total}
use Rattle.worm_rows.specs.Rules.{has_buffer, rank, latest, listed}

-- ---- fields

-- a number of 32 bits
abbrev pub any_at : List (List ℕ) → Result (ℕ × List (List ℕ)) Why
any_at fields = number_at 0 4294967295 fields

-- a number below this one
unfoldable pub below_at : ℕ → List (List ℕ) → Result (ℕ × List (List ℕ)) Why
below_at limit fields = do
  n ← any_at fields
  checked (nat_lt n.0 limit) Range n

-- a word and then a number of 32 bits
unfoldable pub named_at : List ℕ → List (List ℕ) → Result (ℕ × List (List ℕ)) Why
named_at word fields = do
  rest ← word_at word fields
  any_at rest

abbrev pub packet_id : ℕ → ℕ → ℕ → ℕ → PacketId
packet_id src dst class number = record { lane = record { src = src; dst = dst; class = class }; number = number }

-- class and number of a packet from src to dst
unfoldable pub packet_at : Shape → ℕ → ℕ → List (List ℕ) → Result (PacketId × List (List ℕ)) Why
packet_at s src dst fields = do
  a ← word_at (codes "class") fields
  class ← below_at s.classes a
  b ← word_at (codes "packet") class.1
  number ← below_at 65536 b
  Ok (packet_id src dst class.0 number.0, number.1)

-- what stands behind the word of a place
unfoldable pub buffer_at : Shape → List (List ℕ) → Result Place Why
buffer_at s fields = do
  node ← below_at (node_count s.mesh) fields
  port ← below_at 256 node.1
  _ ← checked (has_buffer s.mesh node.0 port.0) Range port
  vc ← below_at s.vcs port.1
  _ ← no_more vc.1
  Ok (Buffer node.0 port.0 vc.0)

unfoldable pub link_at : Shape → List (List ℕ) → Result Place Why
link_at s fields = do
  node ← below_at (node_count s.mesh) fields
  port ← below_at 256 node.1
  _ ← checked (has_neighbour s.mesh node.0 port.0) Range port
  vc ← below_at s.vcs port.1
  _ ← no_more vc.1
  Ok (Link node.0 port.0 vc.0)

-- a place that the network has
unfoldable pub place_at : Shape → List (List ℕ) → Result Place Why
place_at s [] = Err Missing
place_at s (f ∷ fs) =
    if bytes_eq f (codes "source") then (no_more fs >>= λ _. Ok Source)
    else if bytes_eq f (codes "buffer") then buffer_at s fs
    else if bytes_eq f (codes "link") then link_at s fs
    else Err UnknownWord

unfoldable pub load_word_at : List (List ℕ) → Result Load Why
load_word_at fields = do
  index ← below_at 32 fields
  word ← named_at (codes "word") index.1
  _ ← no_more word.1
  Ok (Word index.0 word.0)

-- what a delivered flit carried
unfoldable pub load_at : List (List ℕ) → Result Load Why
load_at [] = Err Missing
load_at (f ∷ fs) =
    if bytes_eq f (codes "close") then (no_more fs >>= λ _. Ok Close)
    else if bytes_eq f (codes "flit") then load_word_at fs
    else Err UnknownWord

-- ---- rows, behind their first word

unfoldable pub header_at : List (List ℕ) → Result Row Why
header_at fields = do
  version ← number_at 1 1 fields
  _ ← no_more version.1
  Ok Header

unfoldable pub options_at : List (List ℕ) → Result Row Why
options_at fields = do
  turns ← any_at fields
  workers ← named_at (codes "workers") turns.1
  drain ← named_at (codes "drain") workers.1
  _ ← no_more drain.1
  Ok (Options turns.0 workers.0 drain.0)

unfoldable pub stopped_at : List (List ℕ) → Result Row Why
stopped_at fields = do
  worker ← named_at (codes "worker") fields
  turn ← named_at (codes "turn") worker.1
  _ ← no_more turn.1
  Ok (Stopped worker.0 turn.0)

unfoldable pub delivered_at : Shape → List (List ℕ) → Result Row Why
delivered_at s fields = do
  dst ← below_at (node_count s.mesh) fields
  a ← word_at (codes "from") dst.1
  src ← below_at (node_count s.mesh) a
  packet ← packet_at s src.0 dst.0 src.1
  load ← load_at packet.1
  Ok (Delivered packet.0 load)

unfoldable pub underway_at : Shape → List (List ℕ) → Result Row Why
underway_at s fields = do
  src ← below_at (node_count s.mesh) fields
  dst ← below_at (node_count s.mesh) src.1
  packet ← packet_at s src.0 dst.0 dst.1
  a ← word_at (codes "flit") packet.1
  index ← below_at 32 a
  place ← place_at s index.1
  Ok (Underway packet.0 index.0 place)

unfoldable pub not_offered_at : List (List ℕ) → Result Row Why
not_offered_at fields = do
  entries ← named_at (codes "offered") fields
  _ ← no_more entries.1
  Ok (NotOffered entries.0)

unfoldable pub total_at : List (List ℕ) → Result Row Why
total_at fields = do
  injected ← named_at (codes "injected") fields
  delivered ← named_at (codes "delivered") injected.1
  underway ← named_at (codes "underway") delivered.1
  _ ← checked (injected.0 == delivered.0 + underway.0) Range underway
  _ ← no_more underway.1
  Ok (Total delivered.0 underway.0)

-- what a line says
unfoldable pub row_at : Shape → List (List ℕ) → Result Row Why
row_at s [] = Err Missing
row_at s (f ∷ fs) =
    if bytes_eq f (codes "wormreport") then header_at fs
    else if bytes_eq f (codes "turns") then options_at fs
    else if bytes_eq f (codes "stopped") then stopped_at fs
    else if bytes_eq f (codes "delivered") then delivered_at s fs
    else if bytes_eq f (codes "underway") then underway_at s fs
    else if bytes_eq f (codes "not") then not_offered_at fs
    else if bytes_eq f (codes "total") then total_at fs
    else Err UnknownWord

-- ---- a row behind those before it

unfoldable pub fits_at : Standing → Row → Result Row Why
fits_at t (Total delivered underway) = checked ((delivered == t.delivered) && (underway == t.underway)) Range
    (Total delivered underway)
fits_at t (Stopped worker turn) = checked (nat_lt (listed t) 1000000) TooMany (Stopped worker turn)
fits_at t (Delivered p load) = checked (nat_lt (listed t) 1000000) TooMany (Delivered p load)
fits_at t (Underway p index place) = checked (nat_lt (listed t) 1000000) TooMany (Underway p index place)
fits_at t row = Ok row

-- a row that comes too late, or too early
unfoldable pub admits : Standing → Row → Result Row Why
admits t row = do
  _ ← checked (nat_le t.next (rank row)) Repeated row
  _ ← checked (nat_le (rank row) (latest t.next)) Missing row
  fits_at t row

-- the row of a finished line
unfoldable pub judge : Shape → Standing → List ℕ → Result Row Why
judge s t l = do
  _ ← checked (nat_lt t.next 7) AfterEnd l
  row ← row_at s (cut space l)
  admits t row
