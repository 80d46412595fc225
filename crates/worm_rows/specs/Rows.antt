-- The text of a report: each row a line, its fields parted by single spaces, numbers in decimal.
use Rattle.std.specs.Prelude.{ℕ, ◌+◌, List, [], ◌∷◌, map, codes, decimal}
use Rattle.worm_core.specs.declared.view.Place.{Place}
use Rattle.worm_core.specs.declared.view.Place.TheVariants.{Source, Buffer, Link}
use Rattle.worm_text.specs.Lines.{line, finished}
use Rattle.worm_rows.specs.declared.rows.PacketId.{PacketId}
use Rattle.worm_rows.specs.declared.rows.Load.{Load}
use Rattle.worm_rows.specs.declared.rows.Load.TheVariants.{Close, Word}
use Rattle.worm_rows.specs.declared.rows.Row.{Row}
use Rattle.worm_rows.specs.declared.rows.Row.TheVariants.{Header, Options, Stopped, Delivered, Underway, NotOffered}
use Rattle.worm_rows.specs.declared.rows.Row.TheVariants.{Total}

-- what stands behind the words of a place
abbrev pub spot_fields : ℕ → ℕ → ℕ → List (List ℕ)
spot_fields node port vc = decimal node ∷ decimal port ∷ decimal vc ∷ []

abbrev pub place_fields : Place → List (List ℕ)
place_fields Source = codes "source" ∷ []
place_fields (Buffer node port vc) = codes "buffer" ∷ spot_fields node port vc
place_fields (Link node port vc) = codes "link" ∷ spot_fields node port vc

abbrev pub load_fields : Load → List (List ℕ)
load_fields Close = codes "close" ∷ []
load_fields (Word index word) = codes "flit" ∷ decimal index ∷ codes "word" ∷ decimal word ∷ []

-- class and number of a packet, and then these fields
abbrev pub packet_fields : PacketId → List (List ℕ) → List (List ℕ)
packet_fields p rest = codes "class" ∷ decimal p.lane.class ∷ codes "packet" ∷ decimal p.number ∷ rest

abbrev pub row_fields : Row → List (List ℕ)
row_fields Header = codes "wormreport" ∷ decimal 1 ∷ []
row_fields (Options turns workers drain) =
    codes "turns" ∷ decimal turns ∷ codes "workers" ∷ decimal workers ∷ codes "drain" ∷ decimal drain ∷ []
row_fields (Stopped worker turn) = codes "stopped" ∷ codes "worker" ∷ decimal worker ∷ codes "turn" ∷ decimal turn ∷ []
row_fields (Delivered p load) =
    codes "delivered" ∷ decimal p.lane.dst ∷ codes "from" ∷ decimal p.lane.src ∷ packet_fields p (load_fields load)
row_fields (Underway p index place) =
    codes "underway" ∷ decimal p.lane.src ∷ decimal p.lane.dst
    ∷ packet_fields p (codes "flit" ∷ decimal index ∷ place_fields place)
row_fields (NotOffered entries) = codes "not" ∷ codes "offered" ∷ decimal entries ∷ []
row_fields (Total delivered underway) =
    codes "total" ∷ codes "injected" ∷ decimal (delivered + underway)
    ∷ codes "delivered" ∷ decimal delivered ∷ codes "underway" ∷ decimal underway ∷ []

abbrev pub row_line : Row → List ℕ
row_line row = line (row_fields row)

-- the one text of these rows
abbrev pub rows_text : List Row → List ℕ
rows_text rows = finished (map row_line rows)
