-- The lines of a report, and the text of each: fields parted by single spaces, numbers in decimal, a line feed at the
-- end.
use Rattle.std.specs.Prelude.{ℕ, ◌-◌, List, [], ◌∷◌, ◌++◌, codes, decimal}
use Rattle.std.specs.List.{flat_map, join_with_byte}
use Rattle.worm_flit.specs.declared.Flit.{Flit}
use Rattle.worm_flit.specs.declared.Kind.{Kind}
use Rattle.worm_flit.specs.declared.Kind.TheVariants.{Close}
use Rattle.worm_core.specs.declared.view.Place.{Place}
use Rattle.worm_core.specs.declared.view.Place.TheVariants.{Source, Buffer, Link}
use Rattle.worm_report.specs.declared.row.Row.{Row}
use Rattle.worm_report.specs.declared.row.Row.TheVariants.{Header, Options, Stopped, Delivered, Underway, NotOffered}
use Rattle.worm_report.specs.declared.row.Row.TheVariants.{Total}

abbrev pub newline : ℕ
newline = 10

abbrev pub space : ℕ
space = 32

-- the packet that a flit belongs to
abbrev pub packet_fields : Flit → List (List ℕ)
packet_fields flit = codes "class" ∷ decimal flit.lane.class ∷ codes "packet" ∷ decimal flit.packet ∷ []

-- what a delivered flit carries; a close mark carries nothing
abbrev pub load_fields : Kind → Flit → List (List ℕ)
load_fields Close flit = codes "close" ∷ []
load_fields _ flit = codes "flit" ∷ decimal flit.index ∷ codes "word" ∷ decimal flit.word ∷ []

abbrev pub place_fields : Place → List (List ℕ)
place_fields Source = codes "source" ∷ []
place_fields (Buffer node port vc) = codes "buffer" ∷ decimal node ∷ decimal port ∷ decimal vc ∷ []
place_fields (Link node port vc) = codes "link" ∷ decimal node ∷ decimal port ∷ decimal vc ∷ []

abbrev pub row_fields : Row → List (List ℕ)
row_fields Header = codes "wormreport" ∷ decimal 1 ∷ []
row_fields (Options turns workers drain) =
    codes "turns" ∷ decimal turns ∷ codes "workers" ∷ decimal workers ∷ codes "drain" ∷ decimal drain ∷ []
row_fields (Stopped worker turn) = codes "stopped" ∷ codes "worker" ∷ decimal worker ∷ codes "turn" ∷ decimal turn ∷ []
row_fields (Delivered node flit) = (codes "delivered" ∷ decimal node ∷ codes "from" ∷ decimal flit.lane.src
    ∷ packet_fields flit) ++ load_fields flit.kind flit
row_fields (Underway lane held) =
    (codes "underway" ∷ decimal lane.src ∷ decimal lane.dst ∷ packet_fields held.flit)
    ++ codes "flit" ∷ decimal held.flit.index ∷ place_fields held.place
row_fields (NotOffered entries) = codes "not" ∷ codes "offered" ∷ decimal entries ∷ []
row_fields (Total injected delivered) =
    codes "total" ∷ codes "injected" ∷ decimal injected ∷ codes "delivered" ∷ decimal delivered ∷ codes "underway"
    ∷ decimal (injected - delivered) ∷ []

-- the line, with its end
unfoldable pub row_text : Row → List ℕ
row_text row = join_with_byte space (row_fields row) ++ newline ∷ []

-- each row as a line
abbrev pub rows_text : List Row → List ℕ
rows_text rows = flat_map row_text rows
