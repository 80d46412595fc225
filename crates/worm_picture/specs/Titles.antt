-- What hovering over a flit says: its lane, its packet and its place there, and its word where the report tells it.
use Rattle.std.specs.Prelude.{ℕ, List, ◌++◌, codes, decimal}
use Rattle.worm_rows.specs.declared.rows.Load.{Load}
use Rattle.worm_rows.specs.declared.rows.Load.TheVariants.{Close, Word}
use Rattle.worm_picture.specs.declared.titles.FlitTitle.{FlitTitle}
use Rattle.worm_picture.specs.declared.titles.ArrivalTitle.{ArrivalTitle}

abbrev pub flit_title : FlitTitle → List ℕ
flit_title t =
    codes "from " ++ (decimal t.packet.lane.src ++ (codes " to " ++ (decimal t.packet.lane.dst
    ++ (codes " class " ++ (decimal t.packet.lane.class ++ (codes " packet " ++ (decimal t.packet.number
    ++ (codes " flit " ++ (decimal t.index ++ (codes ", of 0 to " ++ decimal t.last))))))))))

abbrev pub load_title : Load → List ℕ
load_title Close = codes " close"
load_title (Word index word) = codes " flit " ++ (decimal index ++ (codes " word " ++ decimal word))

abbrev pub arrival_title : ArrivalTitle → List ℕ
arrival_title t =
    codes "from " ++ (decimal t.packet.lane.src ++ (codes " class " ++ (decimal t.packet.lane.class
    ++ (codes " packet " ++ (decimal t.packet.number ++ load_title t.load)))))
