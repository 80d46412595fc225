-- The path of a packet's way, from point to point.
use Rattle.std.specs.Prelude.{ℕ, List, ◌++◌, codes, decimal}
use Rattle.worm_picture.specs.declared.ways.Way.{Way}
use Rattle.worm_picture.specs.declared.ways.Way.TheVariants as way

abbrev pub way_path : Way → List ℕ
way_path (way.In core level) = codes "M-" ++ (decimal core ++ (codes "," ++ (decimal level ++ codes "L0,0")))
way_path (way.Out core level to) =
    codes "M0,0L" ++ (decimal core ++ (codes "," ++ (decimal level
    ++ (codes "L" ++ (decimal to ++ (codes "," ++ decimal level))))))
way_path (way.Stub core bend knee level to) =
    codes "M0,0L" ++ (decimal core ++ (codes "," ++ (decimal bend
    ++ (codes "L" ++ (decimal knee ++ (codes "," ++ (decimal level
    ++ (codes "L" ++ (decimal to ++ (codes "," ++ decimal level))))))))))
way_path (way.Sink x y) = codes "M0,0L" ++ (decimal x ++ (codes "," ++ decimal y))
