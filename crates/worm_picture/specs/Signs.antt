-- How a flit looks.
use Rattle.std.specs.Prelude.{ℕ, ◌==◌, if◌then◌else◌, List, codes}

-- a flit's shape, by its place in its packet and that of the packet's tail
abbrev pub shape_of : ℕ → ℕ → List ℕ
shape_of index last =
    if index == 0 then (if last == 0 then codes "single" else codes "opening")
    else (if index == last then codes "tail" else codes "body")
