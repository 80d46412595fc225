-- The lane from a node to another (Dally and Towles, chapter 12).
use Rattle.std.specs.Prelude.{ℕ}
use Rattle.worm_flit.specs.declared.Lane.{Lane}

abbrev pub lane_of : ℕ → ℕ → ℕ → Lane
lane_of node dst class = record { src = node; dst = dst; class = class }
