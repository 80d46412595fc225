-- The theory's shape of a network with these radices, these numbers of channels by class, and this depth; kept closed
-- in goals.
use Rattle.std.specs.Prelude.{ℕ, List}
use Rattle.worm_theory.specs.Shape.{Shape}
use Rattle.worm_theory.specs.ShapeOf.{shape_of}

unfoldable pub net_shape : List ℕ → List ℕ → ℕ → Shape
net_shape mesh channels depth = shape_of mesh channels depth
