use Rattle.std.proofs.Common.{◌≡◌, length}
use Rattle.worm_node.proofs.fresh.make_places.Given as goal

abbrev pub invariant-loop-place : goal.invariant-loop-place
invariant-loop-place l = length l.places.items ≡ l._place
