use Rattle.std.proofs.Common.{◌≡◌}
use Rattle.worm_picture.specs.Nodes.{spots_in}
use Rattle.worm_picture.proofs.views.spots_in.Given as goal

abbrev pub invariant-loop-port : goal.invariant-loop-port
invariant-loop-port l = l.spots.items ≡ spots_in l.node l.port l.vcs
