use Rattle.std.proofs.Common.{length}
use Rattle.worm_mesh.proofs.mesh.+link_counts.Given as goal

abbrev pub decreases-link_counts : goal.decreases-link_counts
decreases-link_counts l = length l.radices.now
