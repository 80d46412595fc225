use Rattle.std.proofs.Common.{◌≡◌, ◌≤◌}
use Rattle.worm_mesh.specs.Links.{links_before}
use Rattle.worm_mesh.proofs.mesh.Mesh.link_ends_at.Given as goal

abbrev pub invariant-loop-out_port : goal.invariant-loop-out_port
invariant-loop-out_port l = (l.before ≡ links_before l.self l.from l.out_port) × (l.before ≤ l.number)
