use Rattle.std.proofs.Common.{◌≡◌, ℕ, ◌<◌, ◌/◌, ◌%◌, false}
use Rattle.worm_flit.specs.SmallSet.{has}
use Rattle.worm_mesh.specs.Address.{stride_of}
use Rattle.worm_split.proofs.part.Part.shared_ports.Given as goal

abbrev pub invariant-loop-port : goal.invariant-loop-port
invariant-loop-port l = (p : ℕ) → p < l.port → has l.shared p ≡ false
    → stride_of l.self.net.mesh (p / 2) % l.self.net.own.workers ≡ 0
