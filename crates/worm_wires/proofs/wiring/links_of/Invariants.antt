use Rattle.std.proofs.Common.{◌≡◌, ℕ, ◌<◌, get_or, length}
use Rattle.worm_wires.specs.Wiring.{kept_number, out_link}
use Rattle.worm_wires.proofs.wiring.links_of.Given as goal

abbrev pub invariant-loop-port : goal.invariant-loop-port
invariant-loop-port l = record {
  all : length l.outs ≡ 6;
  linked : (k : ℕ) → k < l.port
      → get_or l.outs k 0 ≡ kept_number (out_link l.mesh l.node k);
}
