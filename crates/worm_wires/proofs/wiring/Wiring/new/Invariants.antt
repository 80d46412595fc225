use Rattle.std.proofs.Common.{◌≡◌, ℕ, ◌<◌, get_or, length}
use Rattle.worm_wires.specs.Wiring.{AreLinksOf, no_links}
use Rattle.worm_wires.proofs.wiring.Wiring.new.Given as goal

abbrev pub invariant-loop-node : goal.invariant-loop-node
invariant-loop-node l = record {
  all : length l.nodes ≡ 256;
  wired : (x : ℕ) → x < l.node
      → AreLinksOf l.mesh x (get_or l.nodes x no_links);
}
