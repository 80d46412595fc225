-- Sums over all sources and sinks.
use Rattle.std.specs.Prelude.{ℕ, length}
use Rattle.worm_mesh.specs.Address.{node_count}
use Rattle.worm_mesh.specs.Links.{sum_below}
use Rattle.worm_theory.specs.Steps.{packets_in}
use Rattle.worm_region.specs.State.{NetState, sink_at, queue_of}

-- the flits that one node's source accepted of the classes below n, and the packets and marks that they are of
abbrev pub injected_below : NetState → ℕ → ℕ → ℕ
injected_below s x n = sum_below (λ k. length (queue_of s x k).injected) n

abbrev pub accepted_below : NetState → ℕ → ℕ → ℕ
accepted_below s x n = sum_below (λ k. packets_in (queue_of s x k).injected) n

-- the same of all nodes, and the flits that all sinks took
abbrev pub injected_total : NetState → ℕ
injected_total s = sum_below (λ x. injected_below s x (length s.channels)) (node_count s.mesh)

abbrev pub accepted_total : NetState → ℕ
accepted_total s = sum_below (λ x. accepted_below s x (length s.channels)) (node_count s.mesh)

abbrev pub delivered_total : NetState → ℕ
delivered_total s = sum_below (λ x. length (sink_at s x).delivered) (node_count s.mesh)
