use Rattle.std.proofs.Common.{ℕ, ◌≡◌, ◌<◌, false}
use Rattle.worm_router.specs.Router.{terminal}
use Rattle.worm_term.specs.Source.{front_of}
use Rattle.worm_node.specs.Node.{can_enter}
use Rattle.worm_region.specs.State.{router_at, source_at}
use Rattle.worm_region.proofs.fabric.Fabric.feeds_nothing.Given as goal

-- the classes before have nothing to feed
abbrev pub invariant-loop-class : goal.invariant-loop-class
invariant-loop-class l = (k : ℕ) → k < l.class
    → can_enter (router_at l.self l.node) (terminal (router_at l.self l.node)) (front_of (source_at l.self l.node) k)
    ≡ false
