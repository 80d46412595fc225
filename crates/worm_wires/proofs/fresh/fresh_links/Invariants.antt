use Rattle.std.proofs.Common.{◌≡◌, replicate}
use Rattle.worm_wires.specs.Links.{empty_link}
use Rattle.worm_wires.proofs.fresh.fresh_links.Given as goal

abbrev pub invariant-loop-number : goal.invariant-loop-number
invariant-loop-number l = l.links.items ≡ replicate l._number (empty_link l.room)
