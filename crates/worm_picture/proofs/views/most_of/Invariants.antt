use Rattle.std.proofs.Common.{◌≡◌, take}
use Rattle.worm_picture.specs.Nodes.{held_in, most_by}
use Rattle.worm_picture.proofs.views.most_of.Given as goal

abbrev pub invariant-loop-view : goal.invariant-loop-view
invariant-loop-view l = record {
  held : l.most.held ≡ most_by held_in (take l.view-index l.views);
  arrived : l.most.arrived ≡ most_by (λ v. v.arrived) (take l.view-index l.views);
}
