use Rattle.std.proofs.Common.{◌+◌, ◌*◌, ℕ, List, All, ap, subst, ◌∙◌}
use Rattle.worm_picture.specs.declared.scene.Flit.{Flit}
use Rattle.worm_picture.specs.Nodes.{IsStation, spots_in}
use Rattle.worm_picture.specs.Packets.{tail_in}
use Rattle.worm_picture.proofs.views.view.Goals as goal

pub returns-clause-shown : goal.returns-clause-shown
returns-clause-shown c =
    record {
      spots = c.in_ok-stations.ensures.spots ∙ c.as_slice-2.ensures.value ∙ c.in_ok-spots.ensures
          ∙ ap (λ (d : ℕ). spots_in c.args.node (2 * d + 1) c.args.shape.now.vcs) c.dims.ensures.value;
      stations = subst (λ (flits : List Flit). All (IsStation (tail_in c.args.packets.now) flits)
          c.in_ok-stations.field-0.items)
          (c.as_slice.ensures.value ∙ c.in_ok-here.ensures) c.in_ok-stations.ensures.each;
      waiting = c.queued.ensures;
      arrived = c.delivered.ensures;
    }
