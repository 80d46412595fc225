use Rattle.std.proofs.Common.{sym, ap, ◌∙◌, ◌++◌, ◌∷◌, [], take}
use Rattle.worm_flit.specs.Stamps.{of_lane, on_channel}
use Rattle.worm_region.specs.Moves.{link_out}
use Rattle.worm_region.specs.State.{link_at}
use Rattle.worm_core.specs.LaneView.{at_place}
use Rattle.worm_core.specs.declared.view.Place.TheVariants.{Link}
use Rattle.worm_core.proofs.ViewLists.{added, line-more, line-same}
use Rattle.worm_core.proofs.view.put_line.Goals as goal
use Rattle.worm_core.proofs.view.put_line.Goals.{then-flit-vc+in_ok-put, else-flit-vc}

pub loop-i-preserved : goal.loop-i-preserved
loop-i-preserved c =
    let place = Link c.args.node c.args.port c.args.vc in
    let flits = (link_at c.args.fabric.now (link_out c.args.fabric.now c.args.node c.args.port)).flits in
    let lane = c.args.lane in
    let flit = c.flit-flit.result in
    elim c.if-flit-vc.branch [
      | then-flit-vc+in_ok-put w ↦ rw w.held-is
          (added c.args.held.now.items c.loop-i.held.items (at_place place (of_lane lane (flit ∷ [])))
          (at_place place (of_lane lane (on_channel c.args.vc (take c.loop-i.i flits)))) _ _
          w.in_ok-put.ensures c.loop-i.invariant
          (line-more place lane c.args.vc flits c.loop-i.i flit c.flit-flit.ensures w.if-flit-vc.true))
      | else-flit-vc w ↦ rw w.held-is (c.loop-i.invariant
          ∙ ap (λ hs. c.args.held.now.items ++ hs)
          (sym (line-same place lane c.args.vc flits c.loop-i.i flit c.flit-flit.ensures w.if-flit-vc.false)))
    ]
