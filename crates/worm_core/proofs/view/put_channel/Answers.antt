use Rattle.std.proofs.Common.{◌∷◌, [], take, arith, sym}
use Rattle.worm_flit.specs.Stamps.{of_lane}
use Rattle.worm_router.specs.Router.{input_at}
use Rattle.worm_core.specs.LaneView.{at_place}
use Rattle.worm_core.specs.declared.view.Place.TheVariants.{Buffer}
use Rattle.worm_core.proofs.ViewLists.{added, below_end, held-more, take_end, buffer_few}
use Rattle.worm_core.proofs.view.put_channel.Goals as goal

pub overflow_add-i : goal.overflow_add-i
overflow_add-i c =
    let below = below_end (input_at c.args.router.now c.args.port c.args.vc).buffer c.loop-flit.i c.in-Some.flit
    (sym c.in-Some.ensures.value) in
    let few = buffer_few c.args.router.now c.args.port c.args.vc c.in-Some.ensures.sound in
    omega arith

pub loop-flit-smaller : goal.loop-flit-smaller
loop-flit-smaller c =
    let below = below_end (input_at c.args.router.now c.args.port c.args.vc).buffer c.loop-flit.i c.in-Some.flit
    (sym c.in-Some.ensures.value) in
    omega arith

pub loop-flit-preserved : goal.loop-flit-preserved
loop-flit-preserved c =
    let place = Buffer c.args.node c.args.port c.args.vc in
    let flits = (input_at c.args.router.now c.args.port c.args.vc).buffer in
    let lane = c.args.lane in
    added c.args.held.now.items c.loop-flit.held.items (at_place place (of_lane lane (c.in-Some.flit ∷ [])))
    (at_place place (of_lane lane (take c.loop-flit.i flits))) _ _
    c.in_ok-put.ensures c.loop-flit.invariant
    (held-more place lane flits c.loop-flit.i c.in-Some.flit (sym c.in-Some.ensures.value))

pub returns : goal.returns
returns c =
    let flits = (input_at c.args.router.now c.args.port c.args.vc).buffer in
    rw (sym (take_end flits c.loop-flit.i (sym c.in_default.ensures.value))) c.loop-flit.invariant
