use Rattle.std.proofs.Common.{◌+◌, ◌-◌, ◌%◌, ◌≡◌, ◌<◌, arith, length-set}
use Rattle.worm_mesh.specs.Address.{stride_of}
use Rattle.worm_wires.proofs.StepsAdd.{steps_more, stride_some}
use Rattle.worm_wires.proofs.wiring.steps.Goals as goal

pub loop-dim-preserved : goal.loop-dim-preserved
loop-dim-preserved c =
    let inv = c.loop-dim.invariant in
    let some : 0 < stride_of c.args.mesh.now c.loop-dim.dim =
    stride_some c.args.mesh.now c.loop-dim.dim c.dims-dim-end.ensures.mesh in
    let down : (0 + (256 - c.stride-stride.result)) % 256 + stride_of c.args.mesh.now c.loop-dim.dim ≡ 256 =
    omega (arith, some, c.stride-stride.ensures) in
    record {
      all = rw length-set (rw length-set inv.all);
      kept = steps_more c.args.mesh.now c.loop-dim.steps c.loop-dim.dim c.from.result c.from-in-loop-dim.result
          ((0 + (256 - c.stride-stride.result)) % 256) c.stride-stride.result inv.all (omega arith) c.from.ensures
          c.from-in-loop-dim.ensures down c.stride-stride.ensures inv.kept;
    }
