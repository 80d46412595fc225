use Rattle.std.proofs.Common.{arith}
use Rattle.worm_core.proofs.Marks.{line_small}
use Rattle.worm_core.proofs.busy.LaneSet.line.Goals as goal

pub overflow_mul-result : goal.overflow_mul-result
overflow_mul-result c =
    let few = c.self.invariant.0 in
    let classes = c.self.invariant.1 in
    omega (
      arith,
      line_small c.from.result c.from-2.result c.from-3.result c.from-4.result 0 (omega arith) (omega arith)
          (omega arith) (omega arith) (omega arith),
    )

pub overflow_add-result : goal.overflow_add-result
overflow_add-result c =
    let few = c.self.invariant.0 in
    let classes = c.self.invariant.1 in
    omega (
      arith,
      line_small c.from.result c.from-2.result c.from-3.result c.from-4.result c.from-5.result (omega arith)
          (omega arith) (omega arith) (omega arith) (omega arith),
    )
