-- the answer is the test's, which is exact
use Rattle.std.proofs.Common.{arith}
use Rattle.std.proofs.lemmas.Grind.{common_steps}
use Rattle.worm_mesh.proofs.Digits.{AreLarge-from_radices}
use Rattle.worm_route.proofs.CrossesWhereNext.{exact_from}
use Rattle.worm_route.proofs.crosses.Goals as goal

pub returns-then-steps_by-clause-value : goal.returns-then-steps_by-clause-value
returns-then-steps_by-clause-value c = grind (arith, common_steps)

pub returns-then-steps_by-clause-exact : goal.returns-then-steps_by-clause-exact
returns-then-steps_by-clause-exact c =
    exact_from c.args.mesh.now (AreLarge-from_radices c.args.mesh.now c.dims-d-end.ensures.mesh.radices) _ c.args.node
    c.args.port c.args.src c.args.dst c.requires.src_in c.requires.dst_in (returns-then-steps_by-clause-value c)

pub returns-else-steps_by-clause-value : goal.returns-else-steps_by-clause-value
returns-else-steps_by-clause-value c = grind (arith, common_steps)

pub returns-else-steps_by-clause-exact : goal.returns-else-steps_by-clause-exact
returns-else-steps_by-clause-exact c =
    exact_from c.args.mesh.now (AreLarge-from_radices c.args.mesh.now c.dims-d-end.ensures.mesh.radices) _ c.args.node
    c.args.port c.args.src c.args.dst c.requires.src_in c.requires.dst_in (returns-else-steps_by-clause-value c)

pub returns-then-digit-aim-clause-value : goal.returns-then-digit-aim-clause-value
returns-then-digit-aim-clause-value c = grind (arith, common_steps)

pub returns-then-digit-aim-clause-exact : goal.returns-then-digit-aim-clause-exact
returns-then-digit-aim-clause-exact c =
    exact_from c.args.mesh.now (AreLarge-from_radices c.args.mesh.now c.dims-d-end.ensures.mesh.radices) _ c.args.node
    c.args.port c.args.src c.args.dst c.requires.src_in c.requires.dst_in (returns-then-digit-aim-clause-value c)
