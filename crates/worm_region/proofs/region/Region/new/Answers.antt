use Rattle.std.proofs.Common.{◌≤◌, arith}
use Rattle.worm_mesh.specs.Address.{AreRadices}
use Rattle.worm_region.proofs.NewNet.{fresh_holds, workable}
use Rattle.worm_region.proofs.region.Region.new.Goals as goal

pub invariant_of-result : goal.invariant_of-result
invariant_of-result c =
    let radices : AreRadices c.in-Ok.mesh = rw c.in-Ok.ensures.0 c.in-Ok.ensures.1 in
    let depth : 1 ≤ c.args.config.now.depth = let zero = c.if-config-eq0.false in omega arith in
    let few : c.args.config.now.depth ≤ 16 = let more = c.if-config-gt16.false in omega arith in
    let classes = c.are_channels.ensures.0 c.if-not-are_channels.false in
    workable c.in-Ok-new.fabric
    (fresh_holds c.in-Ok.mesh c.as_slice-channels.result.now c.args.config.now.depth _ c.in-Ok-new.fabric
    c.in-Ok-new.ensures radices classes depth few)

pub returns-clause-whole : goal.returns-clause-whole
returns-clause-whole c =
    let radices : AreRadices c.in-Ok.mesh = rw c.in-Ok.ensures.0 c.in-Ok.ensures.1 in
    let depth : 1 ≤ c.args.config.now.depth = let zero = c.if-config-eq0.false in omega arith in
    let few : c.args.config.now.depth ≤ 16 = let more = c.if-config-gt16.false in omega arith in
    let classes = c.are_channels.ensures.0 c.if-not-are_channels.false in
    (fresh_holds c.in-Ok.mesh c.as_slice-channels.result.now c.args.config.now.depth _ c.in-Ok-new.fabric
    c.in-Ok-new.ensures radices classes depth few)
