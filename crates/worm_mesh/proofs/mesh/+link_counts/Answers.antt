-- the rows of the lowest digit add up to the sum over the nodes
use Rattle.std.proofs.Common.{arith, sym}
use Rattle.std.proofs.lemmas.List.{take_rest}
use Rattle.worm_mesh.proofs.Counts.{row_sum, none_below}
use Rattle.worm_mesh.proofs.mesh.+link_counts.Goals as goal

pub returns-in-empty-clause-below : goal.returns-in-empty-clause-below
returns-in-empty-clause-below t c = sym (none_below c.args.radices.now c.args.node (omega arith))

pub links_in_rows-requires-clause-fits : goal.links_in_rows-requires-clause-fits
links_in_rows-requires-clause-fits t c =
    let below = rw (take_rest c.args.radices.now 1) at c.link_counts-rest.ensures.below in
    let here = rw (take_rest c.args.radices.now 1) at c.link_counts-rest.ensures.here in
    let sum = row_sum c.args.radices.now c.args.node c.from-radix.result c.link_counts-rest.result.below
    c.link_counts-rest.result.here (omega arith) c.requires.few_dims c.requires.radices c.from-radix.ensures below
    here in
    omega (arith, sum.small)

pub overflow_add-result : goal.overflow_add-result
overflow_add-result t c =
    let below = rw (take_rest c.args.radices.now 1) at c.link_counts-rest.ensures.below in
    let here = rw (take_rest c.args.radices.now 1) at c.link_counts-rest.ensures.here in
    let sum = row_sum c.args.radices.now c.args.node c.from-radix.result c.link_counts-rest.result.below
    c.link_counts-rest.result.here (omega arith) c.requires.few_dims c.requires.radices c.from-radix.ensures below
    here in
    omega (arith, sum.few_here)

pub returns-in-len1-up-clause-below : goal.returns-in-len1-up-clause-below
returns-in-len1-up-clause-below t c =
    let below = rw (take_rest c.args.radices.now 1) at c.link_counts-rest.ensures.below in
    let here = rw (take_rest c.args.radices.now 1) at c.link_counts-rest.ensures.here in
    let sum = row_sum c.args.radices.now c.args.node c.from-radix.result c.link_counts-rest.result.below
    c.link_counts-rest.result.here (omega arith) c.requires.few_dims c.requires.radices c.from-radix.ensures below
    here in
    rw c.links_in_rows.ensures sum.total
