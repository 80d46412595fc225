use Rattle.std.proofs.Common.{◌∙◌, ap, arith, length, sym}
use Rattle.worm_script.specs.declared.entry.Entry.{Entry}
use Rattle.worm_script.proofs.NextOfSource.{first_is_next, none_is_next}
use Rattle.worm_script.proofs.due.Due.first_of.Goals as goal

pub returns-then-source-node : goal.returns-then-source-node
returns-then-source-node c =
    let long = ap (length {A = Entry}) c.self.view_is in
    first_is_next c.args.node c.args.self.now c.loop-i.i (grind arith) (sym c.source.ensures ∙ c.if-source-node.true)
    c.loop-i.invariant

pub returns : goal.returns
returns c =
    let long = ap (length {A = Entry}) c.self.view_is in
    none_is_next c.args.node c.args.self.now c.loop-i.i (grind arith) c.loop-i.invariant
