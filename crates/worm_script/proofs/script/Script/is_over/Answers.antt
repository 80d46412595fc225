use Rattle.std.proofs.Common.{◌≡◌, Bool, true, false, arith, refl}
use Rattle.std.specs.Prelude.{IsTrue}
use Rattle.worm_script.specs.Script.{AreInOrder}
use Rattle.worm_script.proofs.DueEntries.{less, none_behind}
use Rattle.worm_script.proofs.script.Script.is_over.Goals as goal
use Rattle.std.proofs.Common.{subst}

true_of : (b : Bool) → IsTrue b → b ≡ true
true_of true h = refl
true_of false h = absurd (cc)

pub returns-else-is_empty : goal.returns-else-is_empty
returns-else-is_empty c = λ over.
    let in_order = subst AreInOrder c.self.view_is c.self.invariant.in_order in
    let below = less c.from.result c.args.turn (true_of _ over) in
    let is = c.from.ensures in
    let last = c.last_turn.ensures in
    none_behind c.args.self.now c.args.turn in_order (omega arith)
