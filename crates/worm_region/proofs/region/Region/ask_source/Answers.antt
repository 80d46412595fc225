use Rattle.std.proofs.Common.{◌≡◌, ℕ, ◌+◌, sym, subst}
use Rattle.std.specs.Prelude.{Result}
use Rattle.std.proofs.lemmas.Result.{err_from_is_err_and}
use Rattle.worm_script.specs.Script.{IsNext}
use Rattle.worm_script.specs.declared.entry.Act.{Act}
use Rattle.worm_script.specs.declared.entry.Act.TheVariants.{Close}
use Rattle.worm_script.specs.declared.entry.Entry.{Entry}
use Rattle.worm_region.specs.Replies.{Replies}
use Rattle.worm_region.specs.State.{NetState}
use Rattle.worm_region.specs.Turns.{ask}
use Rattle.worm_region.specs.declared.fault.StepFault.{StepFault}
use Rattle.worm_region.specs.declared.step.Moved.{Moved}
use Rattle.worm_region.proofs.TurnInParts.{asks_all, asks_first, asks_more, asks_until, asks_within}
use Rattle.worm_region.proofs.TurnInParts.{fewer_left, next_left}
use Rattle.worm_region.proofs.region.Region.ask_source.Goals as goal

abbrev other : Entry
other = record { turn = 0; act = Close (record { src = 0; dst = 0; class = 0 }) }

-- what was told of an entry is what it asks, so it was answered
answered : (x : ℕ) (asks told : Act) (a b : NetState) (answer : Result Moved StepFault) → asks ≡ told
    → Replies a (ask x told) answer b → Replies a (ask x asks) answer b
answered x asks told a b answer same replies =
    subst (λ (act : Act). Replies a (ask x act) answer b) (sym same) replies

-- the entry asked for is of the node's source, so the next of its source is the next one for the node
left : (c : goal.After-next_of-next) → IsNext c.args.node c.args.entries.now (c.in-Some.i + 1) c.next_of-next.result
left c =
    next_left c.args.node c.args.entries.now c.in-Some.i other c.args.self.now c.loop-next.self
    c.next_of-next.result (rw c.in-Some.is at c.loop-next.invariant) c.next_of-next.ensures

pub loop-next-init : goal.loop-next-init
loop-next-init c =
    asks_first c.args.node c.args.entries.now c.first_of-next.result c.args.self.now c.first_of-next.ensures

pub act-requires : goal.act-requires
act-requires c =
    asks_within c.args.node c.args.entries.now c.in-Some.i c.args.self.now c.loop-next.self
    (rw c.in-Some.is at c.loop-next.invariant)

pub next_of-next-requires : goal.next_of-next-requires
next_of-next-requires c =
    asks_within c.args.node c.args.entries.now c.in-Some.i c.args.self.now c.loop-next.self
    (rw c.in-Some.is at c.loop-next.invariant)

pub loop-next-smaller : goal.loop-next-smaller
loop-next-smaller c =
    rw c.in-Some.is (fewer_left c.args.node c.args.entries.now c.in-Some.i other c.next_of-next.result
    (left c))

pub loop-next-preserved : goal.loop-next-preserved
loop-next-preserved c =
    asks_more c.args.node c.args.entries.now c.in-Some.i other c.next_of-next.result c.args.self.now
    c.loop-next.self c.ask.new.self c.ask.result (rw c.in-Some.is at c.loop-next.invariant)
    (answered c.args.node _ _ _ _ _ (c.act.ensures other) c.ask.ensures) c.in_ok-tried.ensures (left c)

pub returns-in_err-tried-clause-does : goal.returns-in_err-tried-clause-does
returns-in_err-tried-clause-does c =
    let p = err_from_is_err_and c.from_residual.result c.from_residual.ensures.1 in
    rw (p.1, p.2) (asks_until c.args.node c.args.entries.now c.in-Some.i other c.args.self.now
    c.loop-next.self c.ask.new.self c.ask.result c.in_err-tried.field-0.0 (rw c.in-Some.is at c.loop-next.invariant)
    (answered c.args.node _ _ _ _ _ (c.act.ensures other) c.ask.ensures) c.in_err-tried.ensures).0

pub returns-in_err-tried-clause-at_node : goal.returns-in_err-tried-clause-at_node
returns-in_err-tried-clause-at_node c =
    (asks_until c.args.node c.args.entries.now c.in-Some.i other c.args.self.now
    c.loop-next.self c.ask.new.self c.ask.result c.in_err-tried.field-0.0 (rw c.in-Some.is at c.loop-next.invariant)
    (answered c.args.node _ _ _ _ _ (c.act.ensures other) c.ask.ensures) c.in_err-tried.ensures).1

pub returns-clause-does : goal.returns-clause-does
returns-clause-does c =
    (asks_all c.args.node c.args.entries.now c.args.self.now c.loop-next.self
    (rw c.in_default.is at c.loop-next.invariant)).0

pub returns-clause-at_node : goal.returns-clause-at_node
returns-clause-at_node c =
    (asks_all c.args.node c.args.entries.now c.args.self.now c.loop-next.self
    (rw c.in_default.is at c.loop-next.invariant)).1
