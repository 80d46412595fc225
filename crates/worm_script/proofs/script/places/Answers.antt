use Rattle.std.proofs.Common.{◌≡◌, ◌-◌, ◌≤◌, nat_lt, nat_le, drop, take, rules}
use Rattle.std.proofs.lemmas.List.Sorted.{IsPartitionPoint-from_clause, IsPartitionedBy-ltb, IsPartitionedBy-leb}
use Rattle.worm_script.specs.Script.{due}
use Rattle.worm_script.specs.declared.entry.Entry.{Entry}
use Rattle.worm_script.proofs.DueEntries.{turns_rise, part_of_turn}
use Rattle.worm_script.proofs.script.places.Goals as goal

found : (c : goal.After-partition_point-next)
    → (c.partition_point-first.result ≤ c.partition_point-next.result)
    × (take (c.partition_point-next.result - c.partition_point-first.result)
    (drop c.partition_point-first.result c.args.entries.now) ≡ due c.args.turn c.args.entries.now)
found c =
    let entries = c.args.entries.now in
    let rise = turns_rise entries c.requires in
    part_of_turn (λ (e : Entry). e.turn) entries c.args.turn c.partition_point-first.result
    c.partition_point-next.result c.partition_point-first.ensures.bound
    (IsPartitionPoint-from_clause (λ (e : Entry). nat_lt e.turn c.args.turn) entries c.partition_point-first.result
    c.partition_point-first.ensures.partitioned
    (IsPartitionedBy-ltb (λ (e : Entry). e.turn) entries c.args.turn rise) (λ a r f called. search rules))
    (IsPartitionPoint-from_clause (λ (e : Entry). nat_le e.turn c.args.turn) entries c.partition_point-next.result
    c.partition_point-next.ensures.partitioned
    (IsPartitionedBy-leb (λ (e : Entry). e.turn) entries c.args.turn rise) (λ a r f called. search rules))

pub returns-clause-rise : goal.returns-clause-rise
returns-clause-rise c = (found c).0

pub returns-clause-part : goal.returns-clause-part
returns-clause-part c = (found c).1
